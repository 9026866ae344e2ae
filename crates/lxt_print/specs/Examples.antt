-- "For the trace below it prints four lines, exactly"; lines of refused files; and both sides of the longest file that is printed.
use Rattle.std.specs.Prelude.{◌≡◌, refl, List, [], ◌∷◌, ◌++◌, length, set, eqb, ℕ, if◌then◌else◌}
use Rattle.lxt_format.specs.Changes.{digits}
use Rattle.lxt_format.specs.Judge.{file_refusal}
use Rattle.lxt_format.specs.Everything.{everything}
use Rattle.lxt_format.specs.Traces.{spelled, trace}
use Rattle.lxt_format.specs.Examples.{Row, row, Holds}
use Rattle.lxt_format.specs.WideTimes as Wide
use Rattle.lxt_format.specs.ZeroDeltas.{tabled, example_a, example_b, example_c, example_d, example_e, example_f, example_g, example_h, example_i}
use Rattle.lxt_print.specs.Lines.{decimal_within, decimal, signed_decimal, hex_digit, hex_byte, hex_bytes, facility_word, change_word, done_word, refused_word, alias_word, kind_word, facility_line, value_text, change_line, done_line, refused_line, accepted_text, print_refusal, printed}

-- "facility 0 a bits 1", "change 0 6 5 0", "change 0 4 0 1", "done 2"
abbrev four_lines : List ℕ
four_lines =
    spelled 20 0x666163696C69747920302061206269747320310A
    ++ spelled 15 0x6368616E676520302036203520300A
    ++ spelled 15 0x6368616E676520302034203020310A
    ++ spelled 7 0x646F6E6520320A

pub prints_four_lines : printed trace ≡ four_lines
unfolding everything trace spelled decimal_within decimal signed_decimal hex_digit hex_byte hex_bytes facility_word change_word done_word refused_word alias_word kind_word facility_line value_text change_line done_line refused_line accepted_text print_refusal printed
prints_four_lines = refl

-- the small trace with other time tables: its lines with these texts for the times of its changes
abbrev lines_of : List ℕ → List ℕ → List ℕ
lines_of newer older =
    spelled 20 0x666163696C69747920302061206269747320310A
    ++ (spelled 11 0x6368616E67652030203620 ++ newer ++ spelled 3 0x20300A)
    ++ (spelled 11 0x6368616E67652030203420 ++ older ++ spelled 3 0x20310A)
    ++ spelled 7 0x646F6E6520320A

abbrev refused13 : List ℕ
refused13 = spelled 11 0x726566757365642031330A

-- "refused " and one digit
abbrev refused_line_of : ℕ → List ℕ
refused_line_of digit = spelled 8 0x7265667573656420 ++ digit ∷ spelled 1 0x0A

-- the printed lines of the examples 1-A to 1-L of paper 02, Ask 1
pub wide_times : List Row
wide_times =
    row 0xA (printed Wide.example_a) (lines_of (spelled 1 0x35) (spelled 2 0x2D35))
    ∷ row 0xB (printed Wide.example_b) refused13
    ∷ row 0xC (printed Wide.example_c) refused13
    ∷ row 0xD (printed Wide.example_d) refused13
    ∷ row 0xE (printed Wide.example_e) (lines_of (spelled 2 0x2D31) (spelled 20 0x2D39323233333732303336383534373735383038))
    ∷ row 0xF (printed Wide.example_f) refused13
    ∷ row 0x10 (printed Wide.example_g) refused13
    ∷ row 0x11 (printed Wide.example_h) (lines_of (spelled 1 0x33) (spelled 1 0x33))
    ∷ row 0x12 (printed Wide.example_i) (refused_line_of 0x38)
    ∷ row 0x13 (printed Wide.example_j) (refused_line_of 0x36)
    ∷ row 0x13 (printed Wide.example_j') (lines_of (spelled 1 0x35) (spelled 1 0x30))
    ∷ row 0x14 (printed Wide.example_k) (refused_line_of 0x37)
    ∷ row 0x15 (printed Wide.example_l) (lines_of (spelled 10 0x34323934393637323935) (spelled 10 0x34323934393637323934))
    ∷ []

pub wide_times_printed : Holds wide_times
unfolding everything trace spelled tabled Wide.long_tabled_as decimal_within decimal signed_decimal hex_digit hex_byte hex_bytes facility_word change_word done_word refused_word alias_word kind_word facility_line value_text change_line done_line refused_line accepted_text print_refusal printed wide_times
wide_times_printed = (refl, (refl, (refl, (refl, (refl, (refl, (refl, (refl, (refl, (refl, (refl, (refl, (refl, tt)))))))))))))

-- those of the examples 2-A to 2-I of Ask 2, whose times have one digit each
abbrev lines_with : ℕ → ℕ → List ℕ
lines_with newer older = lines_of (newer ∷ []) (older ∷ [])

pub zero_deltas : List Row
zero_deltas =
    row 0xA (printed example_a) (lines_with 0x35 0x35)
    ∷ row 0xB (printed example_b) (lines_with 0x35 0x31)
    ∷ row 0xC (printed example_c) (lines_with 0x33 0x31)
    ∷ row 0xD (printed example_d) (lines_with 0x35 0x35)
    ∷ row 0xE (printed example_e) (lines_with 0x35 0x30)
    ∷ row 0xF (printed example_f) refused13
    ∷ row 0x10 (printed example_g) refused13
    ∷ row 0x11 (printed example_h) refused13
    ∷ row 0x12 (printed example_i) (lines_with 0x30 0x30)
    ∷ []

pub zero_deltas_printed : Holds zero_deltas
unfolding everything trace spelled tabled decimal_within decimal signed_decimal hex_digit hex_byte hex_bytes facility_word change_word done_word refused_word alias_word kind_word facility_line value_text change_line done_line refused_line accepted_text print_refusal printed zero_deltas
zero_deltas_printed = (refl, (refl, (refl, (refl, (refl, (refl, (refl, (refl, (refl, tt)))))))))

-- "refused 1"
refused_1 : refused_line 1 ≡ spelled 10 0x7265667573656420310A
unfolding spelled digits decimal_within decimal refused_word refused_line
refused_1 = refl

-- an empty file
pub refused_empty : printed [] ≡ spelled 10 0x7265667573656420310A
unfolding everything spelled decimal_within decimal refused_word refused_line accepted_text print_refusal printed
refused_empty = refl

-- the trace with a command that no bit facility has: "refused 16"
pub refused_command : printed (set trace 4 0x0C) ≡ spelled 11 0x726566757365642031360A
unfolding everything trace spelled decimal_within decimal refused_word refused_line accepted_text print_refusal printed
refused_command = refl

module _ (s : List ℕ) where
  -- a byte more than the longest is refused, whatever the bytes
  longer : length s ≡ 65537 → printed s ≡ refused_line 1
  unfolding print_refusal printed
  longer h = rw h

  pub refused_longer : length s ≡ 65537 → printed s ≡ spelled 10 0x7265667573656420310A
  unfolding print_refusal printed
  refused_longer h = rw h refused_1

  -- the longest is judged
  pub judged_longest : length s ≡ 65536 → printed s ≡ (if eqb (file_refusal s) 0 then accepted_text s else refused_line (file_refusal s))
  unfolding print_refusal printed
  judged_longest h = rw h
