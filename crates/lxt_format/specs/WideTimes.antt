-- Paper 02, Ask 1: time tables of tag 09, what is accepted, and the times of changes. Signed 64-bit numbers are spelled by their bits.
use Rattle.std.specs.Prelude.{ℕ, ◌-◌, refl, true, false, List, [], ◌∷◌, ◌++◌, map, length, take, drop, ℤ, pos, negsuc}
use Rattle.lxt_format.specs.Limits.{least_time, greatest_time}
use Rattle.lxt_format.specs.Basics.{given, refused, joined}
use Rattle.lxt_format.specs.Judge.{file_refusal}
use Rattle.lxt_format.specs.ShortTimes.{short_refusal}
use Rattle.lxt_format.specs.Walk.{full_list}
use Rattle.lxt_format.specs.Answers.{Timed, bits_of}
use Rattle.lxt_format.specs.Questions.{change_asked, change_buffer, value_buffer}
use Rattle.lxt_format.specs.Everything.{everything}
use Rattle.lxt_format.specs.Traces.{spelled, with32, trace, entries, sync_entry, end_of_trace, times_value, changes_value}
use Rattle.lxt_format.specs.Examples.{Row, row, Holds, pair}
use Rattle.lxt_format.specs.ZeroDeltas.{tabled}

-- the bits of a signed 64-bit number
abbrev bits_of_time : ℤ → ℕ
bits_of_time (pos n) = n
bits_of_time (negsuc n) = 0xFFFFFFFFFFFFFFFF - n

-- a section list's item
abbrev pub item : ℕ → ℕ → List ℕ
item value tag = spelled 4 value ++ spelled 1 tag

-- the small trace, whose changes are at 4 and 6, with a table of tag 09 that says it has m entries
unfoldable pub long_tabled_as : ℕ → ℤ → ℤ → List ℕ → List ℤ → List ℕ
unfolding trace spelled
long_tabled_as m first last positions times =
    take entries trace
    ++ spelled 4 m
    ++ spelled 8 (bits_of_time first)
    ++ spelled 8 (bits_of_time last)
    ++ joined (spelled 4) positions
    ++ joined (λ t. spelled 8 (bits_of_time t)) times
    ++ take 21 (drop end_of_trace trace)
    ++ item 40 0x09
    ++ spelled 1 0xB4

abbrev pub long_tabled : ℤ → ℤ → List ℕ → List ℤ → List ℕ
long_tabled first last positions times = long_tabled_as (length positions) first last positions times

-- the small trace with one more item before its last byte
abbrev pub and_item : ℕ → ℕ → List ℕ
and_item value tag = take 94 trace ++ item value tag ++ spelled 1 0xB4

-- the examples 1-A to 1-L
abbrev pub example_a : List ℕ
example_a = long_tabled (negsuc 4) (pos 5) (4 ∷ 2 ∷ []) (negsuc 4 ∷ pos 10 ∷ [])

abbrev pub example_b : List ℕ
example_b = long_tabled least_time greatest_time (4 ∷ 2 ∷ []) (pos 10 ∷ negsuc 0 ∷ [])

abbrev pub example_c : List ℕ
example_c = long_tabled least_time greatest_time (4 ∷ 2 ∷ []) (greatest_time ∷ pos 1 ∷ [])

abbrev pub example_d : List ℕ
example_d = long_tabled least_time greatest_time (4 ∷ 2 ∷ []) (least_time ∷ least_time ∷ [])

abbrev pub example_e : List ℕ
example_e = long_tabled least_time greatest_time (4 ∷ 2 ∷ []) (least_time ∷ greatest_time ∷ [])

abbrev pub example_f : List ℕ
example_f = long_tabled (pos 0) (negsuc 0) (4 ∷ []) (negsuc 0 ∷ [])

abbrev pub example_g : List ℕ
example_g = long_tabled (pos 5) (negsuc 4) [] []

abbrev pub example_h : List ℕ
example_h = long_tabled (negsuc 4) (pos 5) (4 ∷ 2 ∷ []) (pos 3 ∷ pos 0 ∷ [])

abbrev pub example_i : List ℕ
example_i = long_tabled_as 3 (negsuc 4) (pos 5) (4 ∷ 2 ∷ []) (negsuc 4 ∷ pos 10 ∷ [])

abbrev pub example_j : List ℕ
example_j = and_item 40 0x09

abbrev pub example_j' : List ℕ
example_j' = and_item 0 0x09

abbrev pub example_k : List ℕ
example_k = with32 trace times_value 0

abbrev pub example_l : List ℕ
example_l = tabled 0 0xFFFFFFFF (4 ∷ 2 ∷ []) (0xFFFFFFFE ∷ 1 ∷ [])

-- what is answered of one of its changes, and the lent byte
abbrev said : List ℕ → ℕ → Timed × List ℕ
said s o = (change_asked s 0 o 1, change_buffer s 0 o (0xFF ∷ []))

-- of the file: its refusal, and what is answered of the newer change and of the older
abbrev shown : List ℕ → ℕ × ((Timed × List ℕ) × (Timed × List ℕ))
shown s = (file_refusal s, (said s 6, said s 4))

-- the newer change, 0, and the older, 1, have these times
abbrev accepted : ℤ → ℤ → ℕ × ((Timed × List ℕ) × (Timed × List ℕ))
accepted newer older =
    (0, ((record { time = newer; value = given (bits_of 1); clean = true }, 0x30 ∷ []), (record { time = older; value = given (bits_of 1); clean = true }, 0x31 ∷ [])))

-- refused, and so is each question, which changes nothing lent
abbrev refused_as : ℕ → ℕ × ((Timed × List ℕ) × (Timed × List ℕ))
refused_as k =
    let no : Timed × List ℕ = (record { time = pos 0; value = refused k; clean = false }, 0xFF ∷ []) in
    (k, (no, no))

-- the symbols at these times
abbrev shown_at : List ℕ → List ℤ → List ℕ
shown_at s times = joined (λ t. value_buffer s 0 t (0xFF ∷ [])) times

-- a table of one entry at the least first and last
abbrev single : ℤ → ℤ → ℤ → List ℕ
single first last time = long_tabled first last (4 ∷ []) (time ∷ [])

-- rows 0xA to 0x15 are about the examples 1-A to 1-L
pub wide_times : List Row
wide_times =
    row 0xA example_a
    (spelled 111 0x0138000404020300000000010000000200006100000000000000000000000000000000000000000600000002FFFFFFFFFFFFFFFB00000000000000050000000400000002FFFFFFFFFFFFFFFB000000000000000A0000000004010000002402000000080300000014040000002809B4)
    ∷ row 0xA (shown example_a) (accepted (pos 5) (negsuc 4))
    ∷ row 0xA (shown_at example_a (least_time ∷ negsuc 5 ∷ negsuc 4 ∷ pos 4 ∷ pos 5 ∷ greatest_time ∷ [])) (spelled 6 0x585831313030)
    ∷ row 0xB (shown example_b) (refused_as 13)
    ∷ row 0xC (shown example_c) (refused_as 13)
    ∷ row 0xD (shown example_d) (refused_as 13)
    ∷ row 0xE (shown example_e) (accepted (negsuc 0) least_time)
    ∷ row 0xE (shown_at example_e (least_time ∷ negsuc 1 ∷ negsuc 0 ∷ greatest_time ∷ [])) (spelled 4 0x31313030)
    ∷ row 0xF (shown example_f) (refused_as 13)
    ∷ row 0x10 (shown example_g) (refused_as 13)
    ∷ row 0x10 (file_refusal (with32 example_g sync_entry 0)) 0
    ∷ row 0x11 (shown example_h) (accepted (pos 3) (pos 3))
    ∷ row 0x12 (shown example_i) (refused_as 8)
    ∷ row 0x13 (shown example_j) (refused_as 6)
    ∷ row 0x13 (shown example_j') (accepted (pos 5) (pos 0))
    ∷ row 0x14 (shown example_k) (refused_as 7)
    ∷ row 0x15 (shown example_l) (accepted (pos 4294967295) (pos 4294967294))
    -- of tag 06 no time is negative, and times that are asked for may be anything
    ∷ row 0x15 (shown_at example_l (least_time ∷ negsuc 0 ∷ pos 4294967293 ∷ pos 4294967294 ∷ pos 4294967295 ∷ greatest_time ∷ [])) (spelled 6 0x585858313030)
    -- by the rules before Ask 1
    ∷ row 3 (map short_refusal (example_a ∷ example_j ∷ example_j' ∷ example_k ∷ example_l ∷ [])) (6 ∷ 6 ∷ 0 ∷ 7 ∷ 0 ∷ [])
    -- the walk is that of the small trace
    ∷ row 0xA (full_list example_a (1 ∷ [])) (pair 0 6 ∷ pair 0 4 ∷ [])
    -- both ends of the range; a sum at its end, and one past it
    ∷ row 1 (shown (single least_time least_time least_time)) (accepted least_time least_time)
    ∷ row 1 (shown (single greatest_time greatest_time greatest_time)) (accepted greatest_time greatest_time)
    ∷ row 1 (shown (long_tabled (pos 0) greatest_time (4 ∷ 2 ∷ []) (pos 1 ∷ pos 9223372036854775806 ∷ []))) (accepted greatest_time (pos 1))
    ∷ row 1 (shown (long_tabled (pos 0) greatest_time (4 ∷ 2 ∷ []) (pos 1 ∷ greatest_time ∷ []))) (refused_as 13)
    -- from first to last, compared as signed numbers
    ∷ row 2 (shown (single (negsuc 0) (pos 0) (negsuc 0))) (accepted (negsuc 0) (negsuc 0))
    ∷ row 2 (shown (single (negsuc 0) (pos 0) (negsuc 1))) (refused_as 13)
    ∷ row 2 (shown (single (negsuc 0) (pos 0) (pos 1))) (refused_as 13)
    -- times that differ in their high half alone
    ∷ row 2 (shown (long_tabled (pos 0) (pos 0x500000007) (4 ∷ 2 ∷ []) (pos 0x100000007 ∷ pos 0x400000000 ∷ []))) (accepted (pos 0x500000007) (pos 0x100000007))
    -- the body of 09 up to T, and past it: 12 m of 32 bits would be 8
    ∷ row 8 (file_refusal (long_tabled_as 357913942 (pos 0) (pos 5) (4 ∷ 2 ∷ []) (pos 0 ∷ pos 5 ∷ []))) 8
    ∷ row 8 (file_refusal (with32 example_a 105 41)) 8
    ∷ row 8 (file_refusal (with32 example_a 105 3)) 8
    ∷ row 8 (file_refusal (with32 example_a 105 65)) 8
    -- 5 and 6 before 7; without 06 and 09 it is 7; of a tag met twice the one nearer END counts
    ∷ row 6 (file_refusal (with32 example_j changes_value 0)) 6
    ∷ row 7 (file_refusal (with32 example_a 105 0)) 7
    ∷ row 7 (shown (take 89 example_j' ++ item 40 0x06 ++ item 40 0x09 ++ spelled 1 0xB4)) (refused_as 6)
    ∷ row 7 (shown (take 69 trace ++ item 0 0x09 ++ drop 69 example_j)) (accepted (pos 5) (pos 0))
    ∷ []

pub wide_times_hold : Holds wide_times
unfolding everything trace spelled tabled long_tabled_as wide_times
wide_times_hold =
    (refl, (refl, (refl, (refl, (refl, (refl, (refl, (refl, (refl, (refl, (refl, (refl, (refl, (refl, (refl, (refl, (refl, (refl, (refl, (refl, (refl, (refl, (refl, (refl, (refl, (refl, (refl, (refl, (refl, (refl, (refl, (refl, (refl, (refl, (refl, (refl, tt))))))))))))))))))))))))))))))))))))
