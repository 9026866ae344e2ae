-- Paper 02, Ask 2: time tables with deltas of zero, what is accepted, and the times of changes.
use Rattle.std.specs.Prelude.{ℕ, refl, true, false, List, [], ◌∷◌, ◌++◌, map, length, take, drop, pos}
use Rattle.lxt_format.specs.Basics.{given, refused, joined}
use Rattle.lxt_format.specs.Judge.{file_refusal}
use Rattle.lxt_format.specs.RisingTimes.{rising_refusal}
use Rattle.lxt_format.specs.Walk.{full_list}
use Rattle.lxt_format.specs.Answers.{Timed, bits_of}
use Rattle.lxt_format.specs.Questions.{change_asked, change_buffer, value_buffer}
use Rattle.lxt_format.specs.Everything.{everything}
use Rattle.lxt_format.specs.Traces.{spelled, trace, entries, end_of_trace}
use Rattle.lxt_format.specs.Examples.{Row, row, Holds, pair}

-- the small trace, whose changes are at 4 and 6, with another time table
unfoldable pub tabled : ℕ → ℕ → List ℕ → List ℕ → List ℕ
unfolding trace spelled
tabled first last positions times =
    take entries trace
    ++ spelled 4 (length positions)
    ++ spelled 4 first
    ++ spelled 4 last
    ++ joined (spelled 4) positions
    ++ joined (spelled 4) times
    ++ drop end_of_trace trace

-- the examples 2-A to 2-I
abbrev pub example_a : List ℕ
example_a = tabled 0 5 (4 ∷ 0 ∷ []) (0 ∷ 5 ∷ [])

abbrev pub example_b : List ℕ
example_b = tabled 0 5 (5 ∷ 0 ∷ []) (1 ∷ 4 ∷ [])

abbrev pub example_c : List ℕ
example_c = tabled 0 5 (6 ∷ 0 ∷ 0 ∷ []) (1 ∷ 1 ∷ 1 ∷ [])

abbrev pub example_d : List ℕ
example_d = tabled 0 5 (4 ∷ 2 ∷ []) (5 ∷ 0 ∷ [])

abbrev pub example_e : List ℕ
example_e = tabled 0 5 (4 ∷ 2 ∷ 0 ∷ []) (0 ∷ 5 ∷ 0 ∷ [])

abbrev pub example_f : List ℕ
example_f = tabled 0 5 (0 ∷ 4 ∷ []) (0 ∷ 5 ∷ [])

abbrev pub example_g : List ℕ
example_g = tabled 0 5 (3 ∷ 0 ∷ []) (0 ∷ 5 ∷ [])

abbrev pub example_h : List ℕ
example_h = tabled 1 5 (4 ∷ 0 ∷ []) (0 ∷ 5 ∷ [])

abbrev pub example_i : List ℕ
example_i = tabled 0 5 (67 ∷ 0 ∷ []) (0 ∷ 5 ∷ [])

-- what is answered of one of its changes, and the lent byte
abbrev said : List ℕ → ℕ → Timed × List ℕ
said s o = (change_asked s 0 o 1, change_buffer s 0 o (0xFF ∷ []))

-- of the file: its refusal by the old rule and by the new one, and what is answered of the newer change and of the older
abbrev shown : List ℕ → (ℕ × ℕ) × (Timed × List ℕ) × (Timed × List ℕ)
shown s = ((rising_refusal s, file_refusal s), said s 6, said s 4)

-- refused 13 by the old rule and accepted by the new one; the newer change, 0, and the older, 1, have these times
abbrev accepted : ℕ → ℕ → (ℕ × ℕ) × (Timed × List ℕ) × (Timed × List ℕ)
accepted newer older =
    ((13, 0), (record { time = pos newer; value = given (bits_of 1); clean = true }, 0x30 ∷ []), (record { time = pos older; value = given (bits_of 1); clean = true }, 0x31 ∷ []))

-- refused 13 by both, and so is each question, which changes nothing lent
abbrev refused13 : (ℕ × ℕ) × (Timed × List ℕ) × (Timed × List ℕ)
refused13 =
    let no : Timed × List ℕ = (record { time = pos 0; value = refused 13; clean = false }, 0xFF ∷ []) in
    ((13, 13), no, no)

-- the symbols at these times
abbrev shown_at : List ℕ → List ℕ → List ℕ
shown_at s times = joined (λ t. value_buffer s 0 (pos t) (0xFF ∷ [])) times

-- rows 0xA to 0x12 are about the examples 2-A to 2-I
pub zero_deltas : List Row
zero_deltas =
    row 0xA (shown example_a) (accepted 5 5)
    ∷ row 0xB (shown example_b) (accepted 5 1)
    ∷ row 0xC (shown example_c) (accepted 3 1)
    ∷ row 0xD (shown example_d) (accepted 5 5)
    ∷ row 0xE (shown example_e) (accepted 5 0)
    ∷ row 0xF (shown example_f) refused13
    ∷ row 0x10 (shown example_g) refused13
    ∷ row 0x11 (shown example_h) refused13
    ∷ row 0x12 (shown example_i) (accepted 0 0)
    -- the walk is that of the small trace
    ∷ row 0xA (full_list example_a (1 ∷ [])) (pair 0 6 ∷ pair 0 4 ∷ [])
    -- the values around the times of equal positions: X, the initial symbol, before the first
    ∷ row 0xA (shown_at example_a (0 ∷ 4 ∷ 5 ∷ [])) (spelled 3 0x585830)
    ∷ row 0xB (shown_at example_b (0 ∷ 1 ∷ 4 ∷ 5 ∷ [])) (spelled 4 0x58313130)
    ∷ row 0xC (shown_at example_c (0 ∷ 1 ∷ 2 ∷ 3 ∷ [])) (spelled 4 0x58313130)
    ∷ row 0xD (shown_at example_d (4 ∷ 5 ∷ [])) (spelled 2 0x5830)
    ∷ row 0x12 (shown_at example_i (0 ∷ 5 ∷ [])) (spelled 2 0x3030)
    -- all entries at the first position, at 4 and above both changes; equal times, at first and at last
    ∷ row 1 (shown (tabled 7 7 (4 ∷ 0 ∷ 0 ∷ []) (7 ∷ 0 ∷ 0 ∷ []))) (accepted 7 7)
    ∷ row 1 (shown (tabled 7 9 (7 ∷ 0 ∷ 0 ∷ []) (7 ∷ 1 ∷ 1 ∷ []))) (accepted 7 7)
    ∷ row 1 (shown (tabled 0 0 (4 ∷ 2 ∷ []) (0 ∷ 0 ∷ []))) (accepted 0 0)
    -- a position of T - 1 and of T
    ∷ row 1 (shown (tabled 0 5 (67 ∷ 0 ∷ []) (0 ∷ 0 ∷ []))) (accepted 0 0)
    ∷ row 1 (shown (tabled 0 5 (68 ∷ 0 ∷ []) (0 ∷ 0 ∷ []))) refused13
    -- each time is tested, that of an entry which no change takes too: above last, below first
    ∷ row 1 (shown (tabled 0 5 (4 ∷ 0 ∷ 0 ∷ []) (0 ∷ 5 ∷ 0 ∷ []))) (accepted 5 5)
    ∷ row 1 (shown (tabled 0 5 (6 ∷ 0 ∷ 61 ∷ []) (0 ∷ 5 ∷ 1 ∷ []))) refused13
    ∷ row 1 (shown (tabled 5 5 (6 ∷ 0 ∷ []) (4 ∷ 1 ∷ []))) refused13
    -- the first position is tested whatever follows, and sums do not wrap
    ∷ row 1 (shown (tabled 0 5 (3 ∷ 1 ∷ []) (0 ∷ 0 ∷ []))) refused13
    ∷ row 1 (shown (tabled 0 5 (4 ∷ 0 ∷ 0xFFFFFFFF ∷ []) (0 ∷ 0 ∷ 0 ∷ []))) refused13
    ∷ row 1 (shown (tabled 0 0xFFFFFFFF (4 ∷ 0 ∷ []) (0xFFFFFFFF ∷ 0 ∷ []))) (accepted 0xFFFFFFFF 0xFFFFFFFF)
    ∷ row 1 (shown (tabled 0 0xFFFFFFFF (4 ∷ 0 ∷ []) (0xFFFFFFFF ∷ 1 ∷ []))) refused13
    -- what the old rule accepts
    ∷ row 2 (map rising_refusal (trace ∷ tabled 0 5 (4 ∷ []) (5 ∷ []) ∷ tabled 0 5 (4 ∷ 1 ∷ []) (0 ∷ 1 ∷ []) ∷ [])) (0 ∷ 0 ∷ 0 ∷ [])
    ∷ []

pub zero_deltas_hold : Holds zero_deltas
unfolding everything trace spelled tabled zero_deltas
zero_deltas_hold =
    (refl, (refl, (refl, (refl, (refl, (refl, (refl, (refl, (refl, (refl, (refl, (refl, (refl, (refl, (refl, (refl, (refl, (refl, (refl, (refl, (refl, (refl, (refl, (refl, (refl, (refl, (refl, (refl, tt))))))))))))))))))))))))))))
