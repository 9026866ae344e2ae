-- Paper 01, "Names, facilities, times", and paper 02, Ask 1: the time table, refusal 13. The tables of tags 06 and 09 are one, with times of 4 or 8 bytes.
use Rattle.std.specs.Prelude.{ℕ, ◌+◌, ◌*◌, Bool, not, ◌&&◌, List, [], ◌∷◌, map, get_or, drop, ℤ, pos, ◌+ℤ◌, ltb, leb, eqb, if◌then◌else◌}
use Rattle.std.specs.Int.Signed.{le_z, non_neg}
use Rattle.lxt_format.specs.Limits.{least_time, greatest_time}
use Rattle.lxt_format.specs.Basics.{all, any}
use Rattle.lxt_format.specs.Bytes.{number_at, numbers_at, signed}
use Rattle.lxt_format.specs.Sections.{end_of, wide_times, times_at, time_bytes, time_count}
use Rattle.lxt_format.specs.Geometry.{roots_of, sync_of}

-- "All times become signed 64-bit numbers, those of tag 06 too": the bytes of a time as such a number. Those of tag 06 are 4, widened with zeros, so that
-- it is not negative.
abbrev pub time_of_bytes : ℕ → ℤ
time_of_bytes x = signed 64 x

-- "count m (4 bytes), first and last (8 bytes each, signed), m position deltas of 4 bytes, m time deltas of 8 bytes", or 4 where it is tag 06
unfoldable pub first_time : List ℕ → ℤ
first_time s = time_of_bytes (number_at (time_bytes (wide_times s)) s (times_at s + 4))

unfoldable pub last_time : List ℕ → ℤ
last_time s = time_of_bytes (number_at (time_bytes (wide_times s)) s (times_at s + 4 + time_bytes (wide_times s)))

unfoldable pub positions_at : List ℕ → ℕ
positions_at s = times_at s + 4 + 2 * time_bytes (wide_times s)

unfoldable pub position_deltas : List ℕ → List ℕ
position_deltas s = numbers_at 4 (time_count s) s (positions_at s)

-- the bytes of each time delta, and the deltas
unfoldable pub time_delta_bytes : List ℕ → List ℕ
time_delta_bytes s = numbers_at (time_bytes (wide_times s)) (time_count s) s (positions_at s + 4 * time_count s)

unfoldable pub time_deltas : List ℕ → List ℤ
time_deltas s = map time_of_bytes (time_delta_bytes s)

-- "Running sums of the deltas give m positions and m times." The sums after `sum`; those of times are integers, which never wrap
unfoldable pub sums_by : {A : Type 0} → (A → A → A) → A → List A → List A
sums_by add sum [] = []
sums_by add sum (d ∷ ds) = add sum d ∷ sums_by add (add sum d) ds

unfoldable pub positions_of : List ℕ → List ℕ
positions_of s = sums_by ◌+◌ 0 (position_deltas s)

unfoldable pub times_of : List ℕ → List ℤ
times_of s = sums_by ◌+ℤ◌ (pos 0) (time_deltas s)

-- 13: "the first position is at least 4, every position below T, and first ≤ each time ≤ last." Paper 01 has before it "Every delta after the first is
-- at least 1", which paper 02 takes back. Ask 2: "Source document 000 lets deltas of both kinds be zero; the first position stays at least 4."
-- Ask 1: "A negative delta after the first .., or a sum that leaves the range, is refusal 13." Here m is at least 1.
abbrev pub in_range : ℤ → Bool
in_range t = le_z least_time t && le_z t greatest_time

unfoldable pub table_allowed : List ℕ → Bool
table_allowed s =
    leb 4 (get_or (positions_of s) 0 0)
    && (all (λ p. ltb p (end_of s)) (positions_of s)
    && (all non_neg (drop 1 (time_deltas s))
    && (all in_range (times_of s)
    && all (λ t. le_z (first_time s) t && le_z t (last_time s)) (times_of s))))

-- 13, with "If any root's sync entry is not 0, m is at least 1."
unfoldable pub times_allowed : List ℕ → Bool
times_allowed s =
    if eqb (time_count s) 0 then not (any (λ f. not (eqb (sync_of s f) 0)) (roots_of s))
    else table_allowed s

-- "A change at offset o has the time of the last entry with position ≤ o, or of entry 0 where none is." Ask 2 says it of equal positions: "Of several
-- entries at one position the last decides, from that position on; a change before every position still takes entry 0." The time so far is `time`.
unfoldable pub time_from : {A : Type 0} → A → List ℕ → List A → ℕ → A
time_from time [] ts o = time
time_from time (p ∷ ps) [] o = time
time_from time (p ∷ ps) (t ∷ ts) o = time_from (if leb p o then t else time) ps ts o

unfoldable pub time_of : List ℕ → ℕ → ℤ
time_of s o = time_from (get_or (times_of s) 0 (pos 0)) (positions_of s) (times_of s) o
