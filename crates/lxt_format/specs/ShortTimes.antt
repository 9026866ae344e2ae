-- The times of tag 06 before paper 02, Ask 1, as numbers of 32 bits and their sums, and the claim that a file with them alone keeps its answers.
use Rattle.std.specs.Prelude.{ℕ, ◌+◌, ◌*◌, max, ◌≡◌, Bool, false, not, ◌&&◌, ◌||◌, List, [], ◌∷◌, get_or, pos, ltb, leb, eqb, if◌then◌else◌}
use Rattle.lxt_format.specs.Basics.{◌unless◌, ◌or_else◌, range, all, any}
use Rattle.lxt_format.specs.Bytes.{u32_at, numbers_at}
use Rattle.lxt_format.specs.BytesLaws.{AreBytes}
use Rattle.lxt_format.specs.Sections.{section_of, present, end_of, changes_from, facility_count, inside}
use Rattle.lxt_format.specs.Geometry.{roots_of, sync_of}
use Rattle.lxt_format.specs.Times.{sums_by, time_from, time_of}
use Rattle.lxt_format.specs.Values.{latest_at}
use Rattle.lxt_format.specs.Judge.{tables_refusal_by, tables_refusal, chains_refusal, changes_apart, file_refusal}

-- ---- refusals 7 and 8

-- 7: "01, 02, 03, 04 or 06 absent"
unfoldable pub short_sections_present : List ℕ → Bool
short_sections_present s = all (present s) (0x01 ∷ 0x02 ∷ 0x03 ∷ 0x04 ∷ 0x06 ∷ [])

unfoldable pub short_count : List ℕ → ℕ
short_count s = u32_at s (section_of s 0x06)

-- 8, where 06 has three numbers of 4 bytes and two deltas of 4 bytes for each entry
unfoldable pub short_size : List ℕ → ℕ → ℕ
short_size s tag =
    if eqb tag 0x02 then 4 * facility_count s
    else if eqb tag 0x03 then 8
    else if eqb tag 0x04 then 16 * facility_count s
    else if eqb tag 0x06 then 12 + 8 * short_count s
    else 1

unfoldable pub short_bodies_inside : List ℕ → Bool
short_bodies_inside s =
    all (λ tag. not (present s tag) || inside (end_of s) (section_of s tag) (short_size s tag)) (range 0x02 6)
    && inside (end_of s) (changes_from s) 0

-- ---- refusal 13, and times

-- "count m, first, last, m position deltas, m time deltas, 4 bytes each"
unfoldable pub short_positions : List ℕ → List ℕ
short_positions s = sums_by ◌+◌ 0 (numbers_at 4 (short_count s) s (section_of s 0x06 + 12))

unfoldable pub short_times : List ℕ → List ℕ
short_times s = sums_by ◌+◌ 0 (numbers_at 4 (short_count s) s (section_of s 0x06 + 12 + 4 * short_count s))

unfoldable pub short_table_allowed : List ℕ → Bool
short_table_allowed s =
    leb 4 (get_or (short_positions s) 0 0)
    && (all (λ p. ltb p (end_of s)) (short_positions s)
    && all (λ t. leb (u32_at s (section_of s 0x06 + 4)) t && leb t (u32_at s (section_of s 0x06 + 8))) (short_times s))

unfoldable pub short_times_allowed : List ℕ → Bool
short_times_allowed s =
    if eqb (short_count s) 0 then not (any (λ f. not (eqb (sync_of s f) 0)) (roots_of s))
    else short_table_allowed s

unfoldable pub short_time_of : List ℕ → ℕ → ℕ
short_time_of s o = time_from (get_or (short_times s) 0 0) (short_positions s) (short_times s) o

-- "the change of highest offset with time ≤ t"
unfoldable pub short_latest_at : List ℕ → ℕ → List ℕ → ℕ
short_latest_at s t [] = 0
short_latest_at s t (o ∷ os) = if leb (short_time_of s o) t then max o (short_latest_at s t os) else short_latest_at s t os

-- ---- refusals

-- checks 1 to 14, where 6 was "counting tag 09 not 0", and the refusal of a file
unfoldable pub short_tables_refusal : List ℕ → ℕ
short_tables_refusal s = tables_refusal_by (not (present s 0x09)) (short_sections_present s) (short_bodies_inside s) (short_times_allowed s) s

unfoldable pub short_refusal : List ℕ → ℕ
short_refusal s = short_tables_refusal s or_else chains_refusal s or_else 17 unless changes_apart s

-- ---- what is kept

-- The claims, which ShortTimesLaws proves. A file that was not refused as 6 has the refusal that it had: none where it was accepted.
abbrev pub KeepsShortRefusals : Type 0
KeepsShortRefusals = (s : List ℕ) → AreBytes s → (short_refusal s ≡ 6 → ⊥) → (file_refusal s ≡ short_refusal s) × (tables_refusal s ≡ short_tables_refusal s)

-- Where tag 09 is absent, as in all that were accepted, each change has the time that it had, and at a time from 0 on the same change gives the value.
abbrev pub KeepsShortTimes : Type 0
KeepsShortTimes =
    (s : List ℕ) → AreBytes s → present s 0x09 ≡ false
    → ((o : ℕ) → time_of s o ≡ pos (short_time_of s o)) × ((t : ℕ) (os : List ℕ) → latest_at s (pos t) os ≡ short_latest_at s t os)
