-- The rule of 13 before paper 02, Ask 2, and what Ask 2 promises: "A trace accepted before keeps all its answers."
use Rattle.std.specs.Prelude.{ℕ, ◌≤◌, ◌<◌, ◌≡◌, Bool, true, ◌&&◌, List, get_or, drop, ℤ, pos, leb, eqb, if◌then◌else◌}
use Rattle.std.specs.Int.Signed.{le_z}
use Rattle.lxt_format.specs.Basics.{◌unless◌, ◌or_else◌, all}
use Rattle.lxt_format.specs.Sections.{time_count, times_once, sections_present, bodies_inside}
use Rattle.lxt_format.specs.Times.{position_deltas, time_deltas, positions_of, times_of, table_allowed, times_allowed, time_of}
use Rattle.lxt_format.specs.Judge.{tables_refusal_by, tables_refusal, chains_refusal, changes_apart, file_refusal}

-- ---- the rule of paper 01

-- 13: "Every delta after the first is at least 1"; the rest is the rule that holds
unfoldable pub rising_table_allowed : List ℕ → Bool
rising_table_allowed s = all (leb 1) (drop 1 (position_deltas s)) && (all (le_z (pos 1)) (drop 1 (time_deltas s)) && table_allowed s)

-- without an entry the rule is the same
unfoldable pub rising_times_allowed : List ℕ → Bool
rising_times_allowed s = if eqb (time_count s) 0 then times_allowed s else rising_table_allowed s

-- checks 1 to 14 with it
unfoldable pub rising_tables_refusal : List ℕ → ℕ
rising_tables_refusal s = tables_refusal_by (times_once s) (sections_present s) (bodies_inside s) (rising_times_allowed s) s

-- the refusal of a file with it
unfoldable pub rising_refusal : List ℕ → ℕ
rising_refusal s = rising_tables_refusal s or_else chains_refusal s or_else 17 unless changes_apart s

-- ---- what is kept

-- Entry i may give the time of a change at o by the words of paper 01, "the last entry with position ≤ o, or .. entry 0 where none is", where last is
-- only said of positions: it is any of those entries at or before o above which no other lies.
pub data Gives (s : List ℕ) (o i : ℕ) : Type 0 where
  reached : i < time_count s → get_or (positions_of s) i 0 ≤ o
      → ((j : ℕ) → j < time_count s → get_or (positions_of s) j 0 ≤ o → get_or (positions_of s) j 0 ≤ get_or (positions_of s) i 0) → Gives s o i
  before_all : i ≡ 0 → ((j : ℕ) → j < time_count s → o < get_or (positions_of s) j 0) → Gives s o i

-- The claims, which RisingTimesLaws proves. A file that the old rule does not refuse as 13 has the refusal that it had: none where it was accepted. So
-- it is for every call that judges, and for carrying on, which makes checks 1 to 14.
abbrev pub KeepsRefusals : Type 0
KeepsRefusals = (s : List ℕ) → (rising_refusal s ≡ 13 → ⊥) → (file_refusal s ≡ rising_refusal s) × (tables_refusal s ≡ rising_tables_refusal s)

-- In a table that the old rule allows each change has the time of every entry that may give it: which of equal positions decides does not touch it.
abbrev pub KeepsTimes : Type 0
KeepsTimes = (s : List ℕ) → rising_times_allowed s ≡ true → (o i : ℕ) → Gives s o i → time_of s o ≡ get_or (times_of s) i (pos 0)

-- times of changes as a reader by the words of paper 01 may find them, whichever it takes of several entries at one position
abbrev pub TimesRead : List ℕ → (ℕ → ℤ) → Type 0
TimesRead s time = (o : ℕ) → (i : ℕ) × (Gives s o i × (time o ≡ get_or (times_of s) i (pos 0)))

-- `time_of` is one such reading, of any table
abbrev pub ReadsTimes : Type 0
ReadsTimes = (s : List ℕ) → TimesRead s (time_of s)

-- So each answer about a file that the old rule accepts is kept: whatever is made of its refusals, of the times of its changes in any such reading, and
-- of what Ask 2 leaves alone.
abbrev pub KeepsAnswers : Type 1
KeepsAnswers =
    (s : List ℕ) → rising_refusal s ≡ 0 → (time : ℕ → ℤ) → TimesRead s time
    → (A : Type 0) (answer : ℕ → ℕ → (ℕ → ℤ) → A) → answer (file_refusal s) (tables_refusal s) (time_of s) ≡ answer (rising_refusal s) (rising_tables_refusal s) time
