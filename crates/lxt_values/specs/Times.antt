-- What the functions on times ask of the file, and what they answer.
use Rattle.std.specs.Prelude.{ℕ, suc, ◌+◌, ◌≤◌, ◌<◌, ◌≡◌, Bool, true, List, [], ◌∷◌, length, ℤ, ltb, eqb, if◌then◌else◌, Option, Some, None}
use Rattle.std.specs.Int.Signed.{le_z}
use Rattle.lxt_format.specs.Sections.{end_of, wide_times, times_at, time_count, times_size}
use Rattle.lxt_format.specs.Times.{times_allowed, time_of}
use Rattle.lxt_format.specs.Changes.{data_at}

-- where the time table starts, m, and whether its times have 8 bytes; it lies in the file and breaks no rule, and so does T
pub record Times (s : List ℕ) (times m : ℕ) (wide : Bool) : Type 0 where
  pub start : times ≡ times_at s
  pub count : m ≡ time_count s
  pub form : wide ≡ wide_times s
  pub inside : times + times_size wide m ≤ length s
  pub end : end_of s ≤ length s
  pub allowed : times_allowed s ≡ true

-- below the offset P, and only there, a change has a time of at most t
pub record Limit (s : List ℕ) (t : ℤ) (P : ℕ) : Type 0 where
  pub below : (o : ℕ) → o < length s → le_z (time_of s o) t ≡ ltb o P

-- the command byte and the delta of each change lie in the file
pub data Readable (s : List ℕ) : List ℕ → Type 0 where
  no_change : Readable s []
  change : {o : ℕ} {os : List ℕ} → o < length s → data_at s o ≤ length s → Readable s os → Readable s (o ∷ os)

-- the offset of a change that was looked for, where 0 is none
unfoldable pub found_at : ℕ → Option ℕ
found_at o = if eqb o 0 then None else Some o

-- the first of the offsets that lies below P, or 0, and how many are visited to find it
unfoldable pub first_below : ℕ → List ℕ → ℕ
first_below P [] = 0
first_below P (o ∷ os) = if ltb o P then o else first_below P os

unfoldable pub visited_to : ℕ → List ℕ → ℕ
visited_to P [] = 0
visited_to P (o ∷ os) = if ltb o P then 1 else suc (visited_to P os)
