-- What the functions of this crate ask of the places of the tables.
use Rattle.std.specs.Prelude.{ℕ, ◌+◌, ◌-◌, ◌*◌, ◌≤◌, ◌<◌, ◌≡◌, Bool, true, ◌&&◌, List, [], ◌∷◌, length, get_or, ltb, leb}
use Rattle.std.specs.Int.Signed.{mag}
use Rattle.lxt_format.specs.Limits.{longest_file, most_facilities}
use Rattle.lxt_format.specs.Sections.{section_of, end_of, facility_count, wide_times, times_at, time_count, times_size}
use Rattle.lxt_format.specs.Geometry.{root_of, aliases_allowed}
use Rattle.lxt_format.specs.Times.{time_of_bytes, first_time, last_time, position_deltas, time_delta_bytes}
use Rattle.lxt_format.specs.BiasedTimes.{bias, biased}
use Rattle.lxt_sections.specs.Stage.{sections_refusal, sections_of}
use Rattle.lxt_sections.specs.declared.Sections.{Sections}
use Rattle.lxt_tables.specs.Stage.{Geometry}

-- where the sync table lies, and n
pub record Sync (s : List ℕ) (sync n : ℕ) : Type 0 where
  pub start : sync ≡ section_of s 0x02
  pub count : n ≡ facility_count s
  pub inside : sync + 4 * n ≤ length s

-- a table of roots: an entry below n is the root of its facility, and the first f are known
pub record Roots (s : List ℕ) (n f : ℕ) (roots : List ℕ) : Type 0 where
  pub room : n ≤ length roots
  pub right : (g : ℕ) → g < n → get_or roots g 0 < n → get_or roots g 0 ≡ root_of s g
  pub first : (g : ℕ) → g < f → get_or roots g 0 < n

-- what a table has below n is right; an empty one has nothing
pub record Right (s : List ℕ) (n : ℕ) (roots : List ℕ) : Type 0 where
  pub entry : (g : ℕ) → g < n → g < length roots → get_or roots g 0 < n → get_or roots g 0 ≡ root_of s g

-- a table of roots, and a root of f to store
pub record Stores (s : List ℕ) (n f root : ℕ) (roots : List ℕ) : Type 0 where
  pub table : Roots s n f roots
  pub inside : f < n
  pub root_is : root ≡ root_of s f
  pub found : root < n

-- whether every facility has a root, and then a table of them
pub record Resolved (s : List ℕ) (n : ℕ) (allowed : Bool) (roots : List ℕ) : Type 0 where
  pub answer : allowed ≡ aliases_allowed s
  pub room : n ≤ length roots
  pub roots_are : allowed ≡ true → (f : ℕ) → f < n → get_or roots f 0 ≡ root_of s f

-- where the time table lies, m, whether its times have 8 bytes, and T
pub record Times (s : List ℕ) (times m : ℕ) (wide : Bool) (end : ℕ) : Type 0 where
  pub start : times ≡ times_at s
  pub count : m ≡ time_count s
  pub form : wide ≡ wide_times s
  pub limit : end ≡ end_of s
  pub low : 4 ≤ end
  pub high : end ≤ length s
  pub inside : times + times_size wide m ≤ length s

-- what a table with an entry begins with: its first position, and with the bias its first and last fields and its first time
pub record Begins (s : List ℕ) (position low high time : ℕ) : Type 0 where
  pub position_is : position ≡ get_or (position_deltas s) 0 0
  pub low_is : low ≡ biased (first_time s)
  pub high_is : high ≡ biased (last_time s)
  pub time_is : time ≡ biased (time_of_bytes (get_or (time_delta_bytes s) 0 0))
  pub first_fits : mag (first_time s) < bias
  pub last_fits : mag (last_time s) < bias
  pub time_fits : mag (time_of_bytes (get_or (time_delta_bytes s) 0 0)) < bias

-- where a section of one byte lies; 0 where it is absent
pub record OneByte (s : List ℕ) (tag at : ℕ) : Type 0 where
  pub start : at ≡ section_of s tag
  pub inside : (at ≡ 0 → ⊥) → at < length s

-- the sections of a file that refusals 1 to 9 pass
pub record Placed (s : List ℕ) (p : Sections) : Type 0 where
  pub passed : sections_refusal s ≡ 0
  pub places : p ≡ sections_of s
  pub few : p.facilities ≤ most_facilities
  pub end_fits : p.end ≤ longest_file
  pub geometry : Geometry s p.geometry p.facilities
  pub sync : Sync s p.sync p.facilities
  pub times : Times s p.times p.time_count p.wide_times p.end
  pub names : p.names + 8 ≤ p.end
  pub timescale : OneByte s 0x05 p.timescale
  pub initial : OneByte s 0x07 p.initial

-- what the pass over deltas tests: each is not negative, and no further from the sum before it than `high` is
unfoldable pub rises_to : ℕ → ℕ → List ℕ → Bool
rises_to high sum [] = true
rises_to high sum (d ∷ ds) = (ltb d bias && leb d (high - sum)) && rises_to high (sum + d) ds
