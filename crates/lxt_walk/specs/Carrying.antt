-- What the functions that start a walk and carry on ask of the tables, the record and the tree.
use Rattle.std.specs.Prelude.{ℕ, ◌≤◌, ◌<◌, ◌≡◌, Bool, true, false, List, length, get_or, take}
use Rattle.lxt_format.specs.Limits.{most_facilities}
use Rattle.lxt_format.specs.Sections.{facility_count}
use Rattle.lxt_format.specs.Geometry.{is_alias}
use Rattle.lxt_format.specs.Judge.{file_refusal}
use Rattle.lxt_format.specs.Columns.{paired}
use Rattle.lxt_format.specs.Walk.{pair_allowed, record_allowed}
use Rattle.lxt_tables.specs.Stage.{tables_of}
use Rattle.lxt_tables.specs.declared.Tables.{Tables}
use Rattle.lxt_chains.specs.Reading.{Readable}
use Rattle.lxt_chains.specs.Tree.{Tree, Blank, Holding}

-- the tables of an accepted file, a byte for each facility, and a pending offset for each, all of them 0
pub record Starting (s : List ℕ) (t : Tables) (asked offsets : List ℕ) : Type 0 where
  pub tables : t ≡ tables_of s
  pub accepted : file_refusal s ≡ 0
  pub bytes : length asked ≡ t.facilities
  pub room : t.facilities ≤ length offsets
  pub none : (f : ℕ) → f < t.facilities → get_or offsets f 0 ≡ 0

-- check 20 of a pair, but for the faults of its chain
pub record PairTested (s : List ℕ) (f number o : ℕ) (r : Bool) : Type 0 where
  pub number_is : r ≡ true → number ≡ f
  pub root : r ≡ true → 0 < o → is_alias s f ≡ false
  pub refused : r ≡ false → pair_allowed s f (record { number = number; offset = o }) ≡ false

-- check 20 of n pairs, but for the faults of their chains, and their pending offsets
pub record PairsTested (s : List ℕ) (n : ℕ) (numbers offsets os : List ℕ) (r : Bool) : Type 0 where
  pub long : length os ≡ n
  pub are : r ≡ true → (f : ℕ) → f < n → get_or os f 0 ≡ get_or offsets f 0
  pub numbers_are : r ≡ true → (f : ℕ) → f < n → get_or numbers f 0 ≡ f
  pub roots : r ≡ true → (f : ℕ) → f < n → 0 < get_or offsets f 0 → is_alias s f ≡ false
  pub refused : r ≡ false → record_allowed s (paired numbers offsets) ≡ false

-- a file whose tables have passed, and a pending offset for each facility, from which on every change is allowed
pub record Walkable (s offsets : List ℕ) : Type 0 where
  pub few : facility_count s ≤ most_facilities
  pub wide : facility_count s ≤ length offsets
  pub readable : Readable s (take (facility_count s) offsets)

-- and room for a tree that has a leaf for each
pub record Filled (s : List ℕ) (m : ℕ) (nodes offsets : List ℕ) : Type 0 where
  pub walkable : Walkable s offsets
  pub leaves : facility_count s ≤ m
  pub blank : Blank m nodes

-- and a tree whose leaves hold them
pub record Carrying (s : List ℕ) (m : ℕ) (nodes offsets : List ℕ) : Type 0 where
  pub walkable : Walkable s offsets
  pub leaves : facility_count s ≤ m
  pub tree : Tree m nodes
  pub holding : Holding (take (facility_count s) offsets) m nodes
