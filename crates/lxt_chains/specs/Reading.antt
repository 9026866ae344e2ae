-- What the functions of this crate ask of a file and of what it is read with.
use Rattle.std.specs.Prelude.{ℕ, ◌≤◌, ◌<◌, ◌≡◌, Bool, true, List, length, get_or, eqb, if◌then◌else◌, Option, Some, None, Result, Ok, Err}
use Rattle.lxt_format.specs.Limits.{longest_file, most_facilities}
use Rattle.lxt_format.specs.Sections.{end_of, changes_from}
use Rattle.lxt_format.specs.Basics.{◌unless◌, ◌or_else◌, Answer, given, refused, answer}
use Rattle.lxt_format.specs.Geometry.{is_alias, geometries_allowed, sync_of}
use Rattle.lxt_format.specs.Judge.{fault_from, clean_from, chains_refusal, changes_apart, tables_refusal, file_refusal, all_clean}
use Rattle.lxt_format.specs.Changes.{previous_of}
use Rattle.lxt_format.specs.Walk.{sort, top, high}
use Rattle.lxt_format.specs.Answers.{refusal_number}
use Rattle.lxt_tables.specs.Stage.{Geometry, tables_of}
use Rattle.lxt_tables.specs.Asked.{Sync}
use Rattle.lxt_tables.specs.declared.Tables.{Tables}
use Rattle.lxt_changes.specs.Faults.{LastZero}
use Rattle.lxt_chains.specs.Pending.{pending_changes, Each, Allowed}
use Rattle.lxt_chains.specs.declared.chains.Chains.{Chains}
use Rattle.lxt_chains.specs.declared.next.Taken.{Taken}
use Rattle.lxt_chains.specs.declared.whole.Examined.{Examined}
use Rattle.lxt_chains.specs.declared.whole.Rejected.{Rejected}

-- the places of a file that refusals 1 to 14 pass
pub record Ready (s : List ℕ) (c : Chains) : Type 0 where
  pub from : c.from ≡ changes_from s
  pub end : c.end ≡ end_of s
  pub within : c.end ≤ length s
  pub short : length s ≤ longest_file
  pub zero : LastZero s c.end c.zero
  pub geometry : Geometry s c.geometry c.facilities
  pub sync : Sync s c.sync c.facilities
  pub allowed : geometries_allowed s ≡ true
  pub most : c.facilities ≤ most_facilities

-- the first fault of a facility's own chain; an alias has none
unfoldable pub facility_fault : List ℕ → ℕ → ℕ
facility_fault s f = if is_alias s f then 0 else fault_from s f (sync_of s f)

-- and whether its padding was clean
unfoldable pub facility_clean : List ℕ → ℕ → Bool
facility_clean s f = if is_alias s f then true else clean_from s f (sync_of s f)

-- the pending offset from which all changes of a facility follow
unfoldable pub root_offset : List ℕ → ℕ → ℕ
root_offset s f = if is_alias s f then 0 else sync_of s f

-- those of the first k facilities
pub record FirstOffsets (s : List ℕ) (k : ℕ) (os : List ℕ) : Type 0 where
  pub long : length os ≡ k
  pub are : (f : ℕ) → f < k → get_or os f 0 ≡ root_offset s f

-- pending offsets from which on every change is allowed, in a file in which T lies and whose offsets fit in 32 bits
pub record Readable (s os : List ℕ) : Type 0 where
  pub short : length s ≤ longest_file
  pub inside : end_of s ≤ length s
  pub each : Each (Allowed s) (sort (pending_changes s 0 os))

-- a pending offset for each facility and 0 past them, from which on every change is allowed
pub record Pending (s : List ℕ) (c : Chains) (os : List ℕ) : Type 0 where
  pub past : (i : ℕ) → c.facilities ≤ i → get_or os i 0 ≡ 0
  pub each : Each (Allowed s) (sort (pending_changes s 0 os))

-- the highest of pending offsets, of equal ones that of the lowest facility, and the offset of the change before it; none where all are 0
abbrev pub taken_of : List ℕ → List ℕ → Option Taken
taken_of s os = if eqb (high os) 0 then None else Some (record { number = top os; offset = high os; previous = previous_of s (high os) })

-- the chain of one of the first k facilities has a fault
pub record RootFault (s : List ℕ) (k : ℕ) : Type 0 where
  pub number : ℕ
  pub first : number < k
  pub fault : facility_fault s number ≡ 0 → ⊥

-- the lowest facility whose chain has a fault
pub record Lowest (s : List ℕ) (n f : ℕ) : Type 0 where
  pub inside : f < n
  pub fault : facility_fault s f ≡ 0 → ⊥
  pub none : (g : ℕ) → g < f → facility_fault s g ≡ 0

-- two bounds: no facility below the first has a fault, and one below the second has
pub record Between (s : List ℕ) (n low high : ℕ) : Type 0 where
  pub order : low < high
  pub inside : high ≤ n
  pub none : (g : ℕ) → g < low → facility_fault s g ≡ 0
  pub some : RootFault s high

-- refusals 15 to 17, once those before them pass
unfoldable pub chains_verdict : List ℕ → ℕ
chains_verdict s = chains_refusal s or_else 17 unless changes_apart s

-- a change has a fault, or two share a byte
abbrev pub Broken : List ℕ → Type 0
Broken s = chains_verdict s ≡ 0 → ⊥

-- a judged file: whether its padding was clean, and its tables; or the refusal
unfoldable pub examined_of : List ℕ → Examined
examined_of s = record { clean = all_clean s; tables = tables_of s }

abbrev pub examined : List ℕ → Answer Examined
examined s = answer (file_refusal s) (examined_of s)

-- the tables where refusals 1 to 14 pass, also of a file that 15 to 17 refuse
unfoldable pub tables_passed : List ℕ → Option Tables
tables_passed s = if eqb (tables_refusal s) 0 then Some (tables_of s) else None

-- what is given; or the refusal, and these tables
abbrev pub Tells : {A : Type 0} → List ℕ → Answer A → Result A Rejected → Type 0
Tells s a (Ok x) = given x ≡ a
Tells s a (Err r) = (refused (refusal_number r.refusal) ≡ a) × (r.tables ≡ tables_passed s)
