-- The lines of the changes that are left, one after the other: the line of the highest pending change, then those after a step.
use Rattle.std.specs.Prelude.{ℕ, ◌≤◌, ◌<◌, ◌≡◌, List, get_or, drop}
use Rattle.lxt_format.specs.Basics.{joined}
use Rattle.lxt_format.specs.Sections.{time_count}
use Rattle.lxt_format.specs.Judge.{all_changes}
use Rattle.lxt_format.specs.Walk.{sort, high, handed_out}
use Rattle.lxt_format.specs.declared.Pair.{Pair}
use Rattle.lxt_tables.specs.declared.Tables.{Tables}
use Rattle.lxt_chains.specs.Pending.{pending_changes, Each, Allowed}
use Rattle.lxt_chains.specs.Tree.{Tree}
use Rattle.lxt_values.specs.Entries.{Latest}
use Rattle.lxt_values.specs.declared.entries.Entry.{Entry}
use Rattle.lxt_print.specs.Lines.{change_line}

-- the changes that are left, by the leaves of a tree
abbrev pub left : List ℕ → ℕ → List ℕ → List Pair
left s m nodes = sort (pending_changes s 0 (drop m nodes))

-- all changes, in walk order
abbrev pub all_left : List ℕ → List Pair
all_left s = sort (all_changes s)

-- a tree with a pending offset for each facility and 0 past them, from which on every change is allowed
pub record Waiting (s : List ℕ) (t : Tables) (m : ℕ) (nodes : List ℕ) : Type 0 where
  pub tree : Tree m nodes
  pub room : t.facilities ≤ m
  pub past : (i : ℕ) → t.facilities ≤ i → get_or (drop m nodes) i 0 ≡ 0
  pub each : Each (Allowed s) (left s m nodes)

-- the last entry of the time table, after which there is none; any entry where the table is empty
pub record Last (s : List ℕ) (e : Entry) : Type 0 where
  pub latest : 0 < time_count s → (o : ℕ) → Latest s o e.number e.position e.time

-- the time table was gone down to an entry after which all lie above the highest pending offset
pub record Timed (s os : List ℕ) (e : Entry) : Type 0 where
  pub latest : 0 < high os → Latest s (high os) e.number e.position e.time

-- the line of the highest pending change, of equal ones that of the lowest facility; none where all pending offsets are 0
unfoldable pub next_line : List ℕ → List ℕ → List ℕ
next_line s os = joined (change_line s) (handed_out s 1 os)
