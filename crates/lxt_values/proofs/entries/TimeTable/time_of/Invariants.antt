use Prim.Native.Nat.{◌+◌, ◌<◌, ◌≤◌}
use mathlib.Core.Path.{◌≡◌}
use Rattle.lxt_values.specs.Entries.{EntryAt}
use Rattle.lxt_values.proofs.entries.TimeTable.time_of.Given as goal

abbrev pub invariant-loop-number : goal.invariant-loop-number
invariant-loop-number l = EntryAt l.self.file.now l.e.number l.e.position l.e.time × ((0 < l.e.number → l.e.position ≤ l.o) × (l.e.number + 1 ≡ l._number))
