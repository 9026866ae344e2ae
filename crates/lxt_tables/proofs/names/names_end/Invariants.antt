use Prim.Native.Nat.{◌≤◌, ◌-◌}
use mathlib.Core.Path.{◌≡◌}
use Rattle.lxt_tables.specs.Steps.{end_of_names}
use Rattle.lxt_tables.proofs.NamesLaws.{end_left}
use Rattle.lxt_tables.proofs.names.names_end.Given as goal

abbrev pub invariant-loop : goal.invariant-loop
invariant-loop l =
    (l.next.at ≤ l.end) × (end_left l.file l.end (l.n - l.counter) l.next.at l.next.before l.next.memory ≡ end_of_names l.file l.at l.end l.n l.memory)
