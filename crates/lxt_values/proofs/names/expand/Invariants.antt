use Prim.Native.Nat.{◌+◌, ◌-◌}
use Rattle.lxt_values.proofs.NameLaws.{Held}
use Rattle.lxt_values.proofs.names.expand.Given as goal

abbrev pub invariant-loop-i : goal.invariant-loop-i
invariant-loop-i l = Held l.file l.at l.end l.n l.f l.initial.names l.names l.c.left l.c.at l.c.before (l.f + 1 - l._i)
