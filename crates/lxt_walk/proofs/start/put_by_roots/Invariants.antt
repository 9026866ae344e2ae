use Rattle.lxt_walk.proofs.StartLaws.{Asking}
use Rattle.lxt_walk.proofs.start.put_by_roots.Given as goal

abbrev pub invariant-loop-f : goal.invariant-loop-f
invariant-loop-f l = Asking l.file l.t.facilities l.asked l.initial.offsets l.f l.offsets
