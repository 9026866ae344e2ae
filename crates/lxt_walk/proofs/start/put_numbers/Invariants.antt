use Rattle.lxt_walk.proofs.StartLaws.{Numbering}
use Rattle.lxt_walk.proofs.start.put_numbers.Given as goal

abbrev pub invariant-loop-f : goal.invariant-loop-f
invariant-loop-f l = Numbering l.n l.initial.numbers l.initial.offsets l.f l.numbers l.offsets
