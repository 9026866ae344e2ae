use Rattle.lxt_sections.proofs.ZeroLaws.{Passed}
use Rattle.lxt_sections.proofs.zeros.zero_from.Given as goal

abbrev pub invariant-loop-p : goal.invariant-loop-p
invariant-loop-p l = Passed l.file l.from l.end l.p
