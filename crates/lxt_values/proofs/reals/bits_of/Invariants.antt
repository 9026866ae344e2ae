use Rattle.lxt_values.proofs.RealLaws.{Gathered}
use Rattle.lxt_values.proofs.reals.bits_of.Given as goal

abbrev pub invariant-loop-i : goal.invariant-loop-i
invariant-loop-i l = Gathered l.file l.order l.at l.bits l.i
