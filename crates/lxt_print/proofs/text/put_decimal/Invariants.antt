use Rattle.lxt_print.proofs.TextLaws.{Storing}
use Rattle.lxt_print.proofs.text.put_decimal.Given as goal

abbrev pub invariant-loop-i : goal.invariant-loop-i
invariant-loop-i l = Storing l.initial.out l.at l.n l.out l.i l.rest
