use Rattle.lxt_print.proofs.TextLaws.{Spelled}
use Rattle.lxt_print.proofs.text.put_hex.Given as goal

abbrev pub invariant-loop-b : goal.invariant-loop-b
invariant-loop-b l = Spelled l.initial.out l.at l.bytes l.out l.b-index l.p
