use Rattle.lxt_facilities.proofs.NameLaws.{Measuring}
use Rattle.lxt_facilities.proofs.names.measure.Given as goal

abbrev pub invariant-loop-row : goal.invariant-loop-row
invariant-loop-row l = Measuring l.facilities l.names l.size l.memory l.real l.before l.held l.row-index
