use Rattle.lxt_facilities.proofs.NameLaws.{NamesPut}
use Rattle.lxt_facilities.proofs.names.put_all.Given as goal

abbrev pub invariant-loop-row : goal.invariant-loop-row
invariant-loop-row l = NamesPut l.facilities l.names l.initial.out l.at l.out l.p l.before l.held l.row-index
