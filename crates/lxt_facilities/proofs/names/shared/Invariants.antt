use Rattle.lxt_facilities.proofs.NameLaws.{Comparing}
use Rattle.lxt_facilities.proofs.names.shared.Given as goal

abbrev pub invariant-loop-k : goal.invariant-loop-k
invariant-loop-k l = Comparing l.names l.before l.held l.at l.size l.most l.k
