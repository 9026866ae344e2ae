use Rattle.lxt_changes.proofs.FaultLaws.{Above}
use Rattle.lxt_changes.proofs.fault.last_zero.Given as goal

abbrev pub invariant-loop-p : goal.invariant-loop-p
invariant-loop-p l = Above l.file l.end l.p
