use Rattle.lxt_changes.proofs.FaultLaws.{Left}
use Rattle.lxt_changes.proofs.fault.first_fault.Given as goal

abbrev pub invariant-loop-o : goal.invariant-loop-o
invariant-loop-o l = Left l.file l.from l.end l.kind l.width l.start l.o l.clean l.w

abbrev pub decreases-loop-o : goal.decreases-loop-o
decreases-loop-o l = l.o
