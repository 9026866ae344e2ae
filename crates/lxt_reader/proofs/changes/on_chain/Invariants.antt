use Rattle.lxt_reader.proofs.ChangeWays.{Seeking}
use Rattle.lxt_reader.proofs.changes.on_chain.Given as goal

abbrev pub invariant-loop-p : goal.invariant-loop-p
invariant-loop-p l = Seeking l.file l.start l.o l.p

abbrev pub decreases-loop-p : goal.decreases-loop-p
decreases-loop-p l = l.p
