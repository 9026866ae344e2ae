use Rattle.lxt_chains.proofs.GroupLawsPass.{Going}
use Rattle.lxt_chains.proofs.groups.decide_window.Given as goal

abbrev pub invariant-loop-at : goal.invariant-loop-at
invariant-loop-at l = Going l.file l.c l.base l.i l.initial.pending l.initial.widths l.initial.kinds l.pending l.slots l.widths l.kinds l.known

abbrev pub decreases-loop-at : goal.decreases-loop-at
decreases-loop-at l = l.i
