use Rattle.lxt_format.specs.Walk.{high}
use Rattle.lxt_chains.proofs.GroupLawsPass.{Deciding}
use Rattle.lxt_chains.proofs.groups.decide.Given as goal

abbrev pub invariant-loop-high : goal.invariant-loop-high
invariant-loop-high l = Deciding l.file l.initial.pending l.initial.widths l.initial.kinds l.pending l.slots l.widths l.kinds l.w

abbrev pub decreases-loop-high : goal.decreases-loop-high
decreases-loop-high l = high l.pending
