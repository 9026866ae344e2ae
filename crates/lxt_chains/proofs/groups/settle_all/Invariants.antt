use Rattle.lxt_chains.specs.Groups.{Entered}
use Rattle.lxt_chains.proofs.groups.settle_all.Given as goal

abbrev pub invariant-loop-f : goal.invariant-loop-f
invariant-loop-f l = Entered l.base l.f l.initial.pending l.initial.widths l.initial.kinds l.pending l.slots l.widths l.kinds
