use Rattle.lxt_chains.specs.Groups.{Single}
use Rattle.lxt_chains.proofs.groups.put_groups.Given as goal

abbrev pub invariant-loop-f : goal.invariant-loop-f
invariant-loop-f l = Single l.file l.f l.pending l.widths l.kinds
