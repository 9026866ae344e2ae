use Rattle.lxt_chains.proofs.WholeWays.{halved_low, halved_high}
use Rattle.lxt_chains.proofs.lowest.halved.Goals as goal

pub returns-then-any_of_first : goal.returns-then-any_of_first
returns-then-any_of_first c = let pre = c.requires in halved_low _ _ _ _ pre.1.0 pre.1.1 _ c.any_of_first.ensures c.if-any_of_first.true

pub returns : goal.returns
returns c = let pre = c.requires in halved_high _ _ _ _ pre.1.0 pre.1.1 _ c.any_of_first.ensures c.if-any_of_first.false
