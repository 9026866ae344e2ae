use Rattle.lxt_chains.proofs.GroupLawsStart.{single_groups, single_decides}
use Rattle.lxt_chains.proofs.groups.any_within.Goals as goal

pub decide-requires : goal.decide-requires
decide-requires c = let pre = c.requires in (pre.0, (single_groups _ _ _ _ c.put_groups.ensures _ pre.0 pre.1.0, pre.1.1.0))

pub returns : goal.returns
returns c = single_decides _ _ _ _ c.put_groups.ensures _ c.decide.ensures
