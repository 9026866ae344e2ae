use Rattle.lxt_chains.proofs.WholeWays.{first_roots, first_decides}
use Rattle.lxt_chains.proofs.lowest.any_within.Goals as goal

pub any_fault-requires : goal.any_fault-requires
any_fault-requires c = let pre = c.requires in (pre.0, first_roots _ _ _ c.put_offsets.ensures _ pre.1)

pub returns : goal.returns
returns c = first_decides _ _ _ c.put_offsets.ensures _ c.any_fault.ensures
