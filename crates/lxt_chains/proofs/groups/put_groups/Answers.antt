use native.Mathlib.Omega.{arith}
use Rattle.lxt_chains.proofs.GroupLawsStart.{single_begun, single_asks, single_next, single_ended}
use Rattle.lxt_chains.proofs.groups.put_groups.Goals as goal

pub loop-f-init : goal.loop-f-init
loop-f-init c = single_begun _ _ _ _ c.requires.1.1

pub put_group-requires : goal.put_group-requires
put_group-requires c = (c.requires.0, single_asks _ _ c.requires.0 _ _ _ _ c.requires.1.0 c.loop-f.invariant c.loop-f-test.true)

pub loop-f-preserved : goal.loop-f-preserved
loop-f-preserved c = single_next _ _ c.requires.0 _ _ _ _ c.requires.1.0 c.loop-f.invariant c.loop-f-test.true _ _ c.put_group.ensures

pub shape_of-widths : goal.shape_of-widths
shape_of-widths c = omega (arith, c.loop-f.invariant.room.widths_long, c.requires.1.1.widths_long)

pub shape_of-kinds : goal.shape_of-kinds
shape_of-kinds c = omega (arith, c.loop-f.invariant.room.kinds_long, c.requires.1.1.kinds_long)

pub returns : goal.returns
returns c = single_ended _ _ _ _ _ c.loop-f.invariant c.loop-f-test.false
