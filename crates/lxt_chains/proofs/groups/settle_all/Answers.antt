use native.Mathlib.Omega.{arith}
use Rattle.lxt_chains.proofs.GroupLawsSlots.{entered_begun, enter_asks, entered_next, entered_ended}
use Rattle.lxt_chains.proofs.groups.settle_all.Goals as goal

pub loop-f-init : goal.loop-f-init
loop-f-init c = let pre = c.requires in entered_begun _ _ _ _ _ pre.0 pre.1.0 pre.1.1

pub settle-requires : goal.settle-requires
settle-requires c = enter_asks _ _ _ _ _ _ _ _ _ c.loop-f.invariant (omega (arith, c.loop-f.invariant.long))

pub loop-f-preserved : goal.loop-f-preserved
loop-f-preserved c = entered_next _ _ _ _ _ _ _ _ _ c.loop-f.invariant (omega (arith, c.loop-f.invariant.long)) _ _ _ _ c.settle.ensures

pub shape_of-widths : goal.shape_of-widths
shape_of-widths c = let w = c.loop-f.invariant in omega (arith, w.long, w.groups.widths_long, c.requires.0.widths_long)

pub shape_of-kinds : goal.shape_of-kinds
shape_of-kinds c = let w = c.loop-f.invariant in omega (arith, w.long, w.groups.kinds_long, c.requires.0.kinds_long)

pub returns : goal.returns
returns c = let long = c.loop-f.invariant.long in entered_ended _ _ _ _ _ _ _ _ _ c.loop-f.invariant (omega arith) (omega arith)
