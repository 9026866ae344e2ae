use mathlib.Core.Path.{refl}
use native.Mathlib.Omega.{arith}
use Rattle.lxt_chains.proofs.GroupLawsPass.{deciding_begun, decide_none, decide_late, enter_all_asks, window_asks, decide_less, decide_next}
use Rattle.lxt_chains.proofs.WindowLaws.{no_highest, highest_is}
use Rattle.lxt_chains.proofs.groups.decide.Goals as goal

pub loop-high-init : goal.loop-high-init
loop-high-init c = deciding_begun _ _ _ _ _ c.requires.1.0 c.requires.1.1

pub returns : goal.returns
returns c = decide_none _ _ c.requires.0 _ _ _ _ _ _ _ _ c.loop-high.invariant _ refl (no_highest _ c.in_default.ensures)

pub shape_of-pending-then-c-high : goal.shape_of-pending-then-c-high
shape_of-pending-then-c-high c = c.loop-high.invariant.alike.long

pub shape_of-slots-then-c-high : goal.shape_of-slots-then-c-high
shape_of-slots-then-c-high c = omega (arith, c.loop-high.invariant.vacant.long, c.requires.1.1.long)

pub shape_of-widths-then-c-high : goal.shape_of-widths-then-c-high
shape_of-widths-then-c-high c = omega (arith, c.loop-high.invariant.alike.long, c.loop-high.invariant.groups.widths_long, c.requires.1.0.widths_long)

pub shape_of-kinds-then-c-high : goal.shape_of-kinds-then-c-high
shape_of-kinds-then-c-high c = omega (arith, c.loop-high.invariant.alike.long, c.loop-high.invariant.groups.kinds_long, c.requires.1.0.kinds_long)

pub returns-then-c-high : goal.returns-then-c-high
returns-then-c-high c = let p = highest_is _ _ c.in-Some.ensures in decide_late _ _ c.requires.0 _ _ _ _ _ _ _ _ c.loop-high.invariant _ p.is p.some c.if-c-high.true

pub settle_all-requires : goal.settle_all-requires
settle_all-requires c = let p = highest_is _ _ c.in-Some.ensures in enter_all_asks _ _ c.requires.0 _ _ _ _ _ _ _ _ c.loop-high.invariant _ p.is p.some c.if-c-high.false

pub decide_window-requires : goal.decide_window-requires
decide_window-requires c = let p = highest_is _ _ c.in-Some.ensures in (c.requires.0, window_asks _ _ c.requires.0 _ _ _ _ _ _ _ _ c.loop-high.invariant _ p.is p.some c.if-c-high.false _ _ _ _ c.settle_all.ensures)

pub loop-high-smaller : goal.loop-high-smaller
loop-high-smaller c = let p = highest_is _ _ c.in-Some.ensures in decide_less _ _ c.requires.0 _ _ _ _ _ _ _ _ c.loop-high.invariant _ p.is p.some c.if-c-high.false _ _ _ _ c.settle_all.ensures _ _ _ _ _ c.decide_window.ensures _ c.in-Some-decide_window.is

pub loop-high-preserved : goal.loop-high-preserved
loop-high-preserved c = let p = highest_is _ _ c.in-Some.ensures in decide_next _ _ c.requires.0 _ _ _ _ _ _ _ _ c.loop-high.invariant _ p.is p.some c.if-c-high.false _ _ _ _ c.settle_all.ensures _ _ _ _ _ c.decide_window.ensures _ c.in-Some-decide_window.is
