use mathlib.Core.Path.{◌≡◌, refl}
use lib.ListN.{length}
use native.Mathlib.Omega.{arith}
use Rattle.lxt_chains.proofs.GroupLawsPass.{going_begun, down_asks, going_ended, visit_asks, going_less, going_fails, going_next}
use borrow.Author.Rules.{rules}
use Rattle.lxt_chains.proofs.groups.decide_window.Goals as goal

pub loop-at-init : goal.loop-at-init
loop-at-init c = let pre = c.requires in going_begun _ _ _ _ _ _ _ _ pre.1.0 pre.1.1

pub down-requires : goal.down-requires
down-requires c = down_asks _ _ _ _ _ _ _ _ _ _ _ _ c.loop-at.invariant

pub shape_of-pending : goal.shape_of-pending
shape_of-pending c = c.loop-at.invariant.reached.alike.long

pub shape_of-slots : goal.shape_of-slots
shape_of-slots c = let g = c.loop-at.invariant.reached.state in omega (arith, g.holds.long, c.requires.1.0.holds.long)

pub shape_of-widths : goal.shape_of-widths
shape_of-widths c = let w = c.loop-at.invariant.reached in omega (arith, w.alike.long, w.state.groups.widths_long, c.requires.1.0.groups.widths_long)

pub shape_of-kinds : goal.shape_of-kinds
shape_of-kinds c = let w = c.loop-at.invariant.reached in omega (arith, w.alike.long, w.state.groups.kinds_long, c.requires.1.0.groups.kinds_long)

pub returns : goal.returns
returns c = going_ended _ _ _ _ _ _ _ _ _ _ _ _ c.loop-at.invariant _ c.in_default.ensures refl

pub visit-requires : goal.visit-requires
visit-requires c = (c.requires.0, visit_asks _ _ _ _ _ _ _ _ _ _ _ _ c.loop-at.invariant _ c.in-Some.ensures _ refl)

pub shape_of-slots-in_err-known : goal.shape_of-slots-in_err-known
shape_of-slots-in_err-known c =
    let e : length c.loop-at.slots ≡ length c.args.slots.now = omega (arith, c.loop-at.invariant.reached.state.holds.long, c.requires.1.0.holds.long) in
    search rules

pub shape_of-widths-in_err-known : goal.shape_of-widths-in_err-known
shape_of-widths-in_err-known c =
    let w = c.loop-at.invariant.reached in
    let e : length c.loop-at.widths ≡ length c.args.widths.now = omega (arith, w.alike.long, w.state.groups.widths_long, c.requires.1.0.groups.widths_long) in
    search rules

pub shape_of-kinds-in_err-known : goal.shape_of-kinds-in_err-known
shape_of-kinds-in_err-known c =
    let w = c.loop-at.invariant.reached in
    let e : length c.loop-at.kinds ≡ length c.args.kinds.now = omega (arith, w.alike.long, w.state.groups.kinds_long, c.requires.1.0.groups.kinds_long) in
    search rules

pub returns-in_err-known : goal.returns-in_err-known
returns-in_err-known c = going_fails _ _ _ _ _ _ _ _ _ _ _ _ c.loop-at.invariant _ c.in-Some.ensures _ refl _ _ _ _ _ c.visit.ensures c.in_err-known.was _ c.from_residual.ensures

pub loop-at-smaller : goal.loop-at-smaller
loop-at-smaller c = going_less _ _ _ _ _ _ _ _ _ _ _ _ c.loop-at.invariant _ c.in-Some.ensures _ refl

pub loop-at-preserved : goal.loop-at-preserved
loop-at-preserved c = going_next _ _ _ _ _ _ _ _ _ _ _ _ c.loop-at.invariant _ c.in-Some.ensures _ refl _ _ _ _ _ c.visit.ensures _ c.in_ok-known.was
