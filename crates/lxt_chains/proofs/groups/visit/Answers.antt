use native.Mathlib.Omega.{arith}
use Rattle.lxt_chains.proofs.GroupLawsPass.{visit_number, visit_widths, visit_kinds, visit_few, visit_narrow, visit_fails, visit_reads, visit_small, visit_settles, same_long, same_slots, visited}
use Rattle.lxt_chains.proofs.groups.visit.Goals as goal

pub overflow_cast-f : goal.overflow_cast-f
overflow_cast-f c = let pre = c.requires in let a = visit_few _ _ pre.0 _ _ _ _ _ _ pre.1.0 pre.1.1.0.0 pre.1.1.0.1 in omega (arith, a)

pub offset_bounds-widths-f : goal.offset_bounds-widths-f
offset_bounds-widths-f c = let pre = c.requires in let a = visit_few _ _ pre.0 _ _ _ _ _ _ pre.1.0 pre.1.1.0.0 pre.1.1.0.1 in omega (arith, a)

pub bounds-widths-f : goal.bounds-widths-f
bounds-widths-f c = let pre = c.requires in visit_widths _ _ pre.0 _ _ _ _ _ _ pre.1.0 pre.1.1.0.0 pre.1.1.0.1

pub bounds-kinds-f : goal.bounds-kinds-f
bounds-kinds-f c = let pre = c.requires in visit_kinds _ _ pre.0 _ _ _ _ _ _ pre.1.0 pre.1.1.0.0 pre.1.1.0.1

pub passes-requires : goal.passes-requires
passes-requires c = let pre = c.requires in (pre.0, (pre.1.1.1, rw c.from.ensures (visit_narrow _ _ pre.0 _ _ _ _ _ _ pre.1.0 pre.1.1.0.0 pre.1.1.0.1)))

pub returns-in_err-known : goal.returns-in_err-known
returns-in_err-known c = let pre = c.requires in visit_fails _ _ pre.0 _ _ _ _ _ _ pre.1.0 pre.1.1.0.0 pre.1.1.0.1 _ (rw c.from.ensures at c.passes.ensures) c.in_err-known.was _ c.from_residual.ensures

pub previous-requires : goal.previous-requires
previous-requires c = let pre = c.requires in visit_reads _ _ pre.0 _ _ _ _ _ _ pre.1.0 pre.1.1.0.0 pre.1.1.0.1 _ (rw c.from.ensures at c.passes.ensures) _ c.in_ok-known.was

pub overflow_cast-pending : goal.overflow_cast-pending
overflow_cast-pending c = let pre = c.requires in let a = visit_small _ _ pre.0 _ _ _ _ _ _ pre.1.0 pre.1.1.0.0 pre.1.1.0.1 _ (rw c.from.ensures at c.passes.ensures) _ c.in_ok-known.was _ c.previous.ensures in omega (arith, a)

pub offset_bounds-pending-f : goal.offset_bounds-pending-f
offset_bounds-pending-f c = let pre = c.requires in let a = visit_few _ _ pre.0 _ _ _ _ _ _ pre.1.0 pre.1.1.0.0 pre.1.1.0.1 in omega (arith, a)

pub bounds-pending-f : goal.bounds-pending-f
bounds-pending-f c = let pre = c.requires in visit_number _ _ pre.0 _ _ _ _ _ _ pre.1.0 pre.1.1.0.0 pre.1.1.0.1

pub settle-requires : goal.settle-requires
settle-requires c = let pre = c.requires in visit_settles _ _ pre.0 _ _ _ _ _ _ pre.1.0 pre.1.1.0.0 pre.1.1.0.1 _ (rw c.from.ensures at c.passes.ensures) _ c.in_ok-known.was _ c.previous.ensures

pub shape_of-pending : goal.shape_of-pending
shape_of-pending c = let pre = c.requires in same_long _ _ pre.0 _ _ _ _ _ _ pre.1.0 pre.1.1.0.0 pre.1.1.0.1 _ (rw c.from.ensures at c.passes.ensures) _ c.in_ok-known.was _ c.previous.ensures _ _ _ _ c.settle.ensures

pub shape_of-slots : goal.shape_of-slots
shape_of-slots c = let pre = c.requires in same_slots _ _ pre.0 _ _ _ _ _ _ pre.1.0 pre.1.1.0.0 pre.1.1.0.1 _ (rw c.from.ensures at c.passes.ensures) _ c.in_ok-known.was _ c.previous.ensures _ _ _ _ c.settle.ensures

pub returns : goal.returns
returns c = let pre = c.requires in visited _ _ pre.0 _ _ _ _ _ _ pre.1.0 pre.1.1.0.0 pre.1.1.0.1 _ (rw c.from.ensures at c.passes.ensures) _ c.in_ok-known.was _ c.previous.ensures _ _ _ _ c.settle.ensures
