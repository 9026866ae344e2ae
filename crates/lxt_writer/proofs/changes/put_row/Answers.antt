use Rattle.lxt_writer.proofs.WriteLaws.{asked_known, asked_inside, asked_sound, row_put}
use native.Mathlib.Omega.{arith}
use mir.Syntax.{w32}
use mir.Val.{Fits}
use lib.ListN.{get_or}
use mathlib.Core.Path.{refl}
use borrow.Author.Rules.{rules}
use Rattle.lxt_writer.proofs.changes.put_row.Goals as goal

pub overflow_add-end : goal.overflow_add-end
overflow_add-end c =
    let row = c.args.row in
    let a : Fits w32 (get_or row 2 0) = search rules in
    let b : Fits w32 (get_or row 3 0) = search rules in
    omega arith

pub offset_bounds-facilities-f : goal.offset_bounds-facilities-f
offset_bounds-facilities-f c =
    let known = asked_known _ _ _ _ _ _ c.requires in
    omega arith

pub bounds-facilities-f : goal.bounds-facilities-f
bounds-facilities-f c =
    let known = asked_known _ _ _ _ _ _ c.requires in
    omega arith

pub offset_bounds-last-f : goal.offset_bounds-last-f
offset_bounds-last-f c =
    let known = asked_known _ _ _ _ _ _ c.requires in
    omega (arith, c.requires.free.long)

pub bounds-last-f : goal.bounds-last-f
bounds-last-f c =
    let known = asked_known _ _ _ _ _ _ c.requires in
    omega (arith, c.requires.free.long)

pub overflow_cast-delta : goal.overflow_cast-delta
overflow_cast-delta c = omega (arith, c.requires.free.below (get_or c.args.row 0 0), c.requires.free.most)

pub overflow_sub-delta : goal.overflow_sub-delta
overflow_sub-delta c = omega (arith, c.requires.free.below (get_or c.args.row 0 0))

pub overflow_sub-delta-2 : goal.overflow_sub-delta-2
overflow_sub-delta-2 c = omega (arith, c.requires.free.below (get_or c.args.row 0 0))

pub overflow_cast-delta-2 : goal.overflow_cast-delta-2
overflow_cast-delta-2 c = omega (arith, c.requires.free.most)

pub slice_bounds-put-end : goal.slice_bounds-put-end
slice_bounds-put-end c = asked_inside _ _ _ _ _ _ c.requires

pub put-requires : goal.put-requires
put-requires c =
    let b : Fits w32 (get_or c.args.row 3 0) = search rules in
    asked_sound _ _ _ _ _ _ c.requires _ _ c.kind_of.ensures refl (omega arith)

pub returns : goal.returns
returns c = row_put _ _ _ _ _ _ c.requires _ _ _ _ c.kind_of.ensures refl c.put.ensures
