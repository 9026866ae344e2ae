use mathlib.Core.Path.{refl}
use lib.ListN.{get_or}
use mir.Val.{Fits}
use mir.Syntax.{w32}
use native.Mathlib.Omega.{arith}
use Rattle.lxt_writer.proofs.RowLaws.{row_outside, row_past, row_sized, width_known, part_short}
use borrow.Author.Rules.{rules}
use Rattle.lxt_writer.proofs.changes.row_size.Goals as goal

pub returns-then-facilities-f : goal.returns-then-facilities-f
returns-then-facilities-f c = row_outside _ _ _ c.if-facilities-f.true

pub overflow_add-end : goal.overflow_add-end
overflow_add-end c =
    let row = c.args.row in
    let a : Fits w32 (get_or row 2 0) = search rules in
    let b : Fits w32 (get_or row 3 0) = search rules in
    omega arith

pub returns-then-values-end : goal.returns-then-values-end
returns-then-values-end c = row_past _ _ _ c.if-values-end.true

pub overflow_cast-delta : goal.overflow_cast-delta
overflow_cast-delta c = omega (arith, c.requires.1.below (get_or c.args.row 0 0), c.requires.1.most)

pub overflow_sub-delta : goal.overflow_sub-delta
overflow_sub-delta c = omega (arith, c.requires.1.below (get_or c.args.row 0 0))

pub overflow_sub-delta-2 : goal.overflow_sub-delta-2
overflow_sub-delta-2 c = omega (arith, c.requires.1.below (get_or c.args.row 0 0))

pub overflow_cast-delta-2 : goal.overflow_cast-delta-2
overflow_cast-delta-2 c = omega (arith, c.requires.1.most)

pub size_of-requires : goal.size_of-requires
size_of-requires c =
    let b : Fits w32 (get_or c.args.row 3 0) = search rules in
    let row = c.args.row in
    (part_short c.args.values.now (get_or row 2 0) (get_or row 3 0) c.if-values-end.false (omega arith), width_known _ _ _ c.kind_of-kind.ensures c.width_of-width.ensures (c.requires.0 _ c.if-facilities-f.false))

pub returns : goal.returns
returns c =
    let known = c.if-facilities-f.false in
    let inside = c.if-values-end.false in
    let size = c.size_of.ensures in
    row_sized _ _ _ _ _ known inside _ _ _ _ c.kind_of-kind.ensures c.width_of-width.ensures refl size.0 size.1
