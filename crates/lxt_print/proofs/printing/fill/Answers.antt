use borrow.Author.Rules.{rules}
use mathlib.Core.Path.{refl}
use Rattle.lxt_print.proofs.FillLaws.{fill_begun, part_asks, part_bounds, fill_over, fill_full, line_asks, fill_again}
use Rattle.lxt_print.proofs.printing.fill.Goals as goal

pub loop-left-init : goal.loop-left-init
loop-left-init c = fill_begun _ _ _ _ _ _ c.requires

pub put_part-p-requires : goal.put_part-p-requires
put_part-p-requires c = part_asks _ _ _ _ _ _ _ _ _ c.loop-left.invariant

pub overflow_sub-left : goal.overflow_sub-left
overflow_sub-left c =
    let bounds = part_bounds _ _ _ _ _ _ _ _ _ c.loop-left.invariant _ _ c.put_part-p.ensures in
    search rules

pub overflow_add-left : goal.overflow_add-left
overflow_add-left c =
    let bounds = part_bounds _ _ _ _ _ _ _ _ _ c.loop-left.invariant _ _ c.put_part-p.ensures in
    search rules

pub returns-in_default : goal.returns-in_default
returns-in_default c = fill_over c.loop-left.invariant c.put_part-p.ensures c.in_default.is _ _ _ refl

pub returns-then-put-out : goal.returns-then-put-out
returns-then-put-out c = fill_full c.loop-left.invariant c.put_part-p.ensures c.in-Some.is c.if-put-out.true _ _ _ refl

pub next_line-left-requires : goal.next_line-left-requires
next_line-left-requires c = line_asks c.loop-left.invariant c.put_part-p.ensures c.in-Some.is

pub loop-left-smaller : goal.loop-left-smaller
loop-left-smaller c = rw c.in-Some.is c.next_line-left.ensures.less

pub loop-left-preserved : goal.loop-left-preserved
loop-left-preserved c = fill_again c.loop-left.invariant c.put_part-p.ensures c.in-Some.is c.if-put-out.false c.next_line-left.ensures
