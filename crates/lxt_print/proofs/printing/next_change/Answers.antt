use borrow.Author.Rules.{rules}
use Rattle.lxt_print.proofs.NextLaws.{tree_fits, last_next, count_small, change_next}
use Rattle.lxt_print.proofs.printing.next_change.Goals as goal

pub overflow_mul-m : goal.overflow_mul-m
overflow_mul-m c = let h = tree_fits _ _ _ _ c.requires.0 in search rules

pub slice_bounds-next-end : goal.slice_bounds-next-end
slice_bounds-next-end c = search tree_fits

pub returns-in_default : goal.returns-in_default
returns-in_default c =
    let quiet = rw c.in_default.is at c.next.ensures.line.0 in
    let last = c.done.ensures in
    last_next _ _ _ _ _ c.requires.0 c.requires.1.0 c.requires.1.1 quiet _ _ _ _ last.0 last.1

pub overflow_add-r : goal.overflow_add-r
overflow_add-r c =
    let put = rw c.in-Some.is at c.next.ensures.line.0 in
    record { fits = count_small _ _ _ _ _ c.requires.0 c.requires.1.0 c.requires.1.1 put.0 }

pub returns : goal.returns
returns c =
    let put = rw c.in-Some.is at c.next.ensures.line.0 in
    let after = c.next.ensures.waiting in
    let timed = rw c.in-Some.is at c.next.ensures.timed in
    change_next _ _ _ _ _ c.requires.0 c.requires.1.0 c.requires.1.1 put.0 _ _ after.0 after.1 _ timed _ _ put.1 c.next.ensures.line.1
