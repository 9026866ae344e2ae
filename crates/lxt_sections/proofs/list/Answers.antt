use borrow.Author.Rules.{rules}
use native.Mathlib.Omega.{arith}
use Rattle.lxt_sections.proofs.ListLaws.{begun, low, cut, ended, next}
use Rattle.lxt_sections.proofs.list.Goals as goal

pub items-init : goal.items-init
items-init c = search begun

pub returns-then-p-lt-FIRST : goal.returns-then-p-lt-FIRST
returns-then-p-lt-FIRST c = search low

pub bounds-file-p : goal.bounds-file-p
bounds-file-p c = omega arith

pub returns-then-p : goal.returns-then-p
returns-then-p c = search cut

pub be32-requires : goal.be32-requires
be32-requires c = omega arith

pub overflow_sub-p-in-items : goal.overflow_sub-p-in-items
overflow_sub-p-in-items c = omega arith

pub items-smaller : goal.items-smaller
items-smaller c = omega arith

pub items-preserved : goal.items-preserved
items-preserved c =
    next _ _ _ c.items.invariant _ c.from-tag.ensures (search rules) c.if-tag-eq0.false _ (search rules) _ c.put.ensures

pub returns : goal.returns
returns c = search ended
