use borrow.Author.Rules.{rules}
use Rattle.lxt_tables.proofs.RealsLaws.{place_begun, place_end, place_met, place_next}
use Rattle.lxt_tables.proofs.reals.place_of.Goals as goal

pub loop-j-init : goal.loop-j-init
loop-j-init c = (search rules, search place_begun)

pub returns-then-file-at : goal.returns-then-file-at
returns-then-file-at c = place_met _ _ _ _ _ c.loop-j.invariant.1 c.loop-j-test.true c.requires (rw (c.from.ensures) at c.if-file-at.true)

pub loop-j-preserved : goal.loop-j-preserved
loop-j-preserved c = (search rules, place_next _ _ _ _ _ c.loop-j.invariant.1 c.loop-j-test.true c.requires (rw (c.from.ensures) at c.if-file-at.false))

pub returns : goal.returns
returns c = search place_end
