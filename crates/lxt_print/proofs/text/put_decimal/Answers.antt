use borrow.Author.Rules.{rules}
use Rattle.lxt_print.proofs.TextLaws.{store_begun, store_turn, store_ended}
use Rattle.lxt_print.proofs.text.put_decimal.Goals as goal

pub loop-i-init : goal.loop-i-init
loop-i-init c = search store_begun

pub loop-i-preserved : goal.loop-i-preserved
loop-i-preserved c = search store_turn

pub returns : goal.returns
returns c = (store_ended _ _ _ _ _ _ c.loop-i.invariant c.loop-i-test.false _ c.places.ensures.0 (search rules), search rules)
