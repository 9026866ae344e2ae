use Rattle.lxt_print.proofs.TextLaws.{count_begun, count_turn, count_ended}
use Rattle.lxt_print.proofs.text.places.Goals as goal

pub loop-rest-init : goal.loop-rest-init
loop-rest-init c = search count_begun

pub loop-rest-preserved : goal.loop-rest-preserved
loop-rest-preserved c = search count_turn

pub returns : goal.returns
returns c = count_ended _ _ _ c.loop-rest.invariant c.loop-rest-test.false
