use Rattle.lxt_layout.proofs.LayoutLaws.{list_begun, list_turn, list_ended}
use Rattle.lxt_layout.proofs.put_items.Goals as goal

pub loop-i-init : goal.loop-i-init
loop-i-init c = list_begun _ _ _ c.requires.0 c.requires.1

pub loop-i-preserved : goal.loop-i-preserved
loop-i-preserved c = search list_turn

pub returns : goal.returns
returns c = search list_ended
