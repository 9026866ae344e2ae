use Rattle.lxt_pack.proofs.PutLaws.{copy_begun, copy_turn, copy_ended}
use Rattle.lxt_pack.proofs.put.copy.Goals as goal

pub loop-k-init : goal.loop-k-init
loop-k-init c = search copy_begun

pub loop-k-preserved : goal.loop-k-preserved
loop-k-preserved c = search copy_turn

pub returns : goal.returns
returns c = search copy_ended
