use Rattle.lxt_chains.proofs.RootLaws.{stored_begun, stored_next, stored_ended}
use Rattle.lxt_chains.proofs.roots.put_offsets.Goals as goal

pub loop-f-init : goal.loop-f-init
loop-f-init c = search stored_begun

pub loop-f-preserved : goal.loop-f-preserved
loop-f-preserved c = search stored_next

pub returns : goal.returns
returns c = search stored_ended
