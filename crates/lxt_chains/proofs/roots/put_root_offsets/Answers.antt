use Rattle.lxt_chains.proofs.TreeLaws.{fill_begun, fill_next}
use Rattle.lxt_chains.proofs.RootLaws.{roots_ended}
use Rattle.lxt_chains.proofs.roots.put_root_offsets.Goals as goal

pub loop-f-init : goal.loop-f-init
loop-f-init c = search fill_begun

pub loop-f-preserved : goal.loop-f-preserved
loop-f-preserved c = search fill_next

pub returns : goal.returns
returns c = search roots_ended
