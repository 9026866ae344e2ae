use Rattle.lxt_changes.proofs.KeepLaws.{good_begun, good_next, good_ended}
use Rattle.lxt_changes.proofs.keep.all_good.Goals as goal

pub loop-p-init : goal.loop-p-init
loop-p-init c = search good_begun

pub loop-p-preserved : goal.loop-p-preserved
loop-p-preserved c = search good_next

pub returns : goal.returns
returns c = search good_ended
