use Rattle.lxt_values.proofs.CopyLaws.{all_pasted, copy_begun, copy_turn}
use Rattle.lxt_values.proofs.names.copy_part.Goals as goal

pub loop-j-init : goal.loop-j-init
loop-j-init c = search copy_begun

pub loop-j-preserved : goal.loop-j-preserved
loop-j-preserved c = search copy_turn

pub returns : goal.returns
returns c = search all_pasted
