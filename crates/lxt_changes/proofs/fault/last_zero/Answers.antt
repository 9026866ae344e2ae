use Rattle.lxt_changes.proofs.FaultLaws.{from_end, zero_found, no_zero, one_lower}
use Rattle.lxt_changes.proofs.fault.last_zero.Goals as goal

pub loop-p-init : goal.loop-p-init
loop-p-init c = search from_end

pub returns-then-file-p-eq0 : goal.returns-then-file-p-eq0
returns-then-file-p-eq0 c = search zero_found

pub loop-p-preserved : goal.loop-p-preserved
loop-p-preserved c = search one_lower

pub returns : goal.returns
returns c = search no_zero
