use Rattle.lxt_changes.proofs.FaultLaws.{real_out, real_in}
use Rattle.lxt_changes.proofs.fault.real_fault.Goals as goal

pub returns-then-end-data_at : goal.returns-then-end-data_at
returns-then-end-data_at c = search real_out

pub returns : goal.returns
returns c = search real_in
