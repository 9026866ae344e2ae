use Rattle.lxt_changes.proofs.FaultLaws.{text_out, text_in}
use Rattle.lxt_changes.proofs.fault.text_fault.Goals as goal

pub returns-then-zero-data_at : goal.returns-then-zero-data_at
returns-then-zero-data_at c = search text_out

pub returns : goal.returns
returns c = search text_in
