use Rattle.lxt_changes.proofs.FaultLaws.{below, past, wrong_command, right_command}
use Rattle.lxt_changes.proofs.fault.start_fault.Goals as goal

pub returns-then-o-from : goal.returns-then-o-from
returns-then-o-from c = search below

pub returns-then-end-o : goal.returns-then-end-o
returns-then-end-o c = search past

pub returns-then-not-command_fits : goal.returns-then-not-command_fits
returns-then-not-command_fits c = search wrong_command

pub returns : goal.returns
returns c = search right_command
