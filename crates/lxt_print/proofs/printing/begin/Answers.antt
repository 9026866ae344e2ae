use Rattle.lxt_print.proofs.BeginLaws.{refusal_left, lines_ask, lines_left_lem}
use Rattle.lxt_print.proofs.printing.begin.Goals as goal

pub all_lines-requires : goal.all_lines-requires
all_lines-requires c = lines_ask _ _ _ _ c.requires _ (rw c.in-Ok.is at c.printable.ensures)

pub returns-in-Ok : goal.returns-in-Ok
returns-in-Ok c = lines_left_lem _ _ _ _ c.requires _ (rw c.in-Ok.is at c.printable.ensures) _ _ c.all_lines.ensures

pub returns-in-Err : goal.returns-in-Err
returns-in-Err c = let line = rw c.number.ensures at c.refused.ensures in refusal_left _ _ _ _ c.requires _ (rw c.in-Err.is at c.printable.ensures) _ _ line.0 line.1
