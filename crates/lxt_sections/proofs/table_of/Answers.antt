use Rattle.lxt_sections.proofs.PlaceLaws.{table_wide, table_narrow}
use Rattle.lxt_sections.proofs.table_of.Goals as goal

pub returns-then-p-ne0 : goal.returns-then-p-ne0
returns-then-p-ne0 c = search table_wide

pub returns : goal.returns
returns c = search table_narrow
