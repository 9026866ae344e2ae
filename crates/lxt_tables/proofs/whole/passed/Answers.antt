use Rattle.lxt_tables.proofs.WholeLaws.{passed_is}
use Rattle.lxt_tables.proofs.whole.passed.Goals as goal

pub returns : goal.returns
returns c = search passed_is
