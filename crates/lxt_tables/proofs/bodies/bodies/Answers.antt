use Rattle.lxt_tables.proofs.PartLaws.{names_below, covered}
use Rattle.lxt_tables.proofs.bodies.bodies.Goals as goal

pub overflow_sub-names_end : goal.overflow_sub-names_end
overflow_sub-names_end c = search names_below

pub returns : goal.returns
returns c = search covered
