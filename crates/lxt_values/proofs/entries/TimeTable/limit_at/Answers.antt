use Rattle.lxt_values.proofs.BiasLaws.{limit_at}
use Rattle.lxt_values.proofs.entries.TimeTable.limit_at.Goals as goal

pub returns : goal.returns
returns c = limit_at _ _ c.ranges.t _ _ c.with_bias.ensures c.limit.ensures
