use Rattle.lxt_values.proofs.TimeLaws.{latest_found}
use Rattle.lxt_values.proofs.BiasLaws.{limit_asked}
use Rattle.lxt_values.proofs.entries.TimeTable.latest.Goals as goal

pub returns : goal.returns
returns c = latest_found _ _ _ _ _ _ (limit_asked _ _ c.ranges.t _ c.limit_at.ensures) c.requires c.first_below.ensures
