use native.Mathlib.Omega.{arith}
use mathlib.Core.Path.{◌∙◌, refl}
use Rattle.lxt_values.proofs.EntryLaws.{entry_first}
use Rattle.lxt_values.proofs.entries.TimeTable.first.Goals as goal

pub returns : goal.returns
returns c = (entry_first _ _ _ c.args.self.wide c.args.self.there c.requires _ _ (c.from.ensures ∙ c.deltas_of-d.ensures.position_value) c.deltas_of-d.ensures.time_value (omega arith) _ c.biased.ensures, refl)
