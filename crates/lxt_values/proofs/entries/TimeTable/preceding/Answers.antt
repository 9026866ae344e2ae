use mathlib.Core.Path.{◌∙◌}
use native.Mathlib.Omega.{arith}
use Rattle.lxt_values.proofs.EntryLaws.{position_above, time_above, entry_before}
use Rattle.lxt_values.proofs.entries.TimeTable.preceding.Goals as goal

pub overflow_sub-result-2 : goal.overflow_sub-result-2
overflow_sub-result-2 c = position_above _ _ _ c.args.self.wide c.args.self.there (omega arith) _ _ _ c.requires.0 c.requires.1 _ _ (c.from.ensures ∙ c.deltas_of-d.ensures.position_value) c.deltas_of-d.ensures.time_value

pub overflow_sub-result-3 : goal.overflow_sub-result-3
overflow_sub-result-3 c = time_above _ _ _ c.args.self.wide c.args.self.there (omega arith) _ _ _ c.requires.0 c.requires.1 _ _ (c.from.ensures ∙ c.deltas_of-d.ensures.position_value) c.deltas_of-d.ensures.time_value

pub returns : goal.returns
returns c = entry_before _ _ _ c.args.self.wide c.args.self.there (omega arith) _ _ _ c.requires.0 c.requires.1 _ _ (c.from.ensures ∙ c.deltas_of-d.ensures.position_value) c.deltas_of-d.ensures.time_value
