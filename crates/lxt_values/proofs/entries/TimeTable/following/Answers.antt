use mathlib.Core.Path.{◌∙◌, refl}
use native.Mathlib.Omega.{arith}
use Rattle.lxt_values.proofs.EntryLaws.{position_fits, time_fits, entry_after}
use Rattle.lxt_values.proofs.entries.TimeTable.following.Goals as goal

pub overflow_add-result-2 : goal.overflow_add-result-2
overflow_add-result-2 c = record { fits = omega (arith, position_fits _ _ _ c.args.self.wide c.args.self.there (omega arith) _ _ _ c.requires.0 c.requires.1 _ _ (c.from.ensures ∙ c.deltas_of-d.ensures.position_value) c.deltas_of-d.ensures.time_value, c.args.self.there.end) }

pub overflow_add-result-3 : goal.overflow_add-result-3
overflow_add-result-3 c = record { fits = time_fits _ _ _ c.args.self.wide c.args.self.there (omega arith) _ _ _ c.requires.0 c.requires.1 _ _ (c.from.ensures ∙ c.deltas_of-d.ensures.position_value) c.deltas_of-d.ensures.time_value }

pub returns : goal.returns
returns c = (entry_after _ _ _ c.args.self.wide c.args.self.there (omega arith) _ _ _ c.requires.0 c.requires.1 _ _ (c.from.ensures ∙ c.deltas_of-d.ensures.position_value) c.deltas_of-d.ensures.time_value, refl)
