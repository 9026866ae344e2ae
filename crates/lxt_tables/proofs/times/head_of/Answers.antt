use mathlib.Core.Path.{◌∙◌}
use Rattle.lxt_tables.proofs.TimesLaws.{begins, time_there}
use Rattle.lxt_tables.proofs.times.head_of.Goals as goal

pub time_at-time-requires : goal.time_at-time-requires
time_at-time-requires c = time_there c.args.wide _ _ _ _ c.requires.0.inside c.requires.1 c.steps_at.ensures

pub returns : goal.returns
returns c =
    begins _ _ _ _ _ c.requires.0 c.requires.1 _ c.time_at-low.ensures c.time_at-low.type_inv _ c.biased.ensures
    _ c.last_at.ensures _ c.time_at-high.ensures c.time_at-high.type_inv _ c.biased-2.ensures
    _ c.positions_at.ensures.0 _ (c.from-position.ensures ∙ c.be32.ensures) _ c.steps_at.ensures _ c.time_at-time.ensures c.time_at-time.type_inv _ c.biased-3.ensures
