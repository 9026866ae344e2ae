use Rattle.lxt_sections.proofs.LayoutLaws.{position_inside, delta_inside, deltas_are}
use Rattle.lxt_sections.proofs.times.deltas_of.Goals as goal

pub be32-requires : goal.be32-requires
be32-requires c = search position_inside

pub time_at-requires : goal.time_at-requires
time_at-requires c = delta_inside c.args.wide _ _ _ _ _ c.requires.0 c.ranges.m.fits c.requires.1 c.steps_at.ensures

pub returns : goal.returns
returns c =
    let all = deltas_are _ _ _ _ _ _ _ _ c.positions_at.ensures.0 c.be32.ensures _ c.steps_at.ensures c.time_at.ensures in
    record { position_value = all.0; time_value = all.1 }
