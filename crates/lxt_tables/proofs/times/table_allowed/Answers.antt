use native.Mathlib.Omega.{arith}
use Rattle.lxt_tables.proofs.TimesLaws.{positions_there, times_there, position_low, time_low, table_stop, table_is}
use Rattle.lxt_tables.proofs.times.table_allowed.Goals as goal

pub returns-then-not-position_allowed-time_allowed : goal.returns-then-not-position_allowed-time_allowed
returns-then-not-position_allowed-time_allowed c = table_stop _ _ _ _ _ c.requires.0 c.requires.1 (omega (arith, c.requires.0.high)) _ _ _ _ c.head_of-h.ensures c.if-not-position_allowed-time_allowed.true

pub sums_allowed-requires : goal.sums_allowed-requires
sums_allowed-requires c = (
  positions_there c.args.wide _ _ _ _ c.requires.0.inside c.positions_at.ensures.0,
  position_low _ _ _ _ _ c.requires.0 c.requires.1 (omega (arith, c.requires.0.high)) _ _ _ _ c.head_of-h.ensures c.if-not-position_allowed-time_allowed.false,
)

pub sums_allowed-requires-2 : goal.sums_allowed-requires-2
sums_allowed-requires-2 c = (
  times_there c.args.wide _ _ _ _ c.requires.0.inside c.steps_at.ensures,
  time_low _ _ _ _ _ c.requires.0 c.requires.1 (omega (arith, c.requires.0.high)) _ _ _ _ c.head_of-h.ensures c.if-not-position_allowed-time_allowed.false,
)

pub returns : goal.returns
returns c =
    table_is _ _ _ _ _ c.requires.0 c.requires.1 (omega (arith, c.requires.0.high)) _ _ _ _ c.head_of-h.ensures c.if-not-position_allowed-time_allowed.false
    _ c.positions_at.ensures.0 _ c.sums_allowed.ensures _ c.steps_at.ensures _ c.sums_allowed-2.ensures
