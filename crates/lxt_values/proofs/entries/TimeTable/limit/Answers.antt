use native.Mathlib.Omega.{arith}
use Rattle.lxt_values.proofs.TimeLaws.{zero_later, zero_reached, first_later, no_limit, limit_found}
use Rattle.lxt_values.proofs.entries.TimeTable.limit.Goals as goal

pub returns-then-t-lt-BIAS : goal.returns-then-t-lt-BIAS
returns-then-t-lt-BIAS c = zero_later _ _ _ c.args.self.wide c.args.self.there _ c.ranges.t.fits c.if-self-eq0.true c.if-t-lt-BIAS.true

pub returns-then-self-eq0 : goal.returns-then-self-eq0
returns-then-self-eq0 c = zero_reached _ _ _ c.args.self.wide c.args.self.there _ c.ranges.t.fits c.if-self-eq0.true c.if-t-lt-BIAS.false

pub first-e-requires : goal.first-e-requires
first-e-requires c = omega (arith, c.if-self-eq0.false)

pub returns-then-t-e : goal.returns-then-t-e
returns-then-t-e c = first_later _ _ _ c.args.self.wide c.args.self.there _ c.ranges.t.fits (omega (arith, c.if-self-eq0.false)) _ _ _ c.first-e.ensures.0 c.first-e.ensures.1 c.if-t-e.true

pub loop-number-init : goal.loop-number-init
loop-number-init c = (c.first-e.ensures.0, (c.if-t-e.false, omega (arith, c.first-e.ensures.1)))

pub following-e-requires : goal.following-e-requires
following-e-requires c = (c.loop-number.invariant.0, omega (arith, c.loop-number.invariant.1.1))

pub returns-then-t-e-2 : goal.returns-then-t-e-2
returns-then-t-e-2 c =
    let inv = c.loop-number.invariant in
    limit_found _ _ _ c.args.self.wide c.args.self.there _ c.ranges.t.fits (omega (arith, c.if-self-eq0.false)) _ _ _ inv.0 inv.1.0 _ _ _ c.following-e.ensures.0 c.following-e.ensures.1 c.if-t-e-2.true

pub loop-number-preserved : goal.loop-number-preserved
loop-number-preserved c = (c.following-e.ensures.0, (c.if-t-e-2.false, omega (arith, c.following-e.ensures.1, c.loop-number.invariant.1.1)))

pub returns : goal.returns
returns c =
    let inv = c.loop-number.invariant in
    no_limit _ _ _ c.args.self.wide c.args.self.there _ c.ranges.t.fits (omega (arith, c.if-self-eq0.false)) _ _ _ inv.0 inv.1.0 (omega (arith, inv.1.1))
