use native.Mathlib.Omega.{arith}
use Rattle.lxt_values.proofs.entries.TimeTable.last.Goals as goal

pub loop-number-init : goal.loop-number-init
loop-number-init c = (c.first-e.ensures.0, omega (arith, c.first-e.ensures.1))

pub following-e-requires : goal.following-e-requires
following-e-requires c = (c.loop-number.invariant.0, omega (arith, c.loop-number.invariant.1))

pub loop-number-preserved : goal.loop-number-preserved
loop-number-preserved c = (c.following-e.ensures.0, omega (arith, c.following-e.ensures.1, c.loop-number.invariant.1))

pub returns : goal.returns
returns c =
    let inv = c.loop-number.invariant.0 in
    (inv, omega (arith, c.loop-number.invariant.1, inv.within, c.args.self.there.count))
