use native.Mathlib.Omega.{arith}
use borrow.Author.Tests.{not-true, not-false}
use Rattle.lxt_tables.proofs.TimesLaws.{delta_there, sums_begun, sums_end, sums_stop, no_wrap, sums_turn}
use Rattle.lxt_tables.proofs.times.sums_allowed.Goals as goal

pub loop-i-init : goal.loop-i-init
loop-i-init c = search sums_begun

pub time_at-delta-requires : goal.time_at-delta-requires
time_at-delta-requires c = delta_there c.args.wide _ _ _ _ c.requires.0 c.ranges.m.fits c.loop-i-test.true

pub returns-then-not-allowed : goal.returns-then-not-allowed
returns-then-not-allowed c = search (sums_stop, not-true)

pub overflow_add-sum : goal.overflow_add-sum
overflow_add-sum c =
    let sum = no_wrap _ _ _ _ _ _ _ _ c.loop-i.invariant c.loop-i-test.true _ c.time_at-delta.ensures c.if-not-allowed.false in
    record { fits = omega (arith, sum, c.ranges.high.fits) }

pub loop-i-preserved : goal.loop-i-preserved
loop-i-preserved c = search (sums_turn, not-false)

pub returns : goal.returns
returns c = search sums_end
