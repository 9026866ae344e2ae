use native.Mathlib.Omega.{arith}
use Rattle.lxt_format.proofs.ChangesLaws.{previous_lt}
use Rattle.lxt_values.proofs.TimeLaws.{falling_begun, chain_ended, first_below_lem, change_readable, falling_turn}
use Rattle.lxt_values.proofs.times.first_below.Goals as goal

pub loop-o-init : goal.loop-o-init
loop-o-init c = falling_begun _ _ _ c.requires

pub overflow_add-visited : goal.overflow_add-visited
overflow_add-visited c =
    let inv = c.loop-o.invariant in
    record { fits = omega (arith, inv.above, c.ranges.from.fits) }

pub returns-then-o-end : goal.returns-then-o-end
returns-then-o-end c = first_below_lem _ _ _ _ _ c.loop-o.invariant c.loop-o-test.true c.if-o-end.true

pub previous-o-requires : goal.previous-o-requires
previous-o-requires c = change_readable _ _ _ _ _ c.loop-o.invariant c.loop-o-test.true

pub loop-o-smaller : goal.loop-o-smaller
loop-o-smaller c = omega (arith, c.previous-o.ensures, previous_lt c.args.file.now c.loop-o.o (omega (arith, c.loop-o-test.true)))

pub loop-o-preserved : goal.loop-o-preserved
loop-o-preserved c = falling_turn _ _ _ _ _ c.loop-o.invariant c.loop-o-test.true c.if-o-end.false _ c.previous-o.ensures

pub returns : goal.returns
returns c = chain_ended _ _ _ _ _ c.loop-o.invariant c.loop-o-test.false
