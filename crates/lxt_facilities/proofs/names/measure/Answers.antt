use native.Mathlib.Omega.{arith}
use Rattle.lxt_facilities.proofs.NameLaws.{measure_begun, measure_stop, kept_here, measure_turn, measure_ended}
use Rattle.lxt_facilities.proofs.names.measure.Goals as goal

pub loop-row-init : goal.loop-row-init
loop-row-init c = measure_begun _ _

pub returns-then-not-allowed : goal.returns-then-not-allowed
returns-then-not-allowed c = measure_stop c.loop-row.invariant c.loop-row-test.true c.allowed.ensures c.if-not-allowed.true

pub overflow_cast-at : goal.overflow_cast-at
overflow_cast-at c =
    let kept = kept_here c.loop-row.invariant c.loop-row-test.true c.allowed.ensures c.if-not-allowed.false in
    omega (arith, kept.inside, c.well_formed)

pub overflow_cast-length : goal.overflow_cast-length
overflow_cast-length c =
    let kept = kept_here c.loop-row.invariant c.loop-row-test.true c.allowed.ensures c.if-not-allowed.false in
    omega (arith, kept.short)

pub shared-k-requires : goal.shared-k-requires
shared-k-requires c =
    let kept = kept_here c.loop-row.invariant c.loop-row-test.true c.allowed.ensures c.if-not-allowed.false in
    (c.loop-row.invariant.inside, kept.inside)

pub overflow_sub-size : goal.overflow_sub-size
overflow_sub-size c = c.shared-k.ensures.1

pub overflow_add-size : goal.overflow_add-size
overflow_add-size c =
    let kept = kept_here c.loop-row.invariant c.loop-row-test.true c.allowed.ensures c.if-not-allowed.false in
    omega (arith, kept.short)

pub overflow_add-size-in-loop-row : goal.overflow_add-size-in-loop-row
overflow_add-size-in-loop-row c =
    let kept = kept_here c.loop-row.invariant c.loop-row-test.true c.allowed.ensures c.if-not-allowed.false in
    omega (arith, kept.short)

pub overflow_add-memory : goal.overflow_add-memory
overflow_add-memory c =
    let kept = kept_here c.loop-row.invariant c.loop-row-test.true c.allowed.ensures c.if-not-allowed.false in
    omega (arith, kept.short)

pub overflow_add-memory-in-loop-row : goal.overflow_add-memory-in-loop-row
overflow_add-memory-in-loop-row c =
    let kept = kept_here c.loop-row.invariant c.loop-row-test.true c.allowed.ensures c.if-not-allowed.false in
    omega (arith, kept.short)

pub loop-row-preserved : goal.loop-row-preserved
loop-row-preserved c = measure_turn c.loop-row.invariant c.loop-row-test.true c.allowed.ensures c.if-not-allowed.false c.shared-k.ensures.0

pub returns : goal.returns
returns c = measure_ended c.loop-row.invariant c.loop-row-test.false
