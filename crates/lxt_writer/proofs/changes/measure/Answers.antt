use mir.Val.{bool_byte}
use mathlib.Core.Path.{ap, ◌∙◌}
use native.Mathlib.Omega.{arith}
use Rattle.lxt_writer.proofs.MeasureLaws.{measure_begun, time_falls, row_refused, row_too_long, measure_turn, measure_ended, table_known, at_most_one}
use Rattle.lxt_writer.proofs.changes.measure.Goals as goal

pub loop-row-init : goal.loop-row-init
loop-row-init c = measure_begun _ _ _ _ c.requires.1

pub returns-then-row-time : goal.returns-then-row-time
returns-then-row-time c = time_falls _ _ _ _ _ _ _ _ c.loop-row.invariant c.loop-row-test.true c.if-row-time.true

pub row_size-requires : goal.row_size-requires
row_size-requires c = (c.requires.0, c.loop-row.invariant.laying.free)

pub returns-in_err-size : goal.returns-in_err-size
returns-in_err-size c =
    rw c.from_residual.ensures (row_refused _ _ _ _ _ _ _ _ c.loop-row.invariant c.loop-row-test.true c.in_err-size.ensures)

pub overflow_sub-at : goal.overflow_sub-at
overflow_sub-at c = omega (arith, c.loop-row.invariant.laying.free.most)

pub returns-then-at-size : goal.returns-then-at-size
returns-then-at-size c =
    row_too_long _ _ _ _ _ _ _ _ c.loop-row.invariant c.loop-row-test.true _ c.in_ok-size.ensures (omega (arith, c.loop-row.invariant.laying.free.most))

pub overflow_add-entries : goal.overflow_add-entries
overflow_add-entries c = omega (arith, c.loop-row.invariant.few, c.loop-row.invariant.laying.free.most, at_most_one _ _ c.from-entries.ensures)

pub overflow_cast-last : goal.overflow_cast-last
overflow_cast-last c = omega (arith, c.loop-row.invariant.laying.free.most)

pub offset_bounds-last-f : goal.offset_bounds-last-f
offset_bounds-last-f c = omega (arith, table_known _ _ _ _ _ _ _ _ c.loop-row.invariant _ _ _ c.facility_of-f.ensures.0 c.in_ok-size.ensures)

pub bounds-last-f : goal.bounds-last-f
bounds-last-f c = table_known _ _ _ _ _ _ _ _ c.loop-row.invariant _ _ _ c.facility_of-f.ensures.0 c.in_ok-size.ensures

pub overflow_add-at : goal.overflow_add-at
overflow_add-at c = omega (arith, c.loop-row.invariant.laying.free.most)

pub loop-row-preserved : goal.loop-row-preserved
loop-row-preserved c =
    measure_turn _ _ _ _ _ _ _ _ c.loop-row.invariant c.loop-row-test.true c.if-row-time.false _ _ c.in_ok-size.ensures
    (omega (arith, c.loop-row.invariant.laying.free.most)) (c.from-entries.ensures ∙ ap bool_byte c.is_new.ensures)
    _ c.facility_of-f.ensures.0

pub returns : goal.returns
returns c = measure_ended _ _ _ _ _ _ _ _ c.loop-row.invariant c.loop-row-test.false
