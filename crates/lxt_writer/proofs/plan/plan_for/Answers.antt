use mir.Syntax.{w8}
use mir.ValLaws.{to_z-of_z}
use native.Mathlib.Omega.{arith}
use Rattle.lxt_writer.proofs.PlanLaws.{values_refused, facilities_refused, changes_refused, length_refused}
use Rattle.lxt_writer.proofs.PlanLaws.{count_small, widths_small, plan_found}
use Rattle.lxt_writer.proofs.plan.plan_for.Goals as goal

pub returns-then-not-values_allowed : goal.returns-then-not-values_allowed
returns-then-not-values_allowed c =
    let scale = to_z-of_z w8 c.args.timescale c.ranges.timescale in
    let values = rw scale at c.values_allowed.ensures in
    values_refused _ _ _ _ _ _ _ values c.if-not-values_allowed.true

pub returns-in_err-f : goal.returns-in_err-f
returns-in_err-f c = rw c.from_residual.ensures (facilities_refused _ _ _ _ _ _ c.in_err-f.ensures)

pub measure_changes-requires : goal.measure_changes-requires
measure_changes-requires c =
    let scale = to_z-of_z w8 c.args.timescale c.ranges.timescale in
    let values = rw scale at c.values_allowed.ensures in
    let a = c.args in
    let few = count_small a.facilities.now a.names.now a.changes.now a.values.now a.initial a.timescale _ values c.if-not-values_allowed.false in
    let wide = widths_small a.facilities.now a.names.now a.changes.now a.values.now a.initial a.timescale _ values c.if-not-values_allowed.false _ c.in_ok-f.ensures in
    (wide, few)

pub returns-in_err-c : goal.returns-in_err-c
returns-in_err-c c = rw c.from_residual-in_err-c.ensures (changes_refused _ _ _ _ _ _ c.in_err-c.ensures)

pub returns-then-places-gt-LONGEST : goal.returns-then-places-gt-LONGEST
returns-then-places-gt-LONGEST c =
    let scale = to_z-of_z w8 c.args.timescale c.ranges.timescale in
    let values = rw scale at c.values_allowed.ensures in
    length_refused _ _ _ _ _ _ _ values c.if-not-values_allowed.false _ c.in_ok-f.ensures _ c.in_ok-c.ensures _
    c.placed_by-places.ensures (omega (arith, c.if-places-gt-LONGEST.true))

pub returns : goal.returns
returns c =
    let scale = to_z-of_z w8 c.args.timescale c.ranges.timescale in
    let values = rw scale at c.values_allowed.ensures in
    plan_found _ _ _ _ _ _ _ values c.if-not-values_allowed.false _ c.in_ok-f.ensures _ c.in_ok-c.ensures _
    c.placed_by-places.ensures (omega (arith, c.if-places-gt-LONGEST.false))
