use mir.Syntax.{w8}
use mir.ValLaws.{to_z-of_z}
use Rattle.lxt_layout.proofs.WholeLaws.{below_of}
use native.Mathlib.Omega.{arith}
use Rattle.lxt_writer.proofs.AnswerLaws.{answers_24, plan_there, answers_25, answers_written}
use Rattle.lxt_writer.proofs.write.Goals as goal

pub returns-in_err-plan : goal.returns-in_err-plan
returns-in_err-plan c =
    let planned = rw (to_z-of_z w8 c.args.timescale c.ranges.timescale) at c.plan_for-planned.ensures in
    let all = answers_24 _ _ _ _ _ _ c.args.out.now _ planned c.in_err-plan.ensures.ok_part _ _ c.from_residual.ensures.1 c.in_err-plan.ensures.value in
    record { result_value = all.0; out_after = all.1 }

pub returns-then-out-places : goal.returns-then-out-places
returns-then-out-places c =
    let planned = rw (to_z-of_z w8 c.args.timescale c.ranges.timescale) at c.plan_for-planned.ensures in
    let plan = plan_there _ _ _ _ _ _ c.args.out.now _ planned _ c.in_ok-plan.ensures.ok_part in
    let below = below_of _ _ c.placed_by-places.ensures in
    let all = answers_25 _ _ _ _ _ _ c.args.out.now _ plan _ c.placed_by-places.ensures
    (omega (arith, c.if-out-places.true, below.names, below.end)) in
    record { result_value = all.0; out_after = all.1 }

pub returns : goal.returns
returns c =
    let scale = to_z-of_z w8 c.args.timescale c.ranges.timescale in
    let planned = rw scale at c.plan_for-planned.ensures in
    let plan = plan_there _ _ _ _ _ _ c.args.out.now _ planned _ c.in_ok-plan.ensures.ok_part in
    let all = answers_written _ _ _ _ _ _ c.args.out.now _ plan _ c.placed_by-places.ensures c.if-out-places.false _
    (rw scale at c.put_file.ensures) in
    record { result_value = all.0; out_after = all.1 }
