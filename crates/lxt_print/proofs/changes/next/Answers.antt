use mathlib.Core.Path.{refl}
use native.Mathlib.Omega.{arith}
use Rattle.lxt_chains.proofs.NextLaws.{took_none, took_one}
use Rattle.lxt_print.proofs.StepLaws.{take_asks, none_left, down_asks, here, number_below, number_small, stepped}
use Rattle.lxt_print.proofs.ValueLaws.{times_there}
use Rattle.lxt_print.proofs.changes.next.Goals as goal

pub take_highest-requires : goal.take_highest-requires
take_highest-requires c = let pre = c.requires in take_asks _ _ pre.0 _ _ pre.1.0

pub returns-in_err-taken : goal.returns-in_err-taken
returns-in_err-taken c =
    let pre = c.requires in
    let left = c.take_highest.ensures.tree in
    let z = took_none _ _ c.in_err-taken.ensures.taken in
    let all = none_left _ _ pre.0 _ _ pre.1.0 _ _ refl refl z _ left.0 left.1 _ _ pre.1.1.0 in
    rw c.from_residual.ensures (record { line = all.0; waiting = all.1.0; timed = all.1.1 })

pub new-times-requires : goal.new-times-requires
new-times-requires c = times_there _ _ c.requires.0

pub down-entry-requires : goal.down-entry-requires
down-entry-requires c =
    let pre = c.requires in
    let t = took_one _ _ _ c.in_ok-taken.ensures.taken in
    rw c.new-times.ensures.same_file (down_asks _ _ pre.0 _ _ pre.1.0 _ _ t.number t.offset t.some _ pre.1.1.0)

pub overflow_cast-taken : goal.overflow_cast-taken
overflow_cast-taken c =
    let pre = c.requires in
    let t = took_one _ _ _ c.in_ok-taken.ensures.taken in
    omega (arith, number_small _ _ pre.0 _ _ pre.1.0 _ _ t.number t.offset t.some)

pub change-size-requires : goal.change-size-requires
change-size-requires c =
    let pre = c.requires in
    let t = took_one _ _ _ c.in_ok-taken.ensures.taken in
    let below = number_below _ _ pre.0 _ _ pre.1.0 _ _ t.number t.offset t.some in
    let allowed = here _ _ pre.0 _ _ pre.1.0 _ _ t.number t.offset t.some in
    (pre.0, (below, (allowed, ((rw c.new-times.ensures.same_file at c.down-entry.ensures.1), pre.1.1.1))))

pub returns : goal.returns
returns c =
    let pre = c.requires in
    let t = took_one _ _ _ c.in_ok-taken.ensures.taken in
    let left = c.take_highest.ensures.tree in
    let put = c.change-size.ensures in
    let down = rw c.new-times.ensures.same_file at c.down-entry.ensures in
    let all = stepped _ _ pre.0 _ _ pre.1.0 _ _ t.number t.offset t.some _ left.0 left.1 _ down.0 _ _ _ put.0 put.1 in
    record { line = all.0; waiting = all.1.0; timed = all.1.1 }
