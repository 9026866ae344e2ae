use native.Mathlib.Omega.{arith}
use Rattle.lxt_facilities.proofs.NameLaws.{names_begun, name_kept, name_next, name_turn, names_ended}
use Rattle.lxt_facilities.proofs.names.put_all.Goals as goal

pub loop-row-init : goal.loop-row-init
loop-row-init c = names_begun _ _ _ _ c.requires.0 c.requires.1

pub overflow_cast-start : goal.overflow_cast-start
overflow_cast-start c =
    let kept = name_kept c.loop-row.invariant c.loop-row-test.true in
    omega (arith, kept.inside, c.well_formed)

pub overflow_cast-size : goal.overflow_cast-size
overflow_cast-size c =
    let kept = name_kept c.loop-row.invariant c.loop-row-test.true in
    omega (arith, kept.short)

pub shared-k-requires : goal.shared-k-requires
shared-k-requires c =
    let kept = name_kept c.loop-row.invariant c.loop-row-test.true in
    (omega (arith, c.loop-row.invariant.inside), kept.inside)

pub put_name-requires : goal.put_name-requires
put_name-requires c =
    let next = name_next c.loop-row.invariant c.loop-row-test.true c.shared-k.ensures.0 c.shared-k.ensures.1 in
    (next.part_of, next.short, next.inside, next.room)

pub overflow_sub-p : goal.overflow_sub-p
overflow_sub-p c = c.shared-k.ensures.1

pub overflow_add-p : goal.overflow_add-p
overflow_add-p c =
    let next = name_next c.loop-row.invariant c.loop-row-test.true c.shared-k.ensures.0 c.shared-k.ensures.1 in
    omega (arith, next.short)

pub overflow_add-p-in-loop-row : goal.overflow_add-p-in-loop-row
overflow_add-p-in-loop-row c =
    let next = name_next c.loop-row.invariant c.loop-row-test.true c.shared-k.ensures.0 c.shared-k.ensures.1 in
    omega (arith, next.room)

pub loop-row-preserved : goal.loop-row-preserved
loop-row-preserved c = name_turn c.loop-row.invariant c.loop-row-test.true c.shared-k.ensures.0 c.put_name.ensures

pub shape_of-out : goal.shape_of-out
shape_of-out c = c.loop-row.invariant.filling.long

pub returns : goal.returns
returns c = names_ended c.loop-row.invariant c.loop-row-test.false
