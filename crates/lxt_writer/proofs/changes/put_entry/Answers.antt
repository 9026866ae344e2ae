use native.Mathlib.Omega.{arith}
use Rattle.lxt_writer.proofs.EntryLaws.{entry_none, entry_is_new, entry_given}
use Rattle.lxt_writer.proofs.changes.put_entry.Goals as goal

pub returns-then-not-is_new : goal.returns-then-not-is_new
returns-then-not-is_new c = entry_none _ _ _ _ _ _ c.is_new.ensures c.if-not-is_new.true

pub number-requires-clause-room : goal.number-requires-clause-room
number-requires-clause-room c =
    let new = entry_is_new c.args.out.now c.args.e c.args.gap _ _ _ c.is_new.ensures c.if-not-is_new.false in
    omega (arith, c.requires.room new, c.requires.apart new)

pub number-requires-2-clause-room : goal.number-requires-2-clause-room
number-requires-2-clause-room c =
    let new = entry_is_new c.args.out.now c.args.e c.args.gap _ _ _ c.is_new.ensures c.if-not-is_new.false in
    omega (arith, c.requires.room new)

pub overflow_add-result : goal.overflow_add-result
overflow_add-result c =
    let new = entry_is_new c.args.out.now c.args.e c.args.gap _ _ _ c.is_new.ensures c.if-not-is_new.false in
    omega (arith, c.requires.room new)

pub returns : goal.returns
returns c = entry_given _ _ _ _ _ _ c.is_new.ensures c.if-not-is_new.false _ _ c.number.ensures c.number-2.ensures
