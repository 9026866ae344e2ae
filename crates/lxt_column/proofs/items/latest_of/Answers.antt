use mathlib.Core.Path.{◌∙◌}
use native.Mathlib.Omega.{arith}
use Rattle.lxt_column.proofs.ItemLaws.{sync_asks, root_readable, root_small}
use Rattle.lxt_column.proofs.MemoryLaws.{remembered, offset_fits, word_fits, followed}
use Rattle.lxt_column.proofs.items.latest_of.Goals as goal

pub bounds-known-place : goal.bounds-known-place
bounds-known-place c = omega (arith, root_small c.requires.0, c.requires.1.room)

pub returns-then-word : goal.returns-then-word
returns-then-word c =
    let all = remembered c.requires.1 (omega (arith, root_small c.requires.0, c.requires.1.room)) c.if-word.true in
    record { offset_value = (c.then_some.ensures ∙ all.0.0, all.0.1); remembered = all.1 }

pub sync_of-from-requires : goal.sync_of-from-requires
sync_of-from-requires c = sync_asks c.requires.0

pub first_below-found-requires : goal.first_below-found-requires
first_below-found-requires c = rw c.sync_of-from.ensures (root_readable c.requires.0)

pub overflow_mul-known : goal.overflow_mul-known
overflow_mul-known c = record { fits = offset_fits _ _ _ c.sync_of-from.type_inv _ _ c.first_below-found.ensures _ c.unwrap_or.ensures }

pub overflow_add-known : goal.overflow_add-known
overflow_add-known c = record { fits = word_fits _ _ _ c.sync_of-from.type_inv _ _ c.first_below-found.ensures _ c.unwrap_or.ensures }

pub bounds-known-place-2 : goal.bounds-known-place-2
bounds-known-place-2 c = omega (arith, root_small c.requires.0, c.requires.1.room)

pub returns : goal.returns
returns c =
    let all =
    followed c.requires.1 (omega (arith, root_small c.requires.0, c.requires.1.room)) c.sync_of-from.ensures c.sync_of-from.type_inv c.first_below-found.ensures c.unwrap_or.ensures in
    record { offset_value = all.0; remembered = all.1 }
