use native.Mathlib.Omega.{arith}
use lib.Dec.{lit≤}
use Rattle.lxt_changes.proofs.KeepLaws.{head_breaks, starts, integer_keeps, real_keeps, text_keeps}
use Rattle.lxt_changes.proofs.keep.others_keep.Goals as goal

pub returns-then-not-head_keeps : goal.returns-then-not-head_keeps
returns-then-not-head_keeps c = search head_breaks

pub data_at-at-requires : goal.data_at-at-requires
data_at-at-requires c = let s = starts _ _ _ _ c.args.width _ _ c.head_keeps.ensures c.if-not-head_keeps.false in omega (arith, c.requires.0.within)

pub symbols_end-requires : goal.symbols_end-requires
symbols_end-requires c = let s = starts _ _ _ _ c.args.width _ _ c.head_keeps.ensures c.if-not-head_keeps.false in (lit≤ tt, omega (arith, c.requires.0.within))

pub overflow_add-at : goal.overflow_add-at
overflow_add-at c = let s = starts _ _ _ _ c.args.width _ _ c.head_keeps.ensures c.if-not-head_keeps.false in omega (arith, s, c.data_at-at.ensures.1.1, c.requires.0.within)

pub overflow_add-zero_from : goal.overflow_add-zero_from
overflow_add-zero_from c = let s = starts _ _ _ _ c.args.width _ _ c.head_keeps.ensures c.if-not-head_keeps.false in omega (arith, s, c.data_at-at.ensures.1.1, c.zero_from.ensures.1, c.requires.0.within)

pub returns-in-Bits : goal.returns-in-Bits
returns-in-Bits c = absurd (c.requires.1.0 c.in-Bits.is)

pub returns-in-Integer : goal.returns-in-Integer
returns-in-Integer c = integer_keeps _ _ _ _ _ _ _ c.head_keeps.ensures c.if-not-head_keeps.false c.in-Integer.is (c.requires.1.1 c.in-Integer.is) _ c.symbols_end.ensures _ c.unpadded.ensures

pub returns-in-Real : goal.returns-in-Real
returns-in-Real c = real_keeps _ _ _ _ _ _ _ c.head_keeps.ensures c.if-not-head_keeps.false _ c.data_at-at.ensures.0 c.in-Real.is _ c.unpadded-in-Real.ensures

pub returns-in-Text : goal.returns-in-Text
returns-in-Text c = text_keeps _ _ _ _ _ _ _ c.head_keeps.ensures c.if-not-head_keeps.false _ c.data_at-at.ensures.0 c.in-Text.is c.requires.0.within _ c.zero_from.ensures.0 _ c.unpadded-in-Text.ensures
