use Rattle.lxt_pack.proofs.SymbolLaws.{ranged_begun, ranged_turn, ranged_same, ranged_bits}
use Rattle.lxt_pack.proofs.SymbolLaws.{classes_begun, classes_turn, classes_four, classes_nine}
use Rattle.lxt_pack.proofs.symbols.look_in_detail.Goals as goal

pub loop-symbol-init : goal.loop-symbol-init
loop-symbol-init c = (ranged_begun _ c.requires, classes_begun _)

pub loop-symbol-preserved : goal.loop-symbol-preserved
loop-symbol-preserved c =
    let seen = c.loop-symbol.invariant in
    let less = c.loop-symbol-test.true in
    let range = ranged_turn _ _ _ _ _ _ _ seen.0 less c.min-low.ensures c.max-high.ensures in
    (range, classes_turn _ _ _ _ _ seen.1 less c.class_of.ensures c.max-class.ensures)

pub returns : goal.returns
returns c =
    let seen = c.loop-symbol.invariant in
    let over = c.loop-symbol-test.false in
    let same = ranged_same _ _ _ _ seen.0 over in
    let bits = ranged_bits _ _ _ _ _ seen.0 over _ _ c.is_bit.ensures c.is_bit-2.ensures in
    record { same_value = (same, bits); four_value = (classes_four _ _ _ seen.1 over, classes_nine _ _ _ seen.1 over) }
