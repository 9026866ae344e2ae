use Rattle.lxt_pack.proofs.SymbolLaws.{ranged_begun, ranged_turn, ranged_same, ranged_bits}
use Rattle.lxt_pack.proofs.symbols.look.Goals as goal

pub loop-symbol-init : goal.loop-symbol-init
loop-symbol-init c = ranged_begun _ c.requires

pub loop-symbol-preserved : goal.loop-symbol-preserved
loop-symbol-preserved c = ranged_turn _ _ _ _ _ _ _ c.loop-symbol.invariant c.loop-symbol-test.true c.min-low.ensures c.max-high.ensures

pub returns : goal.returns
returns c =
    let seen = c.loop-symbol.invariant in
    let over = c.loop-symbol-test.false in
    (ranged_same _ _ _ _ seen over, ranged_bits _ _ _ _ _ seen over _ _ c.is_bit.ensures c.is_bit-2.ensures)
