use Rattle.lxt_pack.specs.Symbols.{all_below}
use Rattle.lxt_pack.proofs.SymbolLaws.{test_begun, test_turn, test_ended}
use Rattle.lxt_pack.proofs.symbols.all_of_four.Goals as goal

pub loop-symbol-init : goal.loop-symbol-init
loop-symbol-init c = test_begun _ _

pub loop-symbol-preserved : goal.loop-symbol-preserved
loop-symbol-preserved c = test_turn _ _ _ _ c.loop-symbol.invariant c.loop-symbol-test.true _ c.is_one_of_four-four.ensures

pub returns : goal.returns
unfolding all_below
returns c = test_ended _ _ _ _ c.loop-symbol.invariant c.loop-symbol-test.false
