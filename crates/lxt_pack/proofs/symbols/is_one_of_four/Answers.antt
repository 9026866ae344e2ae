use Rattle.lxt_pack.proofs.SymbolLaws.{four_is_one}
use Rattle.lxt_pack.proofs.symbols.is_one_of_four.Goals as goal

pub returns : goal.returns
returns c = four_is_one _ _ c.is_bit.ensures
