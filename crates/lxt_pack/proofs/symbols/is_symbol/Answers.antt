use Rattle.lxt_pack.proofs.SymbolLaws.{nine_is_one}
use Rattle.lxt_pack.proofs.symbols.is_symbol.Goals as goal

pub returns : goal.returns
returns c = nine_is_one _ _ c.is_one_of_four.ensures
