use Rattle.lxt_pack.proofs.SymbolLaws.{class_is}
use Rattle.lxt_pack.proofs.symbols.class_of.Goals as goal

pub returns : goal.returns
returns c = class_is _ _ _ _ _ c.is_one_of_four.ensures c.is_symbol.ensures c.from.ensures c.from-2.ensures
