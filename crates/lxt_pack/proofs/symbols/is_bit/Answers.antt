use Rattle.lxt_pack.proofs.SymbolLaws.{bit_is}
use Rattle.lxt_pack.proofs.symbols.is_bit.Goals as goal

pub returns : goal.returns
returns c = bit_is _
