use lib.ListN.{get_or}
use Rattle.lxt_pack.proofs.SymbolLaws.{Ranged}
use Rattle.lxt_pack.proofs.symbols.look.Given as goal

abbrev pub invariant-loop-symbol : goal.invariant-loop-symbol
invariant-loop-symbol l = Ranged l.value (get_or l.value 0 0) l.low l.high l.symbol-index
