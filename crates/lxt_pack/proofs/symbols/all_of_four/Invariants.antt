use lib.Dec.{ltb}
use Rattle.lxt_written.specs.WrittenChanges.{code_of}
use Rattle.lxt_pack.proofs.SymbolLaws.{Testing}
use Rattle.lxt_pack.proofs.symbols.all_of_four.Given as goal

abbrev pub invariant-loop-symbol : goal.invariant-loop-symbol
invariant-loop-symbol l = Testing (λ b. ltb (code_of b) 4) l.value l.four l.symbol-index
