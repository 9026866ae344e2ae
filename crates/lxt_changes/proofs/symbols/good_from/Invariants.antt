use Rattle.lxt_changes.proofs.SymbolLaws.{Down}
use Rattle.lxt_changes.proofs.symbols.good_from.Given as goal

abbrev pub invariant-loop-p : goal.invariant-loop-p
invariant-loop-p l = Down l.file l.from l.to l.p
