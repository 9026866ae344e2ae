use Rattle.lxt_changes.proofs.SymbolLaws.{Up}
use Rattle.lxt_changes.proofs.symbols.good_to.Given as goal

abbrev pub invariant-loop-p : goal.invariant-loop-p
invariant-loop-p l = Up l.file l.from l.to l.p
