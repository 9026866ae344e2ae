use Rattle.lxt_values.proofs.ByteLaws.{Putting}
use Rattle.lxt_values.proofs.symbols.put.Given as goal

abbrev pub invariant-loop-j : goal.invariant-loop-j
invariant-loop-j l = Putting l.initial.bits l.place l.word l.count l.bits l.rest l.j
