use mathlib.Core.Path.{◌≡◌}
use Rattle.lxt_values.proofs.StepLaws.{Stepping}
use Rattle.lxt_values.proofs.symbols.unpack.Given as goal

abbrev pub invariant-loop-k : goal.invariant-loop-k
invariant-loop-k l = (l.steps ≡ l._k) × Stepping l.file l.b l.width l.at l.initial.bits l.bits l.steps
