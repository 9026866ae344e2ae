use Rattle.lxt_pack.proofs.PackLaws.{Summing}
use Rattle.lxt_pack.proofs.symbols.rest.Given as goal

abbrev pub invariant-loop-k : goal.invariant-loop-k
invariant-loop-k l = Summing l.value l.b l.sum l.k
