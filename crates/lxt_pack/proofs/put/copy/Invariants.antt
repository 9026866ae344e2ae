use Rattle.lxt_pack.proofs.PutLaws.{Copied}
use Rattle.lxt_pack.proofs.put.copy.Given as goal

abbrev pub invariant-loop-k : goal.invariant-loop-k
invariant-loop-k l = Copied l.initial.out l.at l.bytes l.out l.k
