use lib.ListN.{length}
use Rattle.lxt_chains.proofs.RootLaws.{Stored}
use Rattle.lxt_chains.proofs.roots.put_offsets.Given as goal

abbrev pub invariant-loop-f : goal.invariant-loop-f
invariant-loop-f l = Stored l.file (length l.initial.pending) l.f l.pending
