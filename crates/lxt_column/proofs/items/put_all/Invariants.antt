use lib.ListN.{length}
use Rattle.lxt_column.proofs.PutLaws.{Putting}
use Rattle.lxt_column.proofs.items.put_all.Given as goal

abbrev pub invariant-loop-i : goal.invariant-loop-i
invariant-loop-i l = Putting l.file l.time l.lent l.facilities l.initial.bits l.initial.records l.end (length l.initial.known) l.bits l.records l.known l.start l.visited l.i
