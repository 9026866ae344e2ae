use lib.ListN.{drop}
use Rattle.lxt_values.proofs.CopyLaws.{Pasted}
use Rattle.lxt_values.proofs.names.copy_part.Given as goal

abbrev pub invariant-loop-j : goal.invariant-loop-j
invariant-loop-j l = Pasted (drop l.from l.file) l.count l.at l.initial.names l.names l.j
