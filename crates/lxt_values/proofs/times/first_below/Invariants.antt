use Rattle.lxt_values.proofs.TimeLaws.{Falling}
use Rattle.lxt_values.proofs.times.first_below.Given as goal

abbrev pub invariant-loop-o : goal.invariant-loop-o
invariant-loop-o l = Falling l.file l.end l.from l.o l.visited

abbrev pub decreases-loop-o : goal.decreases-loop-o
decreases-loop-o l = l.o
