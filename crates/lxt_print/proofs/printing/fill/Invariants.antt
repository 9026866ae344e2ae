use lib.ListN.{length}
use Rattle.lxt_print.specs.Left.{rest_left, left_text}
use Rattle.lxt_print.proofs.FillLaws.{Filling}
use Rattle.lxt_print.proofs.printing.fill.Given as goal

abbrev pub invariant-loop-left : goal.invariant-loop-left
invariant-loop-left l = Filling l.file (left_text l.file l.initial.left l.initial.nodes l.initial.line) l.initial.out l.left l.name l.nodes l.line l.out l.put

abbrev pub decreases-loop-left : goal.decreases-loop-left
decreases-loop-left l = length (rest_left l.file l.left.rest l.nodes)
