use Rattle.lxt_sections.proofs.ListLaws.{Reading}
use Rattle.lxt_sections.proofs.list.Given as goal

abbrev pub invariant-items : goal.invariant-items
invariant-items l = Reading l.file l.p l.met

abbrev pub decreases-items : goal.decreases-items
decreases-items l = l.p
