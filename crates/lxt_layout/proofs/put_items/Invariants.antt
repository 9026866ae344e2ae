use Rattle.lxt_layout.proofs.LayoutLaws.{Listing}
use Rattle.lxt_layout.proofs.put_items.Given as goal

abbrev pub invariant-loop-i : goal.invariant-loop-i
invariant-loop-i l = Listing l.initial.out l.at l.values l.out l.i
