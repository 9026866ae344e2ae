use Rattle.lxt_changes.proofs.KeepLaws.{AllGood}
use Rattle.lxt_changes.proofs.keep.all_good.Given as goal

abbrev pub invariant-loop-p : goal.invariant-loop-p
invariant-loop-p l = AllGood l.file l.from l.to l.p l.all
