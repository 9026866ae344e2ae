use Rattle.lxt_format.specs.Geometry.{facts_of}
use Rattle.lxt_column.proofs.ListLaws.{Adding}
use Rattle.lxt_column.proofs.list.widths.Given as goal

abbrev pub invariant-loop-facility : goal.invariant-loop-facility
invariant-loop-facility l = Adding (λ f. (facts_of l.file f).width) l.facilities l.facility-index l.sum
