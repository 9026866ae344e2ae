use Rattle.lxt_pack.proofs.PutLaws.{RowsPut}
use Rattle.lxt_facilities.proofs.GeometryLaws.{row_bytes}
use Rattle.lxt_facilities.proofs.geometry.put_all.Given as goal

abbrev pub invariant-loop-row : goal.invariant-loop-row
invariant-loop-row l = RowsPut row_bytes l.facilities l.initial.out l.at l.out l.p l.row-index
