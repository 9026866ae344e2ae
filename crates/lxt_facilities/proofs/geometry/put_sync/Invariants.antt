use Rattle.lxt_pack.proofs.PutLaws.{RowsPut}
use Rattle.lxt_written.specs.WrittenChanges.{big_endian}
use Rattle.lxt_facilities.proofs.geometry.put_sync.Given as goal

abbrev pub invariant-loop-offset : goal.invariant-loop-offset
invariant-loop-offset l = RowsPut (big_endian 4) l.last l.initial.out l.at l.out l.p l.offset-index
