use mathlib.Core.List.{[]}
use native.Mathlib.Omega.{arith}
use Rattle.lxt_pack.proofs.PutLaws.{rows_begun, row_room, row_turn}
use Rattle.lxt_facilities.proofs.GeometryLaws.{row_bytes, length_row, facilities_put}
use Rattle.lxt_facilities.proofs.geometry.put_all.Goals as goal

pub loop-row-init : goal.loop-row-init
loop-row-init c = rows_begun 16 row_bytes length_row c.requires

pub put_row-requires : goal.put_row-requires
put_row-requires c = row_room 16 row_bytes length_row [] c.loop-row.invariant c.loop-row-test.true

pub overflow_add-p : goal.overflow_add-p
overflow_add-p c = omega (arith, row_room 16 row_bytes length_row [] c.loop-row.invariant c.loop-row-test.true)

pub loop-row-preserved : goal.loop-row-preserved
loop-row-preserved c = row_turn 16 row_bytes length_row _ c.loop-row.invariant c.loop-row-test.true c.put_row.ensures

pub shape_of-out : goal.shape_of-out
shape_of-out c = c.loop-row.invariant.filling.long

pub returns : goal.returns
returns c = facilities_put c.loop-row.invariant c.loop-row-test.false
