use native.Mathlib.Omega.{arith}
use Rattle.lxt_pack.proofs.PutLaws.{rows_begun, row_room, row_turn, rows_ended}
use Rattle.lxt_written.specs.WrittenChanges.{big_endian}
use Rattle.lxt_written.specs.Stands.{length_big_endian}
use Rattle.lxt_facilities.proofs.geometry.put_sync.Goals as goal

pub loop-offset-init : goal.loop-offset-init
loop-offset-init c = rows_begun 4 (big_endian 4) (length_big_endian 4) c.requires

pub number-requires-clause-room : goal.number-requires-clause-room
number-requires-clause-room c = row_room 4 (big_endian 4) (length_big_endian 4) 0 c.loop-offset.invariant c.loop-offset-test.true

pub overflow_add-p : goal.overflow_add-p
overflow_add-p c = omega (arith, row_room 4 (big_endian 4) (length_big_endian 4) 0 c.loop-offset.invariant c.loop-offset-test.true)

pub loop-offset-preserved : goal.loop-offset-preserved
loop-offset-preserved c = row_turn 4 (big_endian 4) (length_big_endian 4) _ c.loop-offset.invariant c.loop-offset-test.true c.number.ensures

pub shape_of-out : goal.shape_of-out
shape_of-out c = c.loop-offset.invariant.filling.long

pub returns : goal.returns
returns c = rows_ended 4 (big_endian 4) (length_big_endian 4) 0 c.loop-offset.invariant c.loop-offset-test.false
