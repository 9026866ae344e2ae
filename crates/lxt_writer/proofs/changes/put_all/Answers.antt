use native.Mathlib.Omega.{arith}
use Rattle.lxt_writer.proofs.WriteLaws.{writing_begun, entry_asked, row_asked, writing_turn, writing_ended, table_has}
use Rattle.lxt_writer.proofs.changes.put_all.Goals as goal

pub loop-row-init : goal.loop-row-init
loop-row-init c = writing_begun _ _ _ _ _ _ _ c.requires

pub put_entry-e-requires : goal.put_entry-e-requires
put_entry-e-requires c = entry_asked _ _ _ _ _ _ _ c.requires _ _ _ _ _ c.loop-row.invariant c.loop-row-test.true

pub put_row-next-requires : goal.put_row-next-requires
put_row-next-requires c = row_asked _ _ _ _ _ _ _ c.requires _ _ _ _ _ c.loop-row.invariant c.loop-row-test.true _ _ c.put_entry-e.ensures

pub overflow_cast-last : goal.overflow_cast-last
overflow_cast-last c = omega (arith, c.loop-row.invariant.laying.free.most)

pub offset_bounds-last-facility_of : goal.offset_bounds-last-facility_of
offset_bounds-last-facility_of c = omega (arith, table_has _ _ _ _ _ _ _ c.requires _ _ _ _ _ c.loop-row.invariant c.loop-row-test.true _ c.facility_of.ensures.0)

pub bounds-last-facility_of : goal.bounds-last-facility_of
bounds-last-facility_of c = table_has _ _ _ _ _ _ _ c.requires _ _ _ _ _ c.loop-row.invariant c.loop-row-test.true _ c.facility_of.ensures.0

pub loop-row-preserved : goal.loop-row-preserved
loop-row-preserved c =
    writing_turn _ _ _ _ _ _ _ c.requires _ _ _ _ _ c.loop-row.invariant c.loop-row-test.true _ _ c.put_entry-e.ensures _ _ _
    c.put_row-next.ensures c.facility_of.ensures.0

pub shape_of-last : goal.shape_of-last
shape_of-last c = omega (arith, c.loop-row.invariant.laying.free.long, c.requires.fresh.long)

pub shape_of-out : goal.shape_of-out
shape_of-out c = c.loop-row.invariant.long

pub returns : goal.returns
returns c = writing_ended _ _ _ _ _ _ _ c.requires _ _ _ _ _ c.loop-row.invariant c.loop-row-test.false
