use mir.Syntax.{w8}
use mir.ValLaws.{to_z-of_z}
use Rattle.lxt_writer.proofs.FileLaws.{changes_asked_lem, tables_ready, end_ready, file_put}
use Rattle.lxt_writer.proofs.file.put_parts.Goals as goal

pub put_all-requires : goal.put_all-requires
put_all-requires c = changes_asked_lem _ _ _ _ _ _ _ _ _ c.requires.0 _ c.placed_by-p.ensures _ c.requires.1

pub put_tables-requires : goal.put_tables-requires
put_tables-requires c = tables_ready _ _ _ _ _ _ _ _ _ c.requires.0 _ c.placed_by-p.ensures _ _ _ c.put_all.ensures c.put_header.ensures

pub put_end-requires : goal.put_end-requires
put_end-requires c =
    end_ready _ _ _ _ _ _ _ _ _ c.requires.0 _ c.placed_by-p.ensures _ _ _ c.put_all.ensures c.put_header.ensures _
    (rw (c.first_time.ensures, c.last_time.ensures) at c.put_tables.ensures)

pub returns : goal.returns
returns c =
    let scale = to_z-of_z w8 c.args.timescale c.ranges.timescale in
    file_put _ _ _ _ _ _ _ _ _ c.requires.0 _ c.placed_by-p.ensures _ _ _ c.put_all.ensures c.put_header.ensures _
    (rw (c.first_time.ensures, c.last_time.ensures) at c.put_tables.ensures) _ (rw scale at c.put_end.ensures)
