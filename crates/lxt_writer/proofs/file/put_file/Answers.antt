use mir.Syntax.{w8}
use mir.ValLaws.{to_z-of_z}
use mathlib.Core.Path.{sym}
use Rattle.lxt_writer.proofs.PlanLaws.{zeros_fresh, allowed_count}
use Rattle.lxt_writer.proofs.file.put_file.Goals as goal

pub slice_bounds-last-end : goal.slice_bounds-last-end
slice_bounds-last-end c = allowed_count _ _ _ _ _ _ c.requires.allowed

pub slice_bounds-put_parts-end : goal.slice_bounds-put_parts-end
slice_bounds-put_parts-end c = sym (zeros_fresh _ 4096 (allowed_count _ _ _ _ _ _ c.requires.allowed)).long

pub put_parts-requires : goal.put_parts-requires
put_parts-requires c =
    let scale = to_z-of_z w8 c.args.timescale c.ranges.timescale in
    (rw scale c.requires, zeros_fresh _ 4096 (allowed_count _ _ _ _ _ _ c.requires.allowed))

pub returns : goal.returns
returns c =
    let scale = to_z-of_z w8 c.args.timescale c.ranges.timescale in
    rw scale at c.put_parts.ensures
