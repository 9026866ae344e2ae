use Rattle.lxt_print.proofs.BeginLaws.{leaves_ask, nodes_long, plant_asks, lines_begun}
use mathlib.Core.Path.{sym}
use Rattle.lxt_print.proofs.printing.all_lines.Goals as goal

pub leaves_for-m-requires : goal.leaves_for-m-requires
leaves_for-m-requires c = search leaves_ask

pub slice_bounds-plant-end-2 : goal.slice_bounds-plant-end-2
slice_bounds-plant-end-2 c = sym (nodes_long _ _ c.requires.0 _ c.requires.1.1 _ c.leaves_for-m.ensures)

pub plant-requires : goal.plant-requires
plant-requires c = plant_asks _ _ c.requires.0 _ c.requires.1.1 _ c.leaves_for-m.ensures

pub returns : goal.returns
returns c = search lines_begun
