use mathlib.Core.Path.{sym}
use Rattle.lxt_writer.proofs.PlanLaws.{zeros_fresh}
use Rattle.lxt_writer.proofs.plan.measure_changes.Goals as goal

pub slice_bounds-measure-end : goal.slice_bounds-measure-end
slice_bounds-measure-end c = sym (zeros_fresh _ 4096 c.requires.1).long

pub measure-requires : goal.measure-requires
measure-requires c = (c.requires.0, zeros_fresh _ 4096 c.requires.1)
