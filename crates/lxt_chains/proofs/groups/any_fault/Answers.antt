use mathlib.Core.Path.{sym}
use native.Mathlib.Omega.{arith}
use Rattle.lxt_chains.proofs.GroupLawsStart.{zeros_vacant, zeros_part}
use Rattle.lxt_chains.proofs.groups.any_fault.Goals as goal

pub slice_bounds-any_within-end-2 : goal.slice_bounds-any_within-end-2
slice_bounds-any_within-end-2 c = let pre = c.requires in sym (zeros_part 4096 _ (omega (arith, pre.1.few, pre.0.most)))

pub slice_bounds-any_within-end-3 : goal.slice_bounds-any_within-end-3
slice_bounds-any_within-end-3 c = let pre = c.requires in sym (zeros_part 4096 _ (omega (arith, pre.1.few, pre.0.most)))

pub any_within-requires : goal.any_within-requires
any_within-requires c =
    let pre = c.requires in
    (pre.0, (pre.1, (zeros_vacant, record { widths_long = zeros_part 4096 _ (omega (arith, pre.1.few, pre.0.most)); kinds_long = zeros_part 4096 _ (omega (arith, pre.1.few, pre.0.most)) })))
