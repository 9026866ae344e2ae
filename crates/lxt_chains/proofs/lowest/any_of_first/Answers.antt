use native.Mathlib.Omega.{arith}
use mathlib.Core.Path.{sym}
use Rattle.lxt_chains.proofs.WindowLaws.{zeros_taken}
use Rattle.lxt_chains.proofs.lowest.any_of_first.Goals as goal

pub slice_bounds-any_within-end : goal.slice_bounds-any_within-end
slice_bounds-any_within-end c = let pre = c.requires in sym (zeros_taken 4096 _ (omega (arith, pre.1, pre.0.most)))

pub any_within-requires : goal.any_within-requires
any_within-requires c = let pre = c.requires in (pre.0, rw (zeros_taken 4096 c.args.k (omega (arith, pre.1, pre.0.most))) pre.1)

pub returns : goal.returns
returns c = let pre = c.requires in rw (zeros_taken 4096 c.args.k (omega (arith, pre.1, pre.0.most))) at c.any_within.ensures
