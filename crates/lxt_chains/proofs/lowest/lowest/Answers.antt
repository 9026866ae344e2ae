use native.Mathlib.Omega.{arith}
use Rattle.lxt_chains.proofs.WholeWays.{lowest_begun, lowest_ended}
use Rattle.lxt_chains.proofs.lowest.lowest.Goals as goal

pub loop-b-init : goal.loop-b-init
loop-b-init c = search lowest_begun

pub loop-b-smaller : goal.loop-b-smaller
loop-b-smaller c = let e = c.halved-b.ensures in omega (arith, e.1.1.1, c.loop-b-test.true)

pub loop-b-preserved : goal.loop-b-preserved
loop-b-preserved c = c.halved-b.ensures.0

pub returns : goal.returns
returns c = search lowest_ended
