use Rattle.lxt_chains.proofs.WholeWays.{end_within, ready}
use Rattle.lxt_chains.proofs.whole.chains_of.Goals as goal

pub last_zero-requires : goal.last_zero-requires
last_zero-requires c = end_within _ _ c.requires

pub returns : goal.returns
returns c = ready _ _ c.requires _ c.last_zero.ensures
