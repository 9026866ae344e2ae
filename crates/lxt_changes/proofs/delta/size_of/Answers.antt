use Rattle.lxt_changes.proofs.DeltaLaws.{size_is}
use Rattle.lxt_changes.proofs.delta.size_of.Goals as goal

pub returns : goal.returns
returns c = size_is _ _ _ c.from.ensures
