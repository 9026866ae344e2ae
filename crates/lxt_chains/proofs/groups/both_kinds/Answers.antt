use Rattle.lxt_chains.proofs.GroupLaws.{both_kinds_are}
use Rattle.lxt_chains.proofs.groups.both_kinds.Goals as goal

pub returns : goal.returns
returns c = both_kinds_are _ _ _ _ _ c.max-integers.ensures c.max-reals.ensures c.max-texts.ensures
