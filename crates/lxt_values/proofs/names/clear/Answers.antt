use Rattle.lxt_values.proofs.CopyLaws.{cleared}
use Rattle.lxt_values.proofs.names.clear.Goals as goal

pub returns : goal.returns
returns c = cleared _ _ _ _ c.requires.1 (c.fill.ensures.after (λ y h. h))
