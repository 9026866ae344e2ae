use Rattle.std.proofs.Common.{ap, ◌∙◌, not}
use Rattle.lxt_pack.proofs.PartLaws.{none_zero}
use Rattle.lxt_pack.proofs.parts.no_zero.Goals as goal

pub returns : goal.returns
returns c = ap not c.contains.ensures.value ∙ none_zero _
