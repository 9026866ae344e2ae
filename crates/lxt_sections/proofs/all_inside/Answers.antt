use Rattle.lxt_sections.proofs.PlaceLaws.{parts}
use Rattle.lxt_sections.proofs.all_inside.Goals as goal

pub returns : goal.returns
returns c = search parts
