use Rattle.lxt_sections.proofs.FrameLaws.{starts}
use Rattle.lxt_sections.proofs.starts_right.Goals as goal

pub returns : goal.returns
returns c = search starts
