use mathlib.Core.Path.{refl}
use Rattle.lxt_format.specs.Sections.{ends_right}
use Rattle.lxt_sections.proofs.ends_right.Goals as goal

pub returns : goal.returns
unfolding ends_right
returns c = refl
