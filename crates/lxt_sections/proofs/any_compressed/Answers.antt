use borrow.Author.Rules.{rules}
use lib.Dec.{eqb}
use mathlib.Core.Path.{◌∙◌}
use mathlib.Core.Bool.{not}
use Rattle.lxt_sections.proofs.PlaceLaws.{any_part}
use Rattle.lxt_sections.proofs.any_compressed.Goals as goal

pub returns : goal.returns
returns c = c.any_counts.ensures ∙ any_part (λ x. not (eqb x 0)) c.args.t 9 10 (search rules)
