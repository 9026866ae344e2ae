use borrow.Author.Rules.{rules}
use lib.Dec.{ltb}
use mathlib.Core.Path.{◌∙◌}
use Rattle.lxt_tables.proofs.RealsLaws.{all_from}
use Rattle.lxt_tables.proofs.reals.is_reordering.Goals as goal

pub returns : goal.returns
returns c = c.all_below_8.ensures ∙ all_from (λ x. ltb x 8) c.args.order 8 0 (search rules)
