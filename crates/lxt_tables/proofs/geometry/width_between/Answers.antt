use borrow.Author.Rules.{rules}
use mathlib.Core.Path.{◌∙◌}
use Rattle.lxt_tables.proofs.FacilityLaws.{signed_is, width_is}
use Rattle.lxt_tables.proofs.geometry.width_between.Goals as goal

pub returns : goal.returns
returns c =
    width_is _ _ _ (search rules) (c.cast_signed.ensures ∙ signed_is _) _ (search rules) (c.cast_signed-2.ensures ∙ signed_is _)
    _ (c.from.ensures ∙ c.abs_diff-distance.ensures)
