use borrow.Author.Rules.{rules}
use mathlib.Core.Path.{◌∙◌}
use Rattle.lxt_tables.proofs.FacilityLaws.{signed_is, bits_facts_is}
use Rattle.lxt_tables.proofs.geometry.bits_facts.Goals as goal

pub returns : goal.returns
returns c =
    bits_facts_is _ _ _ c.width_between.ensures _ (search rules) (c.cast_signed.ensures ∙ signed_is _)
    _ (search rules) (c.cast_signed-2.ensures ∙ signed_is _)
