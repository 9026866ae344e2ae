use mathlib.Core.Path.{◌∙◌}
use Rattle.lxt_changes.proofs.DeltaLaws.{number_fits, before}
use borrow.Author.Rules.{rules}
use Rattle.lxt_changes.proofs.delta.previous.Goals as goal

pub number-delta-requires : goal.number-delta-requires
number-delta-requires c = (search rules, search number_fits)

pub returns : goal.returns
returns c = c.saturating_sub.ensures ∙ before _ _ _ _ c.size_of-size.ensures.0 c.number-delta.ensures
