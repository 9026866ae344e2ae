use mathlib.Core.Path.{◌∙◌}
use Rattle.lxt_sections.proofs.LayoutLaws.{inside_wide, time_wide, inside_narrow, time_narrow}
use Rattle.lxt_sections.proofs.times.time_at.Goals as goal

pub be64-requires : goal.be64-requires
be64-requires c = search inside_wide

pub returns-then-wide : goal.returns-then-wide
returns-then-wide c = search time_wide

pub be32-requires : goal.be32-requires
be32-requires c = search inside_narrow

pub returns : goal.returns
returns c = time_narrow _ c.if-wide.false _ _ _ _ (c.from.ensures ∙ c.be32.ensures)
