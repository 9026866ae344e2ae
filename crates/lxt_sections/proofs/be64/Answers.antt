use Rattle.lxt_sections.proofs.LayoutLaws.{eight}
use Rattle.lxt_sections.proofs.be64.Goals as goal

pub returns : goal.returns
returns c = eight _ _ _ c.from_be_bytes.ensures
