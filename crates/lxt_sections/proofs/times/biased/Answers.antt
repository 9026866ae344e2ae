use Rattle.lxt_sections.proofs.LayoutLaws.{biased_is}
use Rattle.lxt_sections.proofs.times.biased.Goals as goal

pub returns : goal.returns
returns c = biased_is _ c.ranges.bytes.fits
