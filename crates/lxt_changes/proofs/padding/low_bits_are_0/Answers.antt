use Rattle.lxt_changes.proofs.PaddingLaws.{low_bits}
use Rattle.lxt_changes.proofs.padding.low_bits_are_0.Goals as goal

pub returns : goal.returns
returns c = low_bits _ _ c.requires c.ranges.byte.fits
