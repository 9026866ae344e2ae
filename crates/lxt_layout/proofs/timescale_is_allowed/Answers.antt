use Rattle.lxt_layout.proofs.LayoutLaws.{scale_allowed}
use Rattle.lxt_layout.proofs.timescale_is_allowed.Goals as goal

pub returns : goal.returns
returns c = scale_allowed c.args.timescale c.ranges.timescale
