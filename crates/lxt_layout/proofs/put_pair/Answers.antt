use Rattle.lxt_layout.proofs.LayoutLaws.{pair_put}
use Rattle.lxt_layout.proofs.put_pair.Goals as goal

pub returns : goal.returns
returns c = pair_put c.args.timescale c.ranges.timescale c.args.out.now c.args.at _ c.args.initial c.requires c.cast_unsigned.ensures
