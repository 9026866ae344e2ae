use Rattle.lxt_values.proofs.BiasLaws.{with_bias_is}
use Rattle.lxt_values.proofs.times.with_bias.Goals as goal

pub returns : goal.returns
returns c = with_bias_is _ c.ranges.t _ c.cast_unsigned.ensures
