use borrow.Author.Rules.{rules}
use Rattle.lxt_values.proofs.BiasLaws.{without_bias_is}
use Rattle.lxt_values.proofs.times.without_bias.Goals as goal

pub returns : goal.returns
returns c = without_bias_is _ c.ranges.x.fits _ (search rules) c.cast_signed.ensures
