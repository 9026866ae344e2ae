use Rattle.lxt_pack.proofs.SizeLaws.{few_sum}
use Rattle.lxt_pack.proofs.change.delta_size.Goals as goal

pub returns : goal.returns
returns c = few_sum _ _ _ _ c.from.ensures c.from-2.ensures c.from-3.ensures
