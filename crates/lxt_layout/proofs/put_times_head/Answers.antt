use Rattle.lxt_layout.proofs.LayoutLaws.{three_put}
use Rattle.lxt_layout.proofs.put_times_head.Goals as goal

pub returns : goal.returns
returns c = search three_put
