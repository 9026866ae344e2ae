use Rattle.lxt_layout.proofs.LayoutLaws.{two_put}
use Rattle.lxt_layout.proofs.put_names_head.Goals as goal

pub returns : goal.returns
returns c = search two_put
