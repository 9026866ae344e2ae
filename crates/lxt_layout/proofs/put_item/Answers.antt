use Rattle.lxt_layout.proofs.LayoutLaws.{item_put}
use Rattle.lxt_layout.proofs.put_item.Goals as goal

pub returns : goal.returns
returns c = search item_put
