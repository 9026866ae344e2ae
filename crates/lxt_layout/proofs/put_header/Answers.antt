use Rattle.lxt_layout.proofs.LayoutLaws.{header_put}
use Rattle.lxt_layout.proofs.put_header.Goals as goal

pub returns : goal.returns
returns c = search header_put
