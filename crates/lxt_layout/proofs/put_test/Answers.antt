use Rattle.lxt_layout.proofs.LayoutLaws.{test_put}
use Rattle.lxt_layout.proofs.put_test.Goals as goal

pub returns : goal.returns
returns c = search test_put
