use Rattle.lxt_pack.proofs.PackLaws.{digit_is, digit_none}
use Rattle.lxt_pack.proofs.symbols.digit.Goals as goal

pub returns-then-k-value : goal.returns-then-k-value
returns-then-k-value c = digit_is _ _ _ c.requires c.if-k-value.true c.code_of.ensures.0

pub returns : goal.returns
returns c = search digit_none
