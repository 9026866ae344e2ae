use Rattle.lxt_print.proofs.FillLaws.{part_is}
use Rattle.lxt_print.proofs.printing.put_part.Goals as goal

pub returns : goal.returns
returns c = part_is _ _ c.min-k.ensures c.put_bytes.ensures
