use Rattle.lxt_changes.proofs.KeepLaws.{symbols_upto}
use Rattle.lxt_changes.proofs.keep.symbols_end.Goals as goal

pub returns : goal.returns
returns c = symbols_upto _ _ _ _ _ _ c.data_at.ensures.0 c.size_of.ensures.0 c.packed_size.ensures.0
