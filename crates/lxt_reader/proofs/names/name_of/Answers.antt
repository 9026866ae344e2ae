use Rattle.lxt_reader.proofs.NameWays.{part_is, part_length}
use Rattle.lxt_reader.proofs.names.name_of.Goals as goal

pub slice_bounds-result-end : goal.slice_bounds-result-end
slice_bounds-result-end c = let asked = c.length_of.ensures in part_length _ _ _ _ asked.0 _ c.unwrap_or-length.ensures _ asked.1

pub returns : goal.returns
returns c = let asked = c.length_of.ensures in part_is _ _ _ _ asked.0 _ c.unwrap_or-length.ensures _ asked.1
