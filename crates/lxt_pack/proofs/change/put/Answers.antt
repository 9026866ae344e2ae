use Rattle.lxt_pack.proofs.ChangeLaws.{by_kind_sound, by_kind_put}
use Rattle.lxt_pack.proofs.change.put.Goals as goal

pub put_bits-requires : goal.put_bits-requires
put_bits-requires c = by_kind_sound _ _ _ _ _ c.in-Bits.is c.requires

pub returns-in-Bits : goal.returns-in-Bits
returns-in-Bits c = by_kind_put _ _ _ _ _ c.in-Bits.is c.requires _ _ c.put_bits.ensures
