use Rattle.lxt_pack.proofs.PutLaws.{put_number}
use Rattle.lxt_pack.proofs.put.number.Goals as goal

pub returns : goal.returns
returns g c = put_number g.row.N c.requires.bytes _ c.args.at _ _ _ c.to_be_bytes.ensures c.copy_from_slice.ensures.after
