use Rattle.lxt_facilities.proofs.GeometryLaws.{row_put}
use Rattle.lxt_facilities.proofs.geometry.put_row.Goals as goal

pub returns : goal.returns
returns c =
    row_put _ _ _ c.requires c.kind_of-kind.ensures
    c.msb_of.ensures c.lsb_of.ensures c.flags_of.ensures
    c.number.ensures c.number-2.ensures c.number-3.ensures c.number-4.ensures
