use Rattle.lxt_tables.proofs.FacilityLaws.{lsb_is}
use Rattle.lxt_tables.proofs.geometry.GeometryTable.lsb.Goals as goal

pub returns : goal.returns
returns c = search lsb_is
