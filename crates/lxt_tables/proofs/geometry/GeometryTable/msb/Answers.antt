use Rattle.lxt_tables.proofs.FacilityLaws.{msb_is}
use Rattle.lxt_tables.proofs.geometry.GeometryTable.msb.Goals as goal

pub returns : goal.returns
returns c = search msb_is
