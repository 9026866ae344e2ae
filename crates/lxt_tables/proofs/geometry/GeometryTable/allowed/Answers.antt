use Rattle.lxt_tables.proofs.FacilityLaws.{entry_is}
use Rattle.lxt_tables.proofs.geometry.GeometryTable.allowed.Goals as goal

pub returns : goal.returns
returns c = search entry_is
