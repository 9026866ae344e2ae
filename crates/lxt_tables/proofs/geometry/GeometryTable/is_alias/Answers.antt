use Rattle.lxt_tables.proofs.FacilityLaws.{alias_is}
use Rattle.lxt_tables.proofs.geometry.GeometryTable.is_alias.Goals as goal

pub returns : goal.returns
returns c = search alias_is
