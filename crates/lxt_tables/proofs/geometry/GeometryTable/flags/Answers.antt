use Rattle.lxt_tables.proofs.FacilityLaws.{flags_is}
use Rattle.lxt_tables.proofs.geometry.GeometryTable.flags.Goals as goal

pub returns : goal.returns
returns c = search flags_is
