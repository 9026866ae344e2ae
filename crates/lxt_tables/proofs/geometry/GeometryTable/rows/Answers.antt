use Rattle.lxt_tables.proofs.FacilityLaws.{rows_is}
use Rattle.lxt_tables.proofs.geometry.GeometryTable.rows.Goals as goal

pub returns : goal.returns
returns c = search rows_is
