use Rattle.lxt_tables.proofs.FacilityLaws.{sync_is}
use Rattle.lxt_tables.proofs.geometry.sync_of.Goals as goal

pub returns : goal.returns
returns c = search sync_is
