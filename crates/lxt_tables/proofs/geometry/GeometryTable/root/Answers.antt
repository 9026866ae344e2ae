use Rattle.lxt_tables.proofs.AliasLaws.{none_right}
use Rattle.lxt_tables.proofs.geometry.GeometryTable.root.Goals as goal

pub root_by-requires : goal.root_by-requires
root_by-requires c = none_right _ _ _ c.args.self.there
