use Rattle.lxt_tables.proofs.AliasLaws.{stands_alias, stands_plain}
use Rattle.lxt_tables.proofs.geometry.GeometryTable.stands_for.Goals as goal

pub returns-then-is_alias : goal.returns-then-is_alias
returns-then-is_alias c = search stands_alias

pub returns : goal.returns
returns c = search stands_plain
