use Rattle.lxt_tables.proofs.AliasLaws.{own_roots, none_known}
use Rattle.lxt_tables.proofs.geometry.GeometryTable.aliases_allowed.Goals as goal

pub returns-then-none_is_alias : goal.returns-then-none_is_alias
returns-then-none_is_alias c = search own_roots

pub put_roots-requires : goal.put_roots-requires
put_roots-requires c = search none_known
