use Rattle.lxt_tables.proofs.AliasLaws.{store_begun, store_next, store_less, store_done}
use Rattle.lxt_tables.proofs.geometry.GeometryTable.put_root.Goals as goal

pub loop-roots-init : goal.loop-roots-init
loop-roots-init c = search store_begun

pub loop-roots-smaller : goal.loop-roots-smaller
loop-roots-smaller c = search store_less

pub loop-roots-preserved : goal.loop-roots-preserved
loop-roots-preserved c = search store_next

pub returns : goal.returns
returns c = search store_done
