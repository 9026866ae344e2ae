use borrow.Author.Rules.{rules}
use Rattle.lxt_tables.proofs.RootsLaws.{any_begun, any_end, sync_here, sync_later}
use Rattle.lxt_tables.proofs.geometry.GeometryTable.any_sync.Goals as goal

pub loop-f-init : goal.loop-f-init
loop-f-init c = (search rules, search any_begun)

pub returns-then-is_alias-sync_of : goal.returns-then-is_alias-sync_of
returns-then-is_alias-sync_of c = search sync_here

pub loop-f-preserved : goal.loop-f-preserved
loop-f-preserved c = (search rules, search sync_later)

pub returns : goal.returns
returns c = search any_end
