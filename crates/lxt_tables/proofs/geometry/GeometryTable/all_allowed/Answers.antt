use borrow.Author.Rules.{rules}
use borrow.Author.Tests.{not-true, not-false}
use Rattle.lxt_tables.proofs.FacilityLaws.{entries_begun, entries_end, entries_stop, entries_turn}
use Rattle.lxt_tables.proofs.geometry.GeometryTable.all_allowed.Goals as goal

pub loop-f-init : goal.loop-f-init
loop-f-init c = (search rules, search entries_begun)

pub returns-then-not-allowed : goal.returns-then-not-allowed
returns-then-not-allowed c = search (entries_stop, not-true)

pub loop-f-preserved : goal.loop-f-preserved
loop-f-preserved c = (search rules, search (entries_turn, not-false))

pub returns : goal.returns
returns c = search entries_end
