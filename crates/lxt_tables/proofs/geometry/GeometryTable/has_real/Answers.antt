use borrow.Author.Rules.{rules}
use Rattle.lxt_tables.proofs.RealsLaws.{real_begun, real_end, real_here, real_later}
use Rattle.lxt_tables.proofs.geometry.GeometryTable.has_real.Goals as goal

pub loop-f-init : goal.loop-f-init
loop-f-init c = (search rules, search real_begun)

pub returns-then-flags-eq2 : goal.returns-then-flags-eq2
returns-then-flags-eq2 c = search real_here

pub loop-f-preserved : goal.loop-f-preserved
loop-f-preserved c = (search rules, search real_later)

pub returns : goal.returns
returns c = search real_end
