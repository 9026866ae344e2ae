use borrow.Author.Rules.{rules}
use Rattle.lxt_tables.proofs.AliasLaws.{none_begun, none_end, none_stop, none_turn}
use Rattle.lxt_tables.proofs.geometry.GeometryTable.none_is_alias.Goals as goal

pub loop-f-init : goal.loop-f-init
loop-f-init c = (search rules, search none_begun)

pub returns-then-is_alias : goal.returns-then-is_alias
returns-then-is_alias c = none_stop _ _ _ c.loop-f.invariant.1 c.loop-f-test.true _ c.is_alias.ensures c.if-is_alias.true

pub loop-f-preserved : goal.loop-f-preserved
loop-f-preserved c = (search rules, search none_turn)

pub returns : goal.returns
returns c = none_end _ _ _ c.loop-f.invariant.1 c.loop-f-test.false
