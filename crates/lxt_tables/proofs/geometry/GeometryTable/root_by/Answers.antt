use mathlib.Core.Path.{refl}
use borrow.Author.Tests.{not-false}
use native.Mathlib.Omega.{arith}
use Rattle.lxt_tables.proofs.AliasLaws.{way_begun, way_over, way_out, way_root, way_next, way_known, way_alias}
use Rattle.lxt_tables.proofs.geometry.GeometryTable.root_by.Goals as goal

pub loop-i-init : goal.loop-i-init
loop-i-init c = (search way_begun, refl)

pub returns-then-n-at : goal.returns-then-n-at
returns-then-n-at c = way_out _ _ _ c.args.self.there _ _ _ c.loop-i.invariant.0 (omega arith) c.if-n-at.true

pub returns-then-known-n : goal.returns-then-known-n
returns-then-known-n c = search way_known

pub returns-then-not-is_alias : goal.returns-then-not-is_alias
returns-then-not-is_alias c =
    way_root _ _ _ c.args.self.there _ _ _ c.loop-i.invariant.0 (omega arith) c.if-n-at.false _
    c.is_alias.ensures c.if-not-is_alias.true

pub loop-i-preserved : goal.loop-i-preserved
loop-i-preserved c = (way_next _ _ _ c.args.self.there _ _ _ c.loop-i.invariant.0 (omega arith) c.if-n-at.false _ c.is_alias.ensures c.if-not-is_alias.false _ c.rows-at.ensures _ (omega arith), search (way_alias, not-false))

pub returns : goal.returns
returns c = way_over _ _ _ c.args.self.there _ _ _ c.loop-i.invariant.0 (omega arith)
