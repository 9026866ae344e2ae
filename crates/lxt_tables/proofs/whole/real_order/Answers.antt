use Rattle.lxt_tables.proofs.WholeLaws.{no_real, test_outside, test_readable, test_wrong, test_right}
use Rattle.lxt_tables.proofs.whole.real_order.Goals as goal

pub returns-then-not-has_real : goal.returns-then-not-has_real
returns-then-not-has_real c = no_real _ _ c.requires _ (rw c.new-geometry.ensures.same_file at c.has_real.ensures) c.if-not-has_real.true

pub returns-then-not-lies : goal.returns-then-not-lies
returns-then-not-lies c =
    test_outside _ _ c.requires _ (rw c.new-geometry.ensures.same_file at c.has_real.ensures) c.if-not-has_real.false _
    c.lies.ensures c.if-not-lies.true

pub byte_order-order-requires : goal.byte_order-order-requires
byte_order-order-requires c =
    test_readable _ _ c.requires _ (rw c.new-geometry.ensures.same_file at c.has_real.ensures) c.if-not-has_real.false _
    c.lies.ensures c.if-not-lies.false

pub returns-then-not-is_reordering : goal.returns-then-not-is_reordering
returns-then-not-is_reordering c =
    test_wrong _ _ c.requires _ (rw c.new-geometry.ensures.same_file at c.has_real.ensures) c.if-not-has_real.false _
    c.lies.ensures c.if-not-lies.false _ c.byte_order-order.ensures _ c.is_reordering.ensures c.if-not-is_reordering.true

pub returns : goal.returns
returns c =
    test_right _ _ c.requires _ (rw c.new-geometry.ensures.same_file at c.has_real.ensures) c.if-not-has_real.false _
    c.lies.ensures c.if-not-lies.false _ c.byte_order-order.ensures _ c.is_reordering.ensures c.if-not-is_reordering.false
