use Rattle.lxt_tables.proofs.WholeLaws.{eleven, twelve, thirteen, none_refused}
use Rattle.lxt_tables.proofs.whole.middle.Goals as goal

pub returns-then-not-all_allowed : goal.returns-then-not-all_allowed
returns-then-not-all_allowed c = eleven _ _ (rw c.new-geometry.ensures.same_file at c.all_allowed.ensures) c.if-not-all_allowed.true

pub returns-then-not-aliases_allowed : goal.returns-then-not-aliases_allowed
returns-then-not-aliases_allowed c =
    twelve _ _ (rw c.new-geometry.ensures.same_file at c.all_allowed.ensures) c.if-not-all_allowed.false
    _ (rw c.new-geometry.ensures.same_file at c.aliases_allowed.ensures) c.if-not-aliases_allowed.true

pub returns-then-not-times_allowed : goal.returns-then-not-times_allowed
returns-then-not-times_allowed c =
    thirteen _ _ (rw c.new-geometry.ensures.same_file at c.all_allowed.ensures) c.if-not-all_allowed.false
    _ (rw c.new-geometry.ensures.same_file at c.aliases_allowed.ensures) c.if-not-aliases_allowed.false
    _ c.times_allowed.ensures c.if-not-times_allowed.true

pub returns : goal.returns
returns c =
    none_refused _ _ (rw c.new-geometry.ensures.same_file at c.all_allowed.ensures) c.if-not-all_allowed.false
    _ (rw c.new-geometry.ensures.same_file at c.aliases_allowed.ensures) c.if-not-aliases_allowed.false
    _ c.times_allowed.ensures c.if-not-times_allowed.false
