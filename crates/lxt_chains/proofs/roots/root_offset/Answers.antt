use Rattle.lxt_chains.proofs.RootLaws.{alias_offset, sync_offset}
use Rattle.lxt_chains.proofs.roots.root_offset.Goals as goal

pub returns-then-is_alias : goal.returns-then-is_alias
returns-then-is_alias c = alias_offset _ _ _ (rw c.geometry.ensures.same_file at c.is_alias.ensures) c.if-is_alias.true

pub returns : goal.returns
returns c = sync_offset _ _ _ (rw c.geometry.ensures.same_file at c.is_alias.ensures) c.if-is_alias.false _ c.sync_of.ensures
