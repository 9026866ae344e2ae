use mathlib.Core.Path.{◌∙◌}
use borrow.Author.Rules.{rules}
use Rattle.lxt_chains.proofs.ChainLaws.{alias_fault, plain, root_fault}
use Rattle.lxt_chains.proofs.chains.facility_fault.Goals as goal

pub returns-then-is_alias : goal.returns-then-is_alias
returns-then-is_alias c = alias_fault _ _ _ (rw c.geometry.ensures.same_file at c.is_alias.ensures) c.if-is_alias.true

pub fault_from-requires : goal.fault_from-requires
fault_from-requires c = (search rules, (search rules, plain _ _ _ (rw c.geometry.ensures.same_file at c.is_alias.ensures) c.if-is_alias.false))

pub returns : goal.returns
returns c = c.fault_from.ensures ∙ root_fault _ _ _ (rw c.geometry.ensures.same_file at c.is_alias.ensures) c.if-is_alias.false _ c.sync_of-start.ensures
