use mathlib.Core.Path.{◌∙◌}
use Rattle.lxt_tables.proofs.WholeLaws.{names_are}
use Rattle.lxt_tables.proofs.names.name_table_end.Goals as goal

pub returns-in_err-end : goal.returns-in_err-end
returns-in_err-end c = c.from_residual.ensures ∙ c.in_err-end.ensures.value ∙ names_are _ _ c.requires _ c.be32-memory.ensures

pub returns : goal.returns
returns c = c.in_ok-end.ensures.value ∙ names_are _ _ c.requires _ c.be32-memory.ensures
