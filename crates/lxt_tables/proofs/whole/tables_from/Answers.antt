use mathlib.Core.Path.{◌∙◌}
use Rattle.lxt_format.proofs.AnswerLaws.{says_passed}
use Rattle.lxt_tables.proofs.WholeLaws.{given_bad}
use Rattle.lxt_tables.proofs.whole.tables_from.Goals as goal

pub returns-in_err-sections : goal.returns-in_err-sections
returns-in_err-sections c =
    says_passed c.from_residual.result _ c.from_residual.ensures.1
    ∙ given_bad _ c.args.sections c.in_err-sections.field-0.0 c.in_err-sections.was c.requires
