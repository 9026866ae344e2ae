use mathlib.Core.Path.{◌∙◌}
use Rattle.lxt_format.proofs.AnswerLaws.{says_passed}
use Rattle.lxt_chains.proofs.WholeWays.{swept_breaks, swept_passes, swept_refused, swept_never}
use Rattle.lxt_chains.proofs.whole.chains_outcome.Goals as goal

pub chains_of-c-requires : goal.chains_of-c-requires
chains_of-c-requires c = c.requires.0

pub refused-requires : goal.refused-requires
refused-requires c = (c.chains_of-c.ensures, swept_breaks _ _ c.in_default.ensures)

pub returns-in_err-clean : goal.returns-in_err-clean
returns-in_err-clean c =
    says_passed c.from_residual.result _ c.from_residual.ensures.1
    ∙ swept_refused _ _ c.in_default.ensures _ c.in_err-clean.ensures

pub returns-in_default : goal.returns-in_default
returns-in_default c = swept_never _ _ c.in_default.ensures _ c.in_ok-clean.ensures

pub returns : goal.returns
returns c = swept_passes _ _ _ c.in-Some.ensures
