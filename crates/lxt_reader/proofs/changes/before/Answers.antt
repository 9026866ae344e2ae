use mathlib.Core.Path.{◌∙◌}
use native.Mathlib.Omega.{arith}
use Rattle.lxt_format.proofs.AnswerLaws.{says_passed}
use Rattle.lxt_reader.proofs.ChangeWays.{before_refused, change_inside, before_small, before_given}
use Rattle.lxt_reader.proofs.changes.before.Goals as goal

pub returns-in_err-find_change : goal.returns-in_err-find_change
returns-in_err-find_change c = says_passed c.from_residual.result _ c.from_residual.ensures.1 ∙ before_refused _ _ _ _ c.in_err-find_change.ensures.0

pub previous-requires : goal.previous-requires
previous-requires c = change_inside _ _ _ _ c.in_ok-find_change.ensures

pub overflow_cast-result : goal.overflow_cast-result
overflow_cast-result c = omega (arith, before_small _ _ _ _ c.in_ok-find_change.ensures _ c.previous.ensures)

pub returns : goal.returns
returns c = before_given _ _ _ _ c.in_ok-find_change.ensures _ c.previous.ensures
