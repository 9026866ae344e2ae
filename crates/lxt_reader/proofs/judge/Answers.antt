use mathlib.Core.Path.{◌∙◌}
use native.Mathlib.Omega.{arith}
use Rattle.lxt_format.proofs.AnswerLaws.{says_passed}
use Rattle.lxt_reader.proofs.JudgeWays.{judged_refused, judged_given, end_small}
use Rattle.lxt_reader.proofs.judge.Goals as goal

pub returns-in_err-j : goal.returns-in_err-j
returns-in_err-j c = says_passed c.from_residual.result _ c.from_residual.ensures.1 ∙ judged_refused _ _ c.in_err-j.ensures.0

pub overflow_cast-result : goal.overflow_cast-result
overflow_cast-result c = omega (arith, end_small _ _ c.in_ok-j.ensures)

pub returns : goal.returns
returns c = judged_given _ _ c.in_ok-j.ensures
