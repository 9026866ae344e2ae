use mathlib.Core.Path.{◌∙◌}
use Rattle.lxt_format.proofs.AnswerLaws.{says_passed}
use Rattle.lxt_format.specs.Geometry.{root_of}
use Rattle.lxt_format.specs.Questions.{root_asked}
use Rattle.lxt_reader.proofs.AskWays.{asked_refused, root_given}
use Rattle.lxt_reader.proofs.facilities.root_of.Goals as goal

pub returns-in_err-a : goal.returns-in_err-a
unfolding root_asked
returns-in_err-a c = says_passed c.from_residual.result _ c.from_residual.ensures.1 ∙ asked_refused _ _ (root_of c.args.file.now c.args.facility) _ c.in_err-a.ensures.0

pub returns : goal.returns
returns c = root_given _ _ _ c.in_ok-a.ensures
