use mathlib.Core.Path.{◌∙◌}
use Rattle.lxt_format.proofs.AnswerLaws.{says_passed}
use Rattle.lxt_print.proofs.BeginLaws.{too_long, judged_refused, judged_given}
use Rattle.lxt_print.proofs.printing.printable.Goals as goal

pub returns-then-file-gt-LONGEST_PRINTED : goal.returns-then-file-gt-LONGEST_PRINTED
returns-then-file-gt-LONGEST_PRINTED c = too_long _ c.if-file-gt-LONGEST_PRINTED.true

pub returns-in_err-examined : goal.returns-in_err-examined
returns-in_err-examined c = says_passed c.from_residual.result _ c.from_residual.ensures.1 ∙ judged_refused _ c.if-file-gt-LONGEST_PRINTED.false _ c.in_err-examined.ensures.0

pub returns : goal.returns
returns c = judged_given _ c.if-file-gt-LONGEST_PRINTED.false _ c.in_ok-examined.ensures
