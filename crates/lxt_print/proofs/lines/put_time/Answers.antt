use Rattle.lxt_print.proofs.LineLaws.{put_more, put_is, negative_text, positive_text}
use borrow.Author.Rules.{rules}
use Rattle.lxt_print.proofs.lines.put_time.Goals as goal

pub returns-then-time-lt-BIAS : goal.returns-then-time-lt-BIAS
returns-then-time-lt-BIAS c = (put_is (negative_text _ c.if-time-lt-BIAS.true) (put_more c.put_bytes-p.ensures c.put_decimal.ensures.0), search rules)

pub returns : goal.returns
returns c = (put_is (positive_text _ c.if-time-lt-BIAS.false) c.put_decimal-2.ensures.0, search rules)
