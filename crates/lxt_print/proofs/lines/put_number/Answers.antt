use Rattle.lxt_print.proofs.LineLaws.{put_more}
use borrow.Author.Rules.{rules}
use Rattle.lxt_print.proofs.lines.put_number.Goals as goal

pub returns : goal.returns
returns c = (put_more (rw c.from.ensures at c.put_decimal-p.ensures.0) c.put_bytes.ensures, search rules)
