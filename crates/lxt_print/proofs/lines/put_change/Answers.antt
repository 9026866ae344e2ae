use Rattle.lxt_print.proofs.LineLaws.{put_more, put_is}
use Rattle.lxt_print.proofs.ValueLaws.{change_text}
use borrow.Author.Rules.{rules}
use Rattle.lxt_print.proofs.lines.put_change.Goals as goal

pub returns : goal.returns
returns c =
    let head = put_more (put_more c.put_bytes-p.ensures c.put_number-q.ensures.0) c.put_number-r.ensures.0 in
    (put_is (change_text _ _ _) (put_more (put_more head c.put_time-s.ensures.0) c.put_bytes.ensures), search rules)
