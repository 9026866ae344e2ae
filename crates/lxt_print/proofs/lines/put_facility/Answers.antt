use Rattle.lxt_print.proofs.LineLaws.{put_more, put_is, facility_text}
use borrow.Author.Rules.{rules}
use Rattle.lxt_print.proofs.lines.put_facility.Goals as goal

pub returns : goal.returns
returns c = (put_is (facility_text _ _) (put_more (put_more (put_more c.put_bytes-p.ensures c.put_number-q.ensures.0) c.put_bytes-r.ensures) c.put_bytes.ensures), search rules)
