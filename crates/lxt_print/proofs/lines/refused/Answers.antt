use Rattle.lxt_print.proofs.LineLaws.{put_more, line_ended, refused_text}
use Rattle.lxt_print.proofs.lines.refused.Goals as goal

pub returns : goal.returns
returns c = line_ended (refused_text _) (put_more (put_more c.put_bytes-p.ensures (rw c.from.ensures at c.put_decimal-q.ensures.0)) c.put_bytes.ensures)
