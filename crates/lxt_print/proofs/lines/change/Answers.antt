use Rattle.lxt_print.proofs.LineLaws.{put_more, line_ended}
use Rattle.lxt_print.proofs.ValueLaws.{change_line_lem}
use borrow.Author.Rules.{rules}
use Rattle.lxt_print.proofs.lines.change.Goals as goal

pub put_value-q-requires : goal.put_value-q-requires
put_value-q-requires c = (c.requires.0, (c.requires.1.0, (c.requires.1.1.0, search rules)))

pub returns : goal.returns
returns c =
    let line = put_more (put_more c.put_change-p.ensures.0 c.put_value-q.ensures.0) c.put_bytes.ensures in
    line_ended (change_line_lem _ _ c.requires.0 _ _ _ c.requires.1.1.1.0) line
