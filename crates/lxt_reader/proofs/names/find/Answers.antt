use mathlib.Core.Path.{◌∙◌}
use Rattle.lxt_format.proofs.AnswerLaws.{says_passed}
use Rattle.lxt_reader.proofs.NameWays.{name_refused, no_room, head_there, name_found}
use Rattle.lxt_reader.proofs.names.find.Goals as goal

pub returns-in_err-t : goal.returns-in_err-t
returns-in_err-t c = says_passed c.from_residual.result _ c.from_residual.ensures.1 ∙ name_refused _ _ c.args.room _ c.in_err-t.ensures.0

pub returns-then-room-lt-LONGEST : goal.returns-then-room-lt-LONGEST
returns-then-room-lt-LONGEST c = no_room _ _ _ _ c.in_ok-t.ensures c.if-room-lt-LONGEST.true

pub be32-requires : goal.be32-requires
be32-requires c = head_there _ c.args.facility c.args.room _ c.in_ok-t.ensures

pub returns : goal.returns
returns c = name_found _ _ _ _ c.in_ok-t.ensures c.if-room-lt-LONGEST.false _ c.be32.ensures
