use mathlib.Core.Path.{◌∙◌}
use Rattle.lxt_format.proofs.AnswerLaws.{says_passed}
use Rattle.lxt_walk.proofs.StartLaws.{start_refused, start_no_room, start_room, start_other_length, start_asks, start_done}
use Rattle.lxt_walk.proofs.start.start.Goals as goal

pub returns-in_err-t : goal.returns-in_err-t
returns-in_err-t c =
    rw (says_passed c.from_residual.result _ c.from_residual.ensures.1)
    (start_refused _ c.args.asked.now c.args.numbers.now c.args.offsets.now _ c.in_err-t.ensures.0)

pub returns-then-numbers-n : goal.returns-then-numbers-n
returns-then-numbers-n c = start_no_room _ _ _ _ _ c.in_ok-t.ensures c.if-numbers-n.true

pub returns-then-asked-n : goal.returns-then-asked-n
returns-then-asked-n c = start_other_length _ _ _ _ _ c.in_ok-t.ensures c.if-numbers-n.false c.if-asked-n.true

pub put_numbers-requires : goal.put_numbers-requires
put_numbers-requires c = start_room _ c.args.asked.now c.args.numbers.now c.args.offsets.now _ c.in_ok-t.ensures c.if-numbers-n.false

pub put_asked-requires : goal.put_asked-requires
put_asked-requires c = start_asks _ _ c.args.numbers.now c.args.offsets.now _ c.in_ok-t.ensures c.if-numbers-n.false c.if-asked-n.false _ _ c.put_numbers.ensures.0 c.put_numbers.ensures.1

pub returns : goal.returns
returns c = start_done _ _ c.args.numbers.now c.args.offsets.now _ c.in_ok-t.ensures c.if-numbers-n.false c.if-asked-n.false _ _ c.put_numbers.ensures.0 c.put_numbers.ensures.1 _ c.put_asked.ensures
