use native.Mathlib.Omega.{arith}
use Rattle.lxt_layout.proofs.LayoutLaws.{tail_room, tail_put}
use Rattle.lxt_layout.proofs.put_tail.Goals as goal

pub number-requires-clause-room : goal.number-requires-clause-room
number-requires-clause-room c = omega (arith, (tail_room c.args.p c.args.out.now c.args.real _ c.item_count.ensures.0 c.requires.0).0)

pub put_list-requires : goal.put_list-requires
put_list-requires c =
    let room = tail_room c.args.p c.args.out.now c.args.real _ c.item_count.ensures.0 c.requires.0 in
    (omega (arith, room.0, c.number.auto), c.requires.1, c.requires.2)

pub number-requires-2-clause-room : goal.number-requires-2-clause-room
number-requires-2-clause-room c =
    let room = tail_room c.args.p c.args.out.now c.args.real _ c.item_count.ensures.0 c.requires.0 in
    omega (arith, room.1, c.number.auto, c.put_list.auto)

pub returns : goal.returns
returns c =
    tail_put c.args.p c.args.out.now c.args.real _ c.item_count.ensures.0 c.requires.0 _ _ _
    c.number.ensures c.put_list.ensures c.number-2.ensures
