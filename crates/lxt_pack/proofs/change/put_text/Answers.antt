use native.Mathlib.Omega.{arith}
use mathlib.Core.Path.{refl}
use Rattle.lxt_pack.proofs.ChangeLaws.{text_head, text_room, text_copy, text_put}
use Rattle.lxt_pack.proofs.change.put_text.Goals as goal

pub put_head-data-requires : goal.put_head-data-requires
put_head-data-requires c = text_head _ _ _ _ c.requires

pub copy-requires : goal.copy-requires
copy-requires c = text_copy _ _ _ _ c.requires _ _ c.put_head-data.ensures.value c.put_head-data.ensures.out_after

pub overflow_add-data : goal.overflow_add-data
overflow_add-data c = omega (arith, text_room _ _ _ _ c.requires _ c.put_head-data.ensures.value)

pub number-requires-clause-room : goal.number-requires-clause-room
number-requires-clause-room c = omega (arith, text_room _ _ _ _ c.requires _ c.put_head-data.ensures.value)

pub overflow_add-result : goal.overflow_add-result
overflow_add-result c = omega (arith, text_room _ _ _ _ c.requires _ c.put_head-data.ensures.value)

pub overflow_add-result-2 : goal.overflow_add-result-2
overflow_add-result-2 c = omega (arith, text_room _ _ _ _ c.requires _ c.put_head-data.ensures.value)

pub returns : goal.returns
returns c =
    let head = c.put_head-data.ensures in
    let text = c.copy.ensures in
    text_put _ _ _ _ c.requires _ _ _ _ _ head.out_after head.value text c.number.ensures refl
