use Rattle.lxt_pack.proofs.ChangeLaws.{real_room}
use native.Mathlib.Omega.{arith}
use mathlib.Core.Path.{refl}
use Rattle.lxt_pack.proofs.ChangeLaws.{real_head, real_copy, real_put}
use Rattle.lxt_pack.proofs.change.put_real.Goals as goal

pub put_head-data-requires : goal.put_head-data-requires
put_head-data-requires c = real_head _ _ _ _ c.requires

pub copy-requires : goal.copy-requires
copy-requires c = real_copy _ _ _ _ c.requires _ _ c.put_head-data.ensures.value c.put_head-data.ensures.out_after

pub overflow_add-result : goal.overflow_add-result
overflow_add-result c = omega (arith, real_room _ _ _ _ c.requires _ c.put_head-data.ensures.value)

pub returns : goal.returns
returns c =
    let head = c.put_head-data.ensures in
    real_put _ _ _ _ c.requires _ _ _ _ head.out_after head.value c.copy.ensures refl
