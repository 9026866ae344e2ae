use mathlib.Core.Path.{refl}
use native.Mathlib.Omega.{arith}
use borrow.Author.Tests.{lt-ltb, le-ltb}
use Rattle.lxt_pack.proofs.ChangeLaws.{head_put}
use Rattle.lxt_pack.proofs.SizeLaws.{small_most, scaled_small}
use Rattle.lxt_pack.proofs.change.put_head.Goals as goal
use Rattle.lxt_pack.proofs.change.put_head.Goals.{then-k-gt1, else-k-gt1, then-k-gt2, else-k-gt2}

pub scale_of-requires : goal.scale_of-requires
scale_of-requires c =
    let k = c.delta_size-k.ensures in
    (k.1, omega (arith, k.0, small_most _ c.requires.delta_small))

pub overflow_mul-bytes : goal.overflow_mul-bytes
overflow_mul-bytes c = omega (arith, scaled_small _ _ _ c.requires.delta_small c.delta_size-k.ensures.0 c.scale_of.ensures)

pub overflow_cast-out-2 : goal.overflow_cast-out-2
overflow_cast-out-2 c = omega (arith, scaled_small _ _ _ c.requires.delta_small c.delta_size-k.ensures.0 c.scale_of.ensures)

pub returns-clause-out_after : goal.returns-clause-out_after
returns-clause-out_after c =
    let k = c.delta_size-k.ensures.0 in
    let scale = c.scale_of.ensures in
    let put = head_put c.args.out.now c.args.at _ _ _ _ _ _ _ _ c.requires k scale refl refl in
    elim c.if-k-gt1.branch [
      | then-k-gt1 v ↦ elim c.if-k-gt2.branch [
        | then-k-gt2 w ↦ put (rw (lt-ltb 1 _ v.if-k-gt1.true) v.out-is) (rw (lt-ltb 2 _ w.if-k-gt2.true) w.out-is)
        | else-k-gt2 w ↦ put (rw (lt-ltb 1 _ v.if-k-gt1.true) v.out-is) (rw (le-ltb 2 _ w.if-k-gt2.false) w.out-is)
      ]
      | else-k-gt1 v ↦ elim c.if-k-gt2.branch [
        | then-k-gt2 w ↦ put (rw (le-ltb 1 _ v.if-k-gt1.false) v.out-is) (rw (lt-ltb 2 _ w.if-k-gt2.true) w.out-is)
        | else-k-gt2 w ↦ put (rw (le-ltb 1 _ v.if-k-gt1.false) v.out-is) (rw (le-ltb 2 _ w.if-k-gt2.false) w.out-is)
      ]
    ]
