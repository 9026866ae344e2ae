use native.Mathlib.Omega.{arith}
use Rattle.lxt_pack.proofs.SizeLaws.{change_refused, change_given}
use Rattle.lxt_pack.proofs.change.size_of.Goals as goal

pub returns-in_err-size : goal.returns-in_err-size
returns-in_err-size c = rw c.from_residual.ensures (change_refused _ _ _ _ c.in_err-size.ensures.is, tt)

pub returns : goal.returns
returns c =
    let size = c.in_ok-size.ensures in
    let k = c.delta_size.ensures in
    (change_given _ _ _ _ _ _ size.is k.0, omega (arith, size.most, k.2))
