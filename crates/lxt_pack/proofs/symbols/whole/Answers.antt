use native.Mathlib.Omega.{arith}
use Rattle.lxt_format.specs.UnpackLaws.{size_else}
use Rattle.lxt_pack.proofs.symbols.whole.Goals as goal

pub returns-in_default : goal.returns-in_default
returns-in_default g c =
    let four = size_else _ c.requires.0 (λ e. omega arith) (λ e. omega arith) in
    rw four c.two.ensures
