use native.Mathlib.Omega.{arith}
use Rattle.lxt_pack.proofs.PackLaws.{digits_are, nibble_is}
use Rattle.lxt_pack.proofs.symbols.nibble.Goals as goal

pub overflow_sub-bits : goal.overflow_sub-bits
overflow_sub-bits c =
    let d = digits_are _ _ (λ i. (c.type_inv.values i).fits) c.requires in
    omega (arith, d.0, d.1, d.2, d.3)

pub returns : goal.returns
returns c = nibble_is _ _ (λ i. (c.type_inv.values i).fits) c.requires c.from-5.result (omega arith)
