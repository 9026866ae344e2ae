use Rattle.lxt_pack.proofs.PackLaws.{four_is}
use Rattle.lxt_pack.proofs.symbols.four.Goals as goal

pub returns : goal.returns
returns c =
    let bytes = c.type_inv.values in
    let first = c.code_of_four.ensures.0 in
    let second = c.code_of_four-2.ensures.0 in
    let third = c.code_of_four-3.ensures.0 in
    four_is _ _ (λ i. (bytes i).fits) c.requires _ _ _ _ first second third c.code_of_four-4.ensures.0
