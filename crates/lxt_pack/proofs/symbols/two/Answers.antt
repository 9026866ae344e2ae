use Rattle.lxt_pack.proofs.PackLaws.{two_is}
use Rattle.lxt_pack.proofs.symbols.two.Goals as goal

pub returns : goal.returns
returns c =
    let bytes = c.type_inv.values in
    two_is _ _ (λ i. (bytes i).fits) c.requires _ _ c.code_of.ensures.0 c.code_of-2.ensures.0
