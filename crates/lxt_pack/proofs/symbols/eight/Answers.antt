use Rattle.lxt_pack.proofs.PackLaws.{eight_is, eight_first, eight_second}
use Rattle.lxt_pack.proofs.symbols.eight.Goals as goal

pub nibble-requires : goal.nibble-requires
nibble-requires c = eight_first _ _ (λ i. (c.type_inv.values i).fits) c.requires

pub nibble-requires-2 : goal.nibble-requires-2
nibble-requires-2 c = eight_second _ _ (λ i. (c.type_inv.values i).fits) c.requires

pub returns : goal.returns
returns c = eight_is _ _ (λ i. (c.type_inv.values i).fits) c.requires _ _ c.nibble.ensures.0 c.nibble-2.ensures.0
