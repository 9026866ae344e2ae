use Rattle.lxt_values.proofs.SymbolLaws.{filled}
use Rattle.lxt_values.proofs.symbols.fill.Goals as goal

pub returns : goal.returns
returns c = filled _ _ _ c.requires _ (c.fill.ensures.after (λ y h. h))
