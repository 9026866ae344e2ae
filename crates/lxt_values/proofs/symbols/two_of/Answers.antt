use mathlib.Core.Path.{◌∙◌}
use Rattle.lxt_values.proofs.ByteLaws.{two_is}
use Rattle.lxt_values.proofs.symbols.two_of.Goals as goal

pub returns : goal.returns
returns c = two_is c.args.byte _ _ c.ranges.byte.fits (c.from.ensures ∙ c.symbol_of.ensures) (c.from-2.ensures ∙ c.symbol_of-2.ensures)
