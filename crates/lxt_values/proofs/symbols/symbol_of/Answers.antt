use native.Mathlib.Omega.{arith}
use Rattle.lxt_values.proofs.ByteLaws.{symbol_is, no_symbol}
use Rattle.lxt_values.proofs.symbols.symbol_of.Goals as goal

pub returns-then-code-gt8 : goal.returns-then-code-gt8
returns-then-code-gt8 c = search no_symbol

pub returns : goal.returns
returns c = symbol_is _ (omega arith)
