use native.Mathlib.Omega.{arith}
use mathlib.Core.Path.{sym, ◌∙◌}
use Rattle.lxt_pack.proofs.change.size_of_one.Goals as goal

pub returns-then-is_symbol : goal.returns-then-is_symbol
returns-then-is_symbol c = (rw (sym c.is_symbol.ensures ∙ c.if-is_symbol.true), omega arith)

pub returns : goal.returns
returns c = (rw (sym c.is_symbol.ensures ∙ c.if-is_symbol.false), tt)
