use native.Mathlib.Omega.{arith}
use Rattle.lxt_changes.proofs.SymbolLaws.{one_bit, two_bits, four_bits, no_bits}
use Rattle.lxt_changes.proofs.symbols.size_of.Goals as goal

pub returns-in-0 : goal.returns-in-0
returns-in-0 c = search one_bit

pub returns-in-1 : goal.returns-in-1
returns-in-1 c = search two_bits

pub returns-in-2 : goal.returns-in-2
returns-in-2 c = search four_bits

pub returns-in_default : goal.returns-in_default
returns-in_default c = no_bits _ (λ e. omega arith) (λ e. omega arith) (λ e. omega arith)
