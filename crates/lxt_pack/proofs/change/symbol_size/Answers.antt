use native.Mathlib.Omega.{arith}
use Rattle.lxt_pack.proofs.SizeLaws.{bits_0, bits_1, bits_2, bits_3}
use Rattle.lxt_pack.proofs.change.symbol_size.Goals as goal

pub returns-in-0 : goal.returns-in-0
returns-in-0 c = search bits_0

pub returns-in-1 : goal.returns-in-1
returns-in-1 c = search bits_1

pub returns-in-2 : goal.returns-in-2
returns-in-2 c = search bits_2

pub returns-in_default : goal.returns-in_default
returns-in_default c = bits_3 _ (λ e. omega arith) (λ e. omega arith) (λ e. omega arith)
