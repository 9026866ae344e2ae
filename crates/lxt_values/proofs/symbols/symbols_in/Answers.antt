use native.Mathlib.Omega.{arith}
use Rattle.lxt_format.specs.UnpackLaws.{size_else}
use Rattle.lxt_values.proofs.symbols.symbols_in.Goals as goal

pub returns-in-1 : goal.returns-in-1
returns-in-1 c = rw c.in-1.is c.eight_of.ensures

pub returns-in-2 : goal.returns-in-2
returns-in-2 c = rw c.in-2.is c.four_of.ensures

pub returns-in_default : goal.returns-in_default
returns-in_default c = rw (size_else _ c.requires (λ e. omega arith) (λ e. omega arith)) c.two_of.ensures
