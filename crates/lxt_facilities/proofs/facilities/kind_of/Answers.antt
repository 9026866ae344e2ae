use native.Mathlib.Omega.{arith}
use Rattle.lxt_facilities.proofs.FacilityLaws.{code_integer, code_real, code_text, code_bits}
use Rattle.lxt_facilities.proofs.facilities.kind_of.Goals as goal

pub returns-in-1 : goal.returns-in-1
returns-in-1 c = search code_integer

pub returns-in-2 : goal.returns-in-2
returns-in-2 c = search code_real

pub returns-in-3 : goal.returns-in-3
returns-in-3 c = search code_text

pub returns-in_default : goal.returns-in_default
returns-in_default c = code_bits _ (λ e. omega arith) (λ e. omega arith) (λ e. omega arith)
