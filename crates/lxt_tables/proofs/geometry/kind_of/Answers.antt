use native.Mathlib.Omega.{arith}
use Rattle.lxt_tables.proofs.FacilityLaws.{integer_is, real_is, text_is, bits_is}
use Rattle.lxt_tables.proofs.geometry.kind_of.Goals as goal

pub returns-in-1 : goal.returns-in-1
returns-in-1 c = search integer_is

pub returns-in-2 : goal.returns-in-2
returns-in-2 c = search real_is

pub returns-in-4 : goal.returns-in-4
returns-in-4 c = search text_is

pub returns-in_default : goal.returns-in_default
returns-in_default c = bits_is _ (λ e. omega arith) (λ e. omega arith) (λ e. omega arith)
