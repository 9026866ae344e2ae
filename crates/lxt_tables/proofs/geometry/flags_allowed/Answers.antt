use native.Mathlib.Omega.{arith}
use Rattle.lxt_tables.proofs.FacilityLaws.{flags_low, flags_4, flags_other}
use Rattle.lxt_tables.proofs.geometry.flags_allowed.Goals as goal

pub returns-in_default : goal.returns-in_default
returns-in_default c = flags_other _ (λ e. omega arith) (λ e. omega arith) (λ e. omega arith) (λ e. omega arith)

pub returns-in-0 : goal.returns-in-0
returns-in-0 c = search flags_4

pub returns-in-0-2 : goal.returns-in-0-2
returns-in-0-2 c = flags_low _ (omega arith)
