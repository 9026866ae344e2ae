use native.Mathlib.Omega.{arith}
use Rattle.lxt_pack.proofs.SizeLaws.{scales_1, scales_2, scales_3}
use Rattle.lxt_pack.proofs.change.scale_of.Goals as goal

pub returns-in-1 : goal.returns-in-1
returns-in-1 c = search scales_1

pub returns-in-2 : goal.returns-in-2
returns-in-2 c = search scales_2

pub returns-in_default : goal.returns-in_default
returns-in_default c = scales_3 _ c.requires.0 c.requires.1 (λ e. omega arith) (λ e. omega arith)
