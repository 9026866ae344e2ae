use native.Mathlib.Omega.{arith}
use Rattle.lxt_pack.proofs.SizeLaws.{real_given, real_none}
use Rattle.lxt_pack.proofs.change.real_size.Goals as goal

pub returns-then-value-eq8 : goal.returns-then-value-eq8
returns-then-value-eq8 c = record { is = search real_given; most = omega arith }

pub returns : goal.returns
returns c = record { is = search real_none; most = tt }
