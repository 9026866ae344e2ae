use native.Mathlib.Omega.{arith}
use Rattle.lxt_changes.proofs.DeltaLaws.{one, two, three, four}
use Rattle.lxt_changes.proofs.delta.number.Goals as goal

pub returns-in-1 : goal.returns-in-1
returns-in-1 c = one _ _ _ c.in-1.is _ c.from.ensures

pub returns-in-2 : goal.returns-in-2
returns-in-2 c = search two

pub returns-in-3 : goal.returns-in-3
returns-in-3 c = three _ _ _ c.in-3.is _ _ c.be16-in-3.ensures.0 c.from-in-3.ensures

pub returns-in_default : goal.returns-in_default
returns-in_default c = four _ _ _ (omega arith) _ c.be32.ensures
