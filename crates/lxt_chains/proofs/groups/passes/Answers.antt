use Rattle.lxt_chains.proofs.PassLaws.{none_other, others_fail, bits_decide}
use mathlib.Core.Path.{refl}
use Rattle.lxt_chains.proofs.groups.passes.Goals as goal

pub returns-then-kinds-eq0 : goal.returns-then-kinds-eq0
returns-then-kinds-eq0 c = bits_decide _ _ _ _ _ (none_other _ _ _ c.if-kinds-eq0.true) refl _ c.bits_pass.ensures

pub returns-then-not-others_pass : goal.returns-then-not-others_pass
returns-then-not-others_pass c = others_fail _ _ _ _ _ c.others_pass.ensures c.if-not-others_pass.true

pub returns : goal.returns
returns c = bits_decide _ _ _ _ _ c.others_pass.ensures c.if-not-others_pass.false _ c.bits_pass-2.ensures
