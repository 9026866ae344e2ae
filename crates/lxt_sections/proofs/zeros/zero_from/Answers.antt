use Rattle.lxt_sections.proofs.ZeroLaws.{none_passed, none_met, zero_met, one_passed}
use Rattle.lxt_sections.proofs.zeros.zero_from.Goals as goal

pub loop-p-init : goal.loop-p-init
loop-p-init c = search none_passed

pub returns-then-file-p-eq0 : goal.returns-then-file-p-eq0
returns-then-file-p-eq0 c = zero_met _ _ _ _ c.loop-p.invariant c.loop-p-test.true c.if-file-p-eq0.true

pub loop-p-preserved : goal.loop-p-preserved
loop-p-preserved c = search one_passed

pub returns : goal.returns
returns c = none_met _ _ _ _ c.loop-p.invariant c.loop-p-test.false c.loop-p.auto.p-end _ c.max.ensures
