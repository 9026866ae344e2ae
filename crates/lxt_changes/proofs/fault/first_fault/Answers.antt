use mathlib.Core.Path.{◌∙◌}
use Rattle.lxt_format.proofs.AnswerLaws.{says_passed}
use Rattle.lxt_changes.proofs.FaultLaws.{at_start, at_end, fault_found, inside, next_left, falls}
use Rattle.lxt_changes.proofs.fault.first_fault.Goals as goal

pub loop-o-init : goal.loop-o-init
loop-o-init c = search at_start

pub returns-in_err-found : goal.returns-in_err-found
returns-in_err-found c =
    says_passed c.from_residual.result _ c.from_residual.ensures.1
    ∙ fault_found _ _ _ _ _ _ _ _ _ c.loop-o.invariant c.loop-o-test.true _ c.in_err-found.ensures.told

pub previous-o-requires : goal.previous-o-requires
previous-o-requires c = inside _ _ _ _ _ _ _ _ _ c.loop-o.invariant c.loop-o-test.true c.in_ok-found.found c.in_ok-found.ensures.told c.requires.within

pub loop-o-smaller : goal.loop-o-smaller
loop-o-smaller c = search falls

pub loop-o-preserved : goal.loop-o-preserved
loop-o-preserved c =
    next_left _ _ _ _ _ _ _ _ _ c.loop-o.invariant c.loop-o-test.true c.in_ok-found.found c.in_ok-found.ensures.told c.in_ok-found.ensures.known _ c.previous-o.ensures

pub returns : goal.returns
returns c = search at_end
