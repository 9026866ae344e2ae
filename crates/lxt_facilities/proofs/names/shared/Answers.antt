use Rattle.lxt_facilities.proofs.NameLaws.{compare_begun, compare_turn, compare_stop, compare_all}
use Rattle.lxt_facilities.proofs.names.shared.Goals as goal

pub loop-k-init : goal.loop-k-init
loop-k-init c = search compare_begun

pub returns-then-names-before : goal.returns-then-names-before
returns-then-names-before c = compare_stop c.loop-k.invariant c.loop-k-test.true c.if-names-before.true

pub loop-k-preserved : goal.loop-k-preserved
loop-k-preserved c = search compare_turn

pub returns : goal.returns
returns c = compare_all c.loop-k.invariant c.loop-k-test.false
