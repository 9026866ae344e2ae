use Rattle.lxt_walk.proofs.StartLaws.{numbers_begun, numbers_next, numbers_ended}
use Rattle.lxt_walk.proofs.start.put_numbers.Goals as goal

pub loop-f-init : goal.loop-f-init
loop-f-init c = search numbers_begun

pub loop-f-preserved : goal.loop-f-preserved
loop-f-preserved c = search numbers_next

pub returns : goal.returns
returns c = numbers_ended _ _ _ _ _ _ c.loop-f.invariant c.loop-f-test.false
