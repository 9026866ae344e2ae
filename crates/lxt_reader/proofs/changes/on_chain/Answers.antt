use Rattle.lxt_reader.proofs.ChangeWays.{seek_begun, seek_ended, seek_inside, seek_found, seek_next, seek_falls}
use Rattle.lxt_reader.proofs.changes.on_chain.Goals as goal

pub loop-p-init : goal.loop-p-init
loop-p-init c = search seek_begun

pub returns-then-o-p : goal.returns-then-o-p
returns-then-o-p c = search seek_found

pub previous-p-requires : goal.previous-p-requires
previous-p-requires c = seek_inside _ _ _ _ c.loop-p.invariant c.loop-p-test.true

pub loop-p-smaller : goal.loop-p-smaller
loop-p-smaller c = search seek_falls

pub loop-p-preserved : goal.loop-p-preserved
loop-p-preserved c = search seek_next

pub returns : goal.returns
returns c = search seek_ended
