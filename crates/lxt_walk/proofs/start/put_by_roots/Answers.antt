use mathlib.Core.Path.{refl}
use native.Mathlib.Omega.{arith}
use Rattle.lxt_walk.proofs.StartLaws.{asked_begun, asked_read, asked_root_read, asked_skipped, asked_below, asked_sync, asked_small, asked_itself, asked_stored, asked_ended}
use Rattle.lxt_walk.proofs.start.put_by_roots.Goals as goal

pub loop-f-init : goal.loop-f-init
loop-f-init c = search asked_begun

pub bounds-asked-f : goal.bounds-asked-f
bounds-asked-f c = search asked_read

pub bounds-roots-f : goal.bounds-roots-f
bounds-roots-f c = search asked_root_read

pub sync_of-requires : goal.sync_of-requires
sync_of-requires c = (search asked_sync, search asked_below)

pub bounds-offsets-root : goal.bounds-offsets-root
bounds-offsets-root c =
    let itself = asked_itself _ _ _ _ c.requires.0 _ c.requires.1 _ _ c.loop-f.invariant c.loop-f-test.true in
    let small = asked_small _ _ _ _ c.requires.0 _ c.requires.1 _ _ c.loop-f.invariant c.loop-f-test.true c.if-asked-f-ne0.true _ refl in
    omega arith

pub loop-f-preserved-then-asked-f-ne0 : goal.loop-f-preserved-then-asked-f-ne0
loop-f-preserved-then-asked-f-ne0 c = search asked_stored

pub loop-f-preserved : goal.loop-f-preserved
loop-f-preserved c = search asked_skipped

pub returns : goal.returns
returns c = search asked_ended
