use Rattle.lxt_pack.proofs.PackLaws.{count_room, count_turn, count_rest_room, count_last, count_ended}
use Rattle.lxt_pack.proofs.symbols.pack_codes.Goals as goal

pub bounds-out-at : goal.bounds-out-at
bounds-out-at g c = count_room _ _ _ _ c.requires _ _ c.loop-j.invariant c.loop-j-test.true

pub loop-j-preserved : goal.loop-j-preserved
loop-j-preserved g c = count_turn _ _ _ _ c.requires _ _ c.loop-j.invariant c.loop-j-test.true _ c.whole.ensures

pub bounds-out-at-then-p-value : goal.bounds-out-at-then-p-value
bounds-out-at-then-p-value g c = count_rest_room _ _ _ _ c.requires _ _ c.loop-j.invariant c.loop-j-test.false c.if-p-value.true

pub returns-then-p-value : goal.returns-then-p-value
returns-then-p-value g c = count_last _ _ _ _ c.requires _ _ c.loop-j.invariant c.loop-j-test.false c.if-p-value.true _ c.rest.ensures

pub returns-else-p-value : goal.returns-else-p-value
returns-else-p-value g c = count_ended _ _ _ _ c.requires _ _ c.loop-j.invariant c.loop-j-test.false c.if-p-value.false
