use borrow.Author.Rules.{rules}
use Rattle.lxt_values.proofs.ByteLaws.{put_begun, put_room, put_turn, put_ended}
use Rattle.lxt_values.proofs.symbols.put.Goals as goal

pub loop-j-init : goal.loop-j-init
loop-j-init c = search put_begun

pub overflow_add-bits : goal.overflow_add-bits
overflow_add-bits c = search (rules, put_room)

pub bounds-bits-place : goal.bounds-bits-place
bounds-bits-place c = search put_room

pub loop-j-preserved : goal.loop-j-preserved
loop-j-preserved c = search put_turn

pub returns : goal.returns
returns c = search put_ended
