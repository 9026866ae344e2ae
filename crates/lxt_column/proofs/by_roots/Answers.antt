use Rattle.lxt_column.proofs.MemoryLaws.{forgotten}
use Rattle.lxt_column.proofs.PutLaws.{put_at}
use Rattle.lxt_column.proofs.ColumnWays.{no_room, room_there, all_put}
use Rattle.lxt_column.proofs.by_roots.Goals as goal

pub returns-then-bits-needed : goal.returns-then-bits-needed
returns-then-bits-needed c =
    let all = no_room _ _ _ _ _ _ _ c.requires.0 _ c.widths-needed.ensures c.then-bits-needed.either in
    record { result_value = all.0; bits_after = all.1.0; records_after = all.1.1 }

pub put_all-visited-requires : goal.put_all-visited-requires
put_all-visited-requires c =
    let a = c.args in
    let room = room_there a.file.now a.time a.facilities.now a.lent a.bits.now a.records.now _ c.requires.0 _ c.widths-needed.ensures
    c.if-bits-needed.false c.if-records-facilities.false in
    record { listed = c.requires; facilities_in_bounds = room; forgotten = forgotten }

pub returns : goal.returns
returns c =
    let put = c.put_all-visited.ensures in
    let all = all_put _ _ _ _ _ _ _ c.requires.0 _ c.widths-needed.ensures c.if-bits-needed.false c.if-records-facilities.false _ _ _
    (put_at _ _ c.ranges.time _ _ _ _ _ _ _ (put.value, (put.bits_after, put.records_after))) in
    record { result_value = all.0; bits_after = all.1.0; records_after = all.1.1 }
