use Rattle.lxt_record.proofs.RecordLaws.{started}
use Rattle.lxt_record.proofs.start.Goals as goal

pub returns : goal.returns
returns c =
    started c.args.file.now c.args.pairs.now c.min-room.result c.min-room.ensures
    _ c.unzip.new.numbers c.unzip.new.offsets c.unzip.ensures
    c.args.asked.now c.start_within-answer.result _ _ _ c.start_within-answer.ensures c.zip.ensures
