use Rattle.lxt_record.proofs.RecordLaws.{carried}
use Rattle.lxt_record.proofs.carry_on.Goals as goal

pub returns : goal.returns
returns c =
    carried c.args.file.now c.args.pairs.now c.min-room.result c.min-room.ensures
    _ c.unzip.new.numbers c.unzip.new.offsets c.unzip.ensures
    c.args.size c.args.output.now c.carry_within-answer.new.output c.carry_within-answer.result _ _ c.carry_within-answer.ensures c.zip.ensures
