use Rattle.lxt_record.proofs.RecordLaws.{start_in}
use Rattle.lxt_record.proofs.start_within.Goals as goal

pub returns : goal.returns
returns c =
    let e = c.start.ensures in
    start_in c.args.file.now c.args.numbers.now c.args.offsets.now c.args.room c.requires.0 c.requires.1
    c.args.asked.now c.start.result c.start.new.numbers c.start.new.offsets e.0 e.1.0 e.1.1
