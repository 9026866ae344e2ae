use Rattle.lxt_record.proofs.RecordLaws.{carry_in}
use Rattle.lxt_record.proofs.carry_within.Goals as goal

pub returns : goal.returns
returns c =
    let e = c.carry_on.ensures in
    carry_in c.args.file.now c.args.numbers.now c.args.offsets.now c.args.room c.requires.0 c.requires.1
    c.args.size c.args.output.now c.carry_on.new.output c.carry_on.result c.carry_on.new.offsets e.result_value e.offsets_after e.output_after
