use Rattle.lxt_values.specs.Value.{content_from}
use Rattle.lxt_column.proofs.PartLaws.{part_shows, part_back_lem}
use Rattle.lxt_column.proofs.RecordLaws.{record_by_lem}
use Rattle.lxt_column.proofs.items.item_at.Goals as goal

pub at-value-requires : goal.at-value-requires
at-value-requires c = part_shows c.args.bits.now c.args.start _ _ _ _ _ _ c.requires.1

pub returns : goal.returns
returns c =
    let value = content_from c.args.file.now c.args.t.initial c.args.kind c.args.width c.args.o in
    record { value = record_by_lem _ _ _ value _ _ c.at-value.ensures.0 c.record_of.ensures; bits_after = part_back_lem c.args.bits.now c.args.start value _ c.at-value.ensures.1 }
