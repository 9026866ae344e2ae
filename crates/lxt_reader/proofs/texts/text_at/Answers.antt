use Rattle.lxt_reader.proofs.TextWays.{part_in, part_of_file, part_lent, part_of_other, part_refused}
use Rattle.lxt_reader.proofs.texts.text_at.Goals as goal

pub slice_bounds-result-end : goal.slice_bounds-result-end
slice_bounds-result-end c = part_in _ _ _ c.ranges.time c.args.text.now _ c.place_at.ensures _ _ (rw c.in-Ok-File.field-0-is at c.in-Ok-File.is)

pub returns-in-Ok-File : goal.returns-in-Ok-File
returns-in-Ok-File c =
    let all = part_of_file _ _ _ c.ranges.time c.args.text.now _ c.place_at.ensures c.args.file.ref_ptr c.args.text.ref_ptr _ _ (rw c.in-Ok-File.field-0-is at c.in-Ok-File.is) in
    record { result_value = all.0; ref_ptr_value = all.1 }

pub returns-in-Ok-Lent : goal.returns-in-Ok-Lent
returns-in-Ok-Lent c =
    let all = part_lent _ _ _ c.ranges.time c.args.text.now _ c.place_at.ensures c.args.file.ref_ptr c.args.text.ref_ptr _ (rw c.in-Ok-Lent.field-0-is at c.in-Ok-Lent.is) in
    record { result_value = all.0; ref_ptr_value = all.1 }

pub returns-in-Ok-OtherKind : goal.returns-in-Ok-OtherKind
returns-in-Ok-OtherKind c =
    let all = part_of_other _ _ _ c.ranges.time c.args.text.now _ c.place_at.ensures c.args.file.ref_ptr c.args.text.ref_ptr (rw c.in-Ok-OtherKind.field-0-is at c.in-Ok-OtherKind.is) in
    record { result_value = all.0; ref_ptr_value = all.1 }

pub returns-in-Err : goal.returns-in-Err
returns-in-Err c =
    let all = part_refused _ _ _ c.ranges.time c.args.text.now _ c.place_at.ensures c.args.file.ref_ptr c.args.text.ref_ptr _ c.in-Err.is in
    record { result_value = all.0; ref_ptr_value = all.1 }
