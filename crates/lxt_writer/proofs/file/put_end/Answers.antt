use mir.Syntax.{w8}
use mir.ValLaws.{to_z-of_z}
use Rattle.lxt_writer.proofs.FileLaws.{values_asked, tail_asked, end_put}
use Rattle.lxt_writer.proofs.file.put_end.Goals as goal

pub put_values-requires : goal.put_values-requires
put_values-requires c = values_asked _ _ _ c.requires

pub put_tail-requires : goal.put_tail-requires
put_tail-requires c = tail_asked _ _ _ c.requires _ _ _ c.put_values.ensures

pub returns : goal.returns
returns c =
    let scale = to_z-of_z w8 c.args.timescale c.ranges.timescale in
    end_put _ _ _ c.requires _ _ _ (rw scale at c.put_values.ensures) _ c.put_tail.ensures
