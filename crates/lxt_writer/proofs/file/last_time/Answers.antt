use Rattle.std.proofs.Common.{rules}
use Rattle.lxt_writer.specs.Plan.{final_of}
use Rattle.lxt_writer.proofs.file.last_time.Goals as goal

pub returns : goal.returns
unfolding final_of
returns c = search rules
