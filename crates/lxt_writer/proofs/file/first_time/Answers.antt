use Rattle.std.proofs.Common.{rules}
use Rattle.lxt_writer.specs.Plan.{first_of}
use Rattle.lxt_writer.proofs.file.first_time.Goals as goal

pub returns : goal.returns
unfolding first_of
returns c = search rules
