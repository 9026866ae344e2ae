use mathlib.Core.Path.{refl}
use Rattle.lxt_writer.specs.Changes.{is_new}
use Rattle.lxt_writer.proofs.changes.is_new.Goals as goal

pub returns : goal.returns
unfolding is_new
returns c = refl
