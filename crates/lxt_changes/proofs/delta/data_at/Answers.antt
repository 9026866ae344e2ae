use borrow.Author.Rules.{rules}
use Rattle.lxt_format.specs.Changes.{data_at}
use Rattle.lxt_changes.proofs.delta.data_at.Goals as goal

pub returns : goal.returns
unfolding data_at
returns c = search rules
