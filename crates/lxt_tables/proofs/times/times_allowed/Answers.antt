use Rattle.lxt_tables.proofs.WholeLaws.{no_times, some_times}
use Rattle.lxt_tables.proofs.times.times_allowed.Goals as goal

pub returns-then-p-eq0 : goal.returns-then-p-eq0
returns-then-p-eq0 c = no_times _ _ c.requires c.if-p-eq0.true _ (rw c.new-geometry.ensures.same_file at c.any_sync.ensures)

pub returns : goal.returns
returns c = search some_times
