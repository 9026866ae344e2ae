use Rattle.lxt_changes.proofs.KeepLaws.{head_late, head_long, head_is}
use Rattle.lxt_changes.proofs.keep.head_keeps.Goals as goal

pub returns-then-end-o : goal.returns-then-end-o
returns-then-end-o c = search head_late

pub returns-then-end-data_at : goal.returns-then-end-data_at
returns-then-end-data_at c = head_long _ _ _ _ _ c.if-end-o.false _ c.data_at.ensures.0 c.if-end-data_at.true

pub returns : goal.returns
returns c = head_is _ _ _ _ _ c.if-end-o.false _ c.data_at.ensures.0 c.if-end-data_at.false _ _ c.command_fits.ensures c.previous_allowed.ensures
