use borrow.Author.Rules.{rules}
use Rattle.lxt_tables.proofs.SingleLaws.{readable, scale_absent, scale_kept, scale_other}
use Rattle.lxt_tables.proofs.single.timescale.Goals as goal

pub returns-then-at-eq0 : goal.returns-then-at-eq0
returns-then-at-eq0 c = search scale_absent

pub bounds-file-at : goal.bounds-file-at
bounds-file-at c = search readable

pub returns-then-scale : goal.returns-then-scale
returns-then-scale c = scale_kept _ _ c.requires c.if-at-eq0.false _ (search rules) c.cast_signed-scale.ensures c.if-scale.true

pub returns-else-scale : goal.returns-else-scale
returns-else-scale c = scale_other _ _ c.requires c.if-at-eq0.false _ (search rules) c.cast_signed-scale.ensures c.if-scale.false
