use Rattle.lxt_chains.proofs.PassLaws.{not_asked, wrong_head, head_inside, text_told}
use Rattle.lxt_chains.proofs.groups.text_passes.Goals as goal

pub returns-then-not-asked : goal.returns-then-not-asked
returns-then-not-asked c = not_asked _ _ _ _ _ c.if-not-asked.true

pub returns-then-not-head_keeps : goal.returns-then-not-head_keeps
returns-then-not-head_keeps c = wrong_head _ _ c.requires _ _ c.if-not-asked.false _ _ c.head_keeps.ensures c.if-not-head_keeps.true _

pub data_at-requires : goal.data_at-requires
data_at-requires c = head_inside _ _ c.requires _ _ _ c.head_keeps.ensures c.if-not-head_keeps.false

pub returns : goal.returns
returns c = text_told _ _ c.requires _ _ c.if-not-asked.false _ c.data_at.ensures.0 _ c.head_keeps.ensures c.if-not-head_keeps.false
