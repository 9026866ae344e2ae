use lib.Dec.{lit≤}
use Rattle.lxt_chains.proofs.PassLaws.{not_asked, wrong_head, head_inside, integer_told}
use Rattle.lxt_chains.proofs.groups.integer_passes.Goals as goal

pub returns-then-not-asked : goal.returns-then-not-asked
returns-then-not-asked c = not_asked _ _ _ _ _ c.if-not-asked.true

pub returns-then-not-head_keeps : goal.returns-then-not-head_keeps
returns-then-not-head_keeps c = wrong_head _ _ c.requires _ _ c.if-not-asked.false _ _ c.head_keeps.ensures c.if-not-head_keeps.true _

pub symbols_fit-requires : goal.symbols_fit-requires
symbols_fit-requires c = (lit≤ tt, head_inside _ _ c.requires _ _ _ c.head_keeps.ensures c.if-not-head_keeps.false)

pub returns : goal.returns
returns c = integer_told _ _ c.requires _ _ c.if-not-asked.false _ c.head_keeps.ensures c.if-not-head_keeps.false _ c.symbols_fit.ensures
