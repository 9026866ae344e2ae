use Rattle.lxt_values.specs.Value.{content_from}
use Rattle.lxt_values.proofs.value.at.Goals as goal

pub read-requires : goal.read-requires
read-requires c = c.requires.ready _ c.in-Some.is

pub returns-in-Some : goal.returns-in-Some
unfolding content_from
returns-in-Some c = rw c.in-Some.is c.read.ensures

pub returns-in-None : goal.returns-in-None
unfolding content_from
returns-in-None c = rw c.in-None.is c.initial.ensures
