use borrow.Author.Rules.{rules}
use Rattle.lxt_chains.proofs.WholeWays.{refused_17, refused_some, refused_first}
use Rattle.lxt_chains.proofs.whole.refused.Goals as goal

pub returns-then-not-any_of_first : goal.returns-then-not-any_of_first
returns-then-not-any_of_first c = search refused_17

pub lowest-f-requires : goal.lowest-f-requires
lowest-f-requires c = (search rules, search refused_some)

pub facility_fault-requires : goal.facility_fault-requires
facility_fault-requires c = (search rules, c.lowest-f.ensures.inside)

pub returns : goal.returns
returns c = search refused_first
