use native.Mathlib.Omega.{arith}
use borrow.Author.Tests.{not-true}
use Rattle.lxt_tables.proofs.PartLaws.{part_end_lem, head_outside, excluded_is}
use Rattle.lxt_tables.proofs.bodies.excluded_part.Goals as goal

pub returns-then-not-lies : goal.returns-then-not-lies
returns-then-not-lies c = search (head_outside, not-true)

pub be32-count-requires : goal.be32-count-requires
be32-count-requires c = omega (arith, part_end_lem c.args.end c.args.start 4 _ c.lies.ensures c.if-not-lies.false)

pub returns : goal.returns
returns c = search excluded_is
