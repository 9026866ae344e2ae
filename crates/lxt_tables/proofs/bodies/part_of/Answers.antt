use native.Mathlib.Omega.{arith}
use borrow.Author.Tests.{not-true, not-false}
use Rattle.lxt_tables.proofs.PartLaws.{part_outside, part_inside_lem, part_end_lem}
use Rattle.lxt_tables.proofs.bodies.part_of.Goals as goal

pub returns-then-not-lies : goal.returns-then-not-lies
returns-then-not-lies c = search (part_outside, not-true)

pub overflow_add-result-2 : goal.overflow_add-result-2
overflow_add-result-2 c = omega (arith, part_end_lem c.args.end c.args.start c.args.size _ c.lies.ensures c.if-not-lies.false)

pub returns : goal.returns
returns c = rw (c.from.ensures, c.from-2.ensures) (search (part_inside_lem, not-false))
