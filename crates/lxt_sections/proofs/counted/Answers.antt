use Rattle.lxt_sections.specs.Stage.{wide_in}
use lib.Dec.{lit≤}
use borrow.Author.Tests.{not-true}
use Rattle.lxt_sections.proofs.PlaceLaws.{head_out, times_out, bodies_out, too_many, all_found, readable, head_is_4}
use Rattle.lxt_sections.proofs.counted.Goals as goal

pub returns-then-not-lies : goal.returns-then-not-lies
returns-then-not-lies c = search (head_out, not-true)

pub returns-then-not-lies-2 : goal.returns-then-not-lies-2
returns-then-not-lies-2 c =
    times_out _ _ c.requires.places _ c.table_of-times.ensures _ c.size.ensures.0 _ c.lies-2.ensures c.if-not-lies-2.true c.requires.times_there

pub be32-facilities-requires : goal.be32-facilities-requires
be32-facilities-requires c = readable _ _ 8 _ _ c.lies.ensures c.if-not-lies.false (lit≤ tt) c.requires.within

pub be32-time_count-requires : goal.be32-time_count-requires
be32-time_count-requires c = readable _ _ _ _ _ c.lies-2.ensures c.if-not-lies-2.false (head_is_4 (wide_in c.args.p) _ c.size.ensures.0) c.requires.within

pub returns-then-not-all_inside : goal.returns-then-not-all_inside
returns-then-not-all_inside c =
    bodies_out _ _ c.requires.places _ _ _ _ c.table_of-times.ensures c.be32-facilities.ensures c.be32-time_count.ensures c.size-2.ensures.0 _
    c.all_inside.ensures c.if-not-all_inside.true

pub returns-then-not-count_is_allowed : goal.returns-then-not-count_is_allowed
returns-then-not-count_is_allowed c =
    too_many _ _ c.requires.places _ _ _ _ c.table_of-times.ensures c.be32-facilities.ensures c.be32-time_count.ensures c.size-2.ensures.0 _
    c.all_inside.ensures c.if-not-all_inside.false _ c.count_is_allowed.ensures c.if-not-count_is_allowed.true

pub returns : goal.returns
returns c =
    all_found _ _ c.requires.places _ _ _ _ c.table_of-times.ensures c.be32-facilities.ensures c.be32-time_count.ensures c.size-2.ensures.0 _
    c.all_inside.ensures c.if-not-all_inside.false _ c.count_is_allowed.ensures c.if-not-count_is_allowed.false
