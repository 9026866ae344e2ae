use native.Mathlib.Omega.{arith}
use Rattle.lxt_format.specs.Questions.{widths_of}
use Rattle.lxt_column.proofs.ListLaws.{add_begun, add_ended, add_turn, add_within}
use Rattle.lxt_column.proofs.ListedLaws.{geometry_asks, widths_most, number_small, root_inside, facts_asked_lem, width_is}
use Rattle.lxt_column.proofs.list.widths.Goals as goal

pub geometry-geometry-requires : goal.geometry-geometry-requires
geometry-geometry-requires c = geometry_asks c.requires

pub loop-facility-init : goal.loop-facility-init
loop-facility-init c = add_begun

pub overflow_cast-root : goal.overflow_cast-root
overflow_cast-root c = record { fits = omega (arith, number_small c.requires c.loop-facility-test.true) }

pub offset_bounds-roots-facility : goal.offset_bounds-roots-facility
offset_bounds-roots-facility c = record { fits = omega (arith, number_small c.requires c.loop-facility-test.true) }

pub bounds-roots-facility : goal.bounds-roots-facility
bounds-roots-facility c = root_inside c.requires c.loop-facility-test.true

pub own_facts-facts-requires : goal.own_facts-facts-requires
own_facts-facts-requires c =
    let asks = facts_asked_lem c.requires c.loop-facility-test.true in
    let g = c.geometry-geometry.ensures in
    record { inside = rw g.place.1 asks.0; f_value = rw g.same_file asks.1.0; f_value_2 = rw g.same_file asks.1.1 }

pub overflow_add-sum : goal.overflow_add-sum
overflow_add-sum c =
    let width = width_is c.requires c.loop-facility-test.true (rw c.geometry-geometry.ensures.same_file at c.own_facts-facts.ensures) in
    record { fits = omega (arith, add_within c.loop-facility.invariant c.loop-facility-test.true _ width, widths_most c.requires) }

pub loop-facility-preserved : goal.loop-facility-preserved
loop-facility-preserved c =
    let width = width_is c.requires c.loop-facility-test.true (rw c.geometry-geometry.ensures.same_file at c.own_facts-facts.ensures) in
    add_turn c.loop-facility.invariant c.loop-facility-test.true _ width

pub returns : goal.returns
unfolding widths_of
returns c = add_ended c.loop-facility.invariant c.loop-facility-test.false
