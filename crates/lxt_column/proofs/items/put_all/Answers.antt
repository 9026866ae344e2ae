use native.Mathlib.Omega.{arith}
use Rattle.lxt_column.proofs.ItemLaws.{times_ask}
use Rattle.lxt_column.proofs.MemoryLaws.{nothing_known}
use Rattle.lxt_column.proofs.ListedLaws.{geometry_asks, widths_most, number_small, root_inside, facts_asked_lem, rooted, listed_found}
use Rattle.lxt_column.proofs.PutLaws.{put_begun, put_ended, record_fits, item_asks, start_fits, sum_fits, put_turn, put_at}
use Rattle.lxt_column.proofs.items.put_all.Goals as goal

pub geometry-geometry-requires : goal.geometry-geometry-requires
geometry-geometry-requires c = geometry_asks c.requires.listed

pub new-table-requires : goal.new-table-requires
new-table-requires c = times_ask _ _ c.requires.listed.0.accepted c.requires.listed.0.tables

pub loop-i-init : goal.loop-i-init
loop-i-init c = put_begun (nothing_known _ _ _ c.requires.forgotten)

pub overflow_cast-root : goal.overflow_cast-root
overflow_cast-root c = record { fits = omega (arith, number_small c.requires.listed c.loop-i-test.true) }

pub offset_bounds-roots-facility : goal.offset_bounds-roots-facility
offset_bounds-roots-facility c = record { fits = omega (arith, number_small c.requires.listed c.loop-i-test.true) }

pub bounds-roots-facility : goal.bounds-roots-facility
bounds-roots-facility c = root_inside c.requires.listed c.loop-i-test.true

pub latest_of-found-requires : goal.latest_of-found-requires
latest_of-found-requires c = (rooted c.requires.listed c.loop-i-test.true, c.loop-i.invariant.remembered)

pub own_facts-facts-requires : goal.own_facts-facts-requires
own_facts-facts-requires c =
    let asks = facts_asked_lem c.requires.listed c.loop-i-test.true in
    let g = c.geometry-geometry.ensures in
    record { inside = rw g.place.1 asks.0; f_value = rw g.same_file asks.1.0; f_value_2 = rw g.same_file asks.1.1 }

pub item_at-requires : goal.item_at-requires
item_at-requires c =
    let found = listed_found c.requires.listed c.loop-i-test.true (rw c.new-table.ensures.same_file at c.limit_at-end.ensures) c.latest_of-found.ensures.offset_value (rw c.geometry-geometry.ensures.same_file at c.own_facts-facts.ensures) in
    item_asks c.loop-i.invariant c.loop-i-test.true c.requires.facilities_in_bounds found

pub offset_bounds-records-i : goal.offset_bounds-records-i
offset_bounds-records-i c = record { fits = omega (arith, c.loop-i-test.true, c.requires.listed.0.short) }

pub bounds-records-i : goal.bounds-records-i
bounds-records-i c = record_fits c.loop-i.invariant c.loop-i-test.true c.requires.facilities_in_bounds

pub overflow_add-start : goal.overflow_add-start
overflow_add-start c =
    let found = listed_found c.requires.listed c.loop-i-test.true (rw c.new-table.ensures.same_file at c.limit_at-end.ensures) c.latest_of-found.ensures.offset_value (rw c.geometry-geometry.ensures.same_file at c.own_facts-facts.ensures) in
    record { fits = omega (arith, start_fits c.loop-i.invariant c.loop-i-test.true c.requires.facilities_in_bounds found, widths_most c.requires.listed) }

pub overflow_add-visited : goal.overflow_add-visited
overflow_add-visited c =
    let found = listed_found c.requires.listed c.loop-i-test.true (rw c.new-table.ensures.same_file at c.limit_at-end.ensures) c.latest_of-found.ensures.offset_value (rw c.geometry-geometry.ensures.same_file at c.own_facts-facts.ensures) in
    record { fits = sum_fits c.loop-i.invariant c.loop-i-test.true c.requires.facilities_in_bounds found c.requires.listed.0.short }

pub loop-i-preserved : goal.loop-i-preserved
loop-i-preserved c =
    let found = listed_found c.requires.listed c.loop-i-test.true (rw c.new-table.ensures.same_file at c.limit_at-end.ensures) c.latest_of-found.ensures.offset_value (rw c.geometry-geometry.ensures.same_file at c.own_facts-facts.ensures) in
    put_turn c.loop-i.invariant c.loop-i-test.true c.requires.facilities_in_bounds found
    c.item_at.ensures.value c.item_at.ensures.bits_after c.latest_of-found.ensures.remembered c.latest_of-found.auto.known

pub shape_of-bits : goal.shape_of-bits
shape_of-bits c = c.loop-i.invariant.bits_long

pub shape_of-records : goal.shape_of-records
shape_of-records c = c.loop-i.invariant.records_long

pub shape_of-known : goal.shape_of-known
shape_of-known c = c.loop-i.invariant.known_long

pub returns : goal.returns
returns c =
    let all = put_at _ _ c.ranges.time _ _ _ _ _ _ _ (put_ended c.loop-i.invariant c.loop-i-test.false) in
    record { value = all.0; bits_after = all.1.0; records_after = all.1.1 }
