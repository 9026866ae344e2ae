use native.Mathlib.Omega.{arith}
use mathlib.Core.Path.{sym, ◌∙◌}
use Rattle.lxt_pack.proofs.SizeLaws.{bits_long, bits_none, each_most, bits_one, bits_of_two, bits_seen}
use borrow.Author.Tests.{not-true, not-false}
use Rattle.lxt_pack.proofs.change.bits_size.Goals as goal

pub returns-then-size-width : goal.returns-then-size-width
returns-then-size-width c = record { is = search bits_long; most = tt }

pub returns-then-size-eq1 : goal.returns-then-size-eq1
returns-then-size-eq1 c =
    let long = c.if-size-width.false in
    let size = c.size_of_one.ensures in
    record { is = bits_one _ _ long c.if-size-eq1.true _ size.0; most = size.1 }

pub returns-then-seen : goal.returns-then-seen
returns-then-seen c =
    let long = c.if-size-width.false in
    let seen = c.look-seen.ensures in
    let bits = c.if-seen.true in
    let size = c.packed_size.ensures in
    record {
      is = bits_of_two _ _ long c.requires.1 _ _ seen.0 seen.1 bits _ _ c.from.ensures size.0;
      most = omega arith;
    }

pub returns-then-not-seen : goal.returns-then-not-seen
returns-then-not-seen c =
    let long = c.if-size-width.false in
    let detail = c.look_in_detail-seen.ensures in
    let none = sym detail.four_value.1 ∙ not-true _ c.if-not-seen.true in
    record { is = bits_none _ _ long none; most = tt }

pub overflow_mul-b-2 : goal.overflow_mul-b-2
overflow_mul-b-2 c =
    let most = each_most _ _ _ _ _ _ c.from-2.ensures c.from-3.ensures c.from-4.ensures in
    omega (arith, most)

pub packed_size-requires-2 : goal.packed_size-requires-2
packed_size-requires-2 c =
    let long = c.if-size-width.false in
    let most = each_most _ _ _ _ _ _ c.from-2.ensures c.from-3.ensures c.from-4.ensures in
    (omega (arith, most), omega (arith, long, c.requires.2))

pub returns : goal.returns
returns c =
    let long = c.if-size-width.false in
    let detail = c.look_in_detail-seen.ensures in
    let nine = not-false _ c.if-not-seen.false in
    let bits = c.from-2.ensures in
    let four = c.from-3.ensures in
    let same = c.from-4.ensures in
    let size = c.packed_size-2.ensures in
    record {
      is = bits_seen _ _ long c.requires.1 _ _ _ _ detail.same_value.0 detail.same_value.1 detail.four_value.0 detail.four_value.1 nine _ _ _ _ bits four same size.0;
      most = omega arith;
    }
