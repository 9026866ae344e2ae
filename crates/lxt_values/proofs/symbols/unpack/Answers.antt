use Prim.Native.Nat.{◌/◌, ◌≤◌, ◌<◌}
use mathlib.Core.Path.{refl}
use native.Mathlib.Omega.{arith}
use borrow.Author.Rules.{rules}
use Rattle.lxt_values.proofs.SymbolLaws.{some_bits, some_fit}
use Rattle.lxt_values.proofs.StepLaws.{steps_begun, steps_within, whole_asks, whole_fits, whole_turn, all_done, last_asks, last_fits, last_done}
use Rattle.lxt_values.proofs.symbols.unpack.Goals as goal

pub nonzero_div-places : goal.nonzero_div-places
nonzero_div-places c = search some_bits

pub nonzero_div-whole : goal.nonzero_div-whole
nonzero_div-whole c = search (rules, some_fit)

pub loop-k-init : goal.loop-k-init
loop-k-init c = (refl, search steps_begun)

pub step-requires : goal.step-requires
step-requires c =
    let more : c.loop-k.steps < c.args.width / (8 / c.args.b) = omega (arith, c.loop-k.invariant.0, c.loop-k-test.true) in
    whole_asks _ _ _ _ c.requires.0 _ _ c.requires.1 _ c.loop-k.invariant.1 more

pub overflow_add-steps : goal.overflow_add-steps
overflow_add-steps c =
    let more : c.loop-k.steps < c.args.width / (8 / c.args.b) = omega (arith, c.loop-k.invariant.0, c.loop-k-test.true) in
    let fits = whole_fits _ _ _ _ c.requires.0 _ _ c.requires.1 _ c.loop-k.invariant.1 more in
    record { fits = omega (arith, fits, c.ranges.width.fits) }

pub loop-k-preserved : goal.loop-k-preserved
loop-k-preserved c =
    let same = c.loop-k.invariant.0 in
    let more : c.loop-k.steps < c.args.width / (8 / c.args.b) = omega (arith, same, c.loop-k-test.true) in
    (omega (arith, same), search (whole_turn _ _ _ _ c.requires.0 _ _ c.requires.1 _ c.loop-k.invariant.1 more))

pub overflow_mul-left : goal.overflow_mul-left
overflow_mul-left c =
    let within = steps_within _ c.requires.0.size _ _ c.loop-k.invariant.1.upto in
    record { fits = omega (arith, within, c.ranges.width.fits) }

pub overflow_sub-left : goal.overflow_sub-left
overflow_sub-left c = steps_within _ c.requires.0.size _ _ c.loop-k.invariant.1.upto

pub returns-then-left-eq0 : goal.returns-then-left-eq0
returns-then-left-eq0 c =
    let all : c.args.width / (8 / c.args.b) ≤ c.loop-k.steps = omega (arith, c.loop-k.invariant.0, c.loop-k-test.false) in
    all_done _ _ _ _ c.requires.0 _ _ c.requires.1 _ c.loop-k.invariant.1 all c.if-left-eq0.true

pub step-requires-2 : goal.step-requires-2
step-requires-2 c =
    let all : c.args.width / (8 / c.args.b) ≤ c.loop-k.steps = omega (arith, c.loop-k.invariant.0, c.loop-k-test.false) in
    last_asks _ _ _ _ c.requires.0 _ _ c.requires.1 _ c.loop-k.invariant.1 all c.if-left-eq0.false

pub overflow_add-result : goal.overflow_add-result
overflow_add-result c =
    let all : c.args.width / (8 / c.args.b) ≤ c.loop-k.steps = omega (arith, c.loop-k.invariant.0, c.loop-k-test.false) in
    let fits = last_fits _ _ _ _ c.requires.0 _ _ c.requires.1 _ c.loop-k.invariant.1 all c.if-left-eq0.false in
    record { fits = omega (arith, fits, c.ranges.width.fits) }

pub returns : goal.returns
returns c =
    let all : c.args.width / (8 / c.args.b) ≤ c.loop-k.steps = omega (arith, c.loop-k.invariant.0, c.loop-k-test.false) in
    last_done _ _ _ _ c.requires.0 _ _ c.requires.1 _ c.loop-k.invariant.1 all c.if-left-eq0.false _
    c.step-2.ensures
