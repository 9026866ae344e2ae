use Prim.Native.Nat.{◌-◌, ◌<◌}
use borrow.Author.Rules.{rules}
use native.Mathlib.Omega.{arith}
use Rattle.lxt_values.proofs.RealLaws.{none_gathered, all_gathered, sum_fits, gathered}
use Rattle.lxt_values.proofs.reals.bits_of.Goals as goal

pub loop-i-init : goal.loop-i-init
loop-i-init c = none_gathered _ _ _ (search rules)

pub overflow_mul-bits : goal.overflow_mul-bits
overflow_mul-bits c = omega (arith, sum_fits _ _ _ _ _ c.loop-i.invariant c.loop-i-test.true 0 (search rules))

pub overflow_add-at : goal.overflow_add-at
overflow_add-at c = omega (arith, c.requires.0.place (c.loop-i.i - 1))

pub bounds-file-at : goal.bounds-file-at
bounds-file-at c = omega (arith, c.requires.0.place (c.loop-i.i - 1))

pub overflow_add-bits : goal.overflow_add-bits
overflow_add-bits c =
    let small : c.from.result < 256 = rw c.from.ensures (c.type_inv.file _).fits in
    record { fits = sum_fits _ _ _ _ _ c.loop-i.invariant c.loop-i-test.true _ small }

pub loop-i-preserved : goal.loop-i-preserved
loop-i-preserved c =
    let small : c.from.result < 256 = rw c.from.ensures (c.type_inv.file _).fits in
    gathered _ _ _ _ _ c.loop-i.invariant c.loop-i-test.true _ small _ c.from-place.ensures c.from.ensures

pub returns : goal.returns
returns c = search all_gathered
