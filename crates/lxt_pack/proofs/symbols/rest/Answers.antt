use mathlib.Core.Path.{◌∙◌}
use native.Mathlib.Omega.{arith}
use Rattle.lxt_pack.proofs.PackLaws.{small_product, base_is, sum_small, sum_turn, sum_ended}
use Rattle.lxt_pack.proofs.symbols.rest.Goals as goal

pub overflow_mul-sum : goal.overflow_mul-sum
overflow_mul-sum c = omega (arith, small_product _ _ (sum_small _ _ _ _ c.loop-k.invariant c.requires) (base_is _ c.requires.size).1)

pub overflow_add-sum : goal.overflow_add-sum
overflow_add-sum c =
    let small = sum_small _ _ _ _ c.loop-k.invariant c.requires in
    omega (arith, small_product _ _ small (base_is _ c.requires.size).1, c.digit.type_inv)

pub loop-k-preserved : goal.loop-k-preserved
loop-k-preserved c =
    let base = (base_is _ c.requires.size).0 in
    sum_turn _ _ _ _ c.loop-k.invariant c.loop-k-test.true _ _ base (c.from.ensures ∙ c.digit.ensures)

pub overflow_cast-result : goal.overflow_cast-result
overflow_cast-result c = omega (arith, sum_small _ _ _ _ c.loop-k.invariant c.requires)

pub returns : goal.returns
returns c = sum_ended _ _ _ _ c.loop-k.invariant c.loop-k-test.false
