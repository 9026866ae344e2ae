use native.Mathlib.Omega.{arith}
use Rattle.lxt_pack.proofs.SizeLaws.{few_bits, packed_is}
use Rattle.lxt_pack.proofs.change.packed_size.Goals as goal

pub overflow_mul-result : goal.overflow_mul-result
overflow_mul-result c = omega (arith, few_bits _ _ c.requires.0 c.requires.1)

pub overflow_add-result : goal.overflow_add-result
overflow_add-result c = omega (arith, few_bits _ _ c.requires.0 c.requires.1)

pub returns : goal.returns
returns c = packed_is _ _ c.requires.0 c.requires.1
