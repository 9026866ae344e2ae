use native.Mathlib.Omega.{arith}
use Rattle.lxt_changes.proofs.SymbolLaws.{product}
use Rattle.lxt_changes.proofs.PaddingLaws.{unused_lt, padding_is}
use Rattle.lxt_changes.proofs.padding.padding_clean.Goals as goal

pub overflow_mul-unused-2 : goal.overflow_mul-unused-2
overflow_mul-unused-2 c = omega (arith, product _ _ c.requires.0.0 c.requires.0.1)

pub overflow_sub-unused : goal.overflow_sub-unused
overflow_sub-unused c = (unused_lt _ _ _ c.packed_size-size.ensures.0).0

pub low_bits_are_0-requires : goal.low_bits_are_0-requires
low_bits_are_0-requires c = (unused_lt _ _ _ c.packed_size-size.ensures.0).1

pub returns : goal.returns
returns c = search padding_is
