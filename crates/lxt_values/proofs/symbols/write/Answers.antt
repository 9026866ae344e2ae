use native.Mathlib.Omega.{arith}
use Rattle.lxt_format.specs.UnpackLaws.{Size}
use Rattle.lxt_values.proofs.WriteLaws.{size_0, size_1, size_2, drawn_data, drawn_symbols, wrote_all}
use Rattle.lxt_values.proofs.symbols.write.Goals as goal

pub unpack-requires : goal.unpack-requires
unpack-requires c = (drawn_data _ _ _ c.requires.0 _ c.data_at-at.ensures.0 1 Size.one _ c.in-0.is size_0, c.requires.1)

pub returns-in-0 : goal.returns-in-0
returns-in-0 c =
    drawn_symbols _ _ _ c.requires.0 _ c.data_at-at.ensures.0 1 Size.one _ c.in-0.is size_0 _ _ c.requires.1 _
    c.unpack.ensures

pub unpack-requires-in-1 : goal.unpack-requires-in-1
unpack-requires-in-1 c = (drawn_data _ _ _ c.requires.0 _ c.data_at-at.ensures.0 2 Size.two _ c.in-1.is size_1, c.requires.1)

pub returns-in-1 : goal.returns-in-1
returns-in-1 c =
    drawn_symbols _ _ _ c.requires.0 _ c.data_at-at.ensures.0 2 Size.two _ c.in-1.is size_1 _ _ c.requires.1 _
    c.unpack-in-1.ensures

pub unpack-requires-in-2 : goal.unpack-requires-in-2
unpack-requires-in-2 c = (drawn_data _ _ _ c.requires.0 _ c.data_at-at.ensures.0 4 Size.four _ c.in-2.is size_2, c.requires.1)

pub returns-in-2 : goal.returns-in-2
returns-in-2 c =
    drawn_symbols _ _ _ c.requires.0 _ c.data_at-at.ensures.0 4 Size.four _ c.in-2.is size_2 _ _ c.requires.1 _
    c.unpack-in-2.ensures

pub returns-in_default : goal.returns-in_default
returns-in_default c =
    wrote_all _ _ _ (λ e. omega arith) (λ e. omega arith) (λ e. omega arith) _ c.symbol_of.ensures _ _
    c.fill.ensures
