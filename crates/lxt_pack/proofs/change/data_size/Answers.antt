use mathlib.Core.Path.{refl}
use Rattle.lxt_pack.proofs.SizeLaws.{width_bits, width_integer, width_real, width_text, sizes_of_lem}
use Rattle.lxt_pack.proofs.change.data_size.Goals as goal

pub bits_size-requires : goal.bits_size-requires
bits_size-requires c =
    let wide = width_bits _ _ c.in-Bits.is c.requires.1 in
    (c.requires.0, wide.0, wide.1)

pub returns-in-Bits : goal.returns-in-Bits
returns-in-Bits c = sizes_of_lem _ _ _ _ _ _ c.in-Bits.is refl c.bits_size.ensures

pub returns-in-Integer : goal.returns-in-Integer
returns-in-Integer c =
    let kind = c.in-Integer.is in
    sizes_of_lem _ _ _ _ _ _ kind (width_integer _ _ kind c.requires.1) c.integer_size.ensures

pub returns-in-Real : goal.returns-in-Real
returns-in-Real c =
    let kind = c.in-Real.is in
    sizes_of_lem _ _ _ _ _ _ kind (width_real _ _ kind c.requires.1) c.real_size.ensures

pub returns-in-Text : goal.returns-in-Text
returns-in-Text c =
    let kind = c.in-Text.is in
    sizes_of_lem _ _ _ _ _ _ kind (width_text _ _ kind c.requires.1) c.text_size.ensures
