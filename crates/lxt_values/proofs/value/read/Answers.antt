use mathlib.Core.Logic.{⊎_elim}
use Rattle.lxt_values.proofs.ReadLaws.{bits_drawn, bits_read, integer_drawn, integer_read, real_asks, real_read, text_read}
use Rattle.lxt_values.proofs.value.read.Goals as goal

pub write-requires : goal.write-requires
write-requires c = ⊎_elim (bits_drawn _ _ _ _ _ _ _ c.requires) (integer_drawn _ _ _ _ _ _ _ c.requires) c.in-Bits.is

pub bits_of-word-requires : goal.bits_of-word-requires
bits_of-word-requires c = real_asks _ _ _ _ _ _ _ c.requires _ c.data_at-at.ensures.0 c.in-Real.is

pub returns-in-Bits : goal.returns-in-Bits
returns-in-Bits c =
    ⊎_elim (λ e. bits_read _ _ _ _ _ _ _ c.requires e _ _ c.write.ensures) (λ e. integer_read _ _ _ _ _ _ _ c.requires e _ _ c.write.ensures) c.in-Bits.is

pub returns-in-Real : goal.returns-in-Real
returns-in-Real c = real_read _ _ _ _ _ _ _ c.requires _ c.data_at-at.ensures.0 c.in-Real.is _ c.bits_of-word.ensures _ c.number.ensures _

pub returns-in-Text : goal.returns-in-Text
returns-in-Text c = text_read _ _ _ _ _ _ _ c.requires _ c.data_at-at.ensures.0 c.in-Text.is _ c.length.ensures.0 _
