use Rattle.lxt_values.proofs.StartLaws.{symbols_start, others_start}
use Rattle.lxt_values.proofs.value.initial.Goals as goal

pub returns-in-Bits : goal.returns-in-Bits
returns-in-Bits c = symbols_start _ _ _ c.in-Bits.is _ c.symbol_of.ensures _ _ c.fill.ensures

pub returns-in-Real : goal.returns-in-Real
returns-in-Real c = others_start _ _ _ c.in-Real.is _
