use Rattle.lxt_changes.proofs.SymbolLaws.{bits_fit, integer_fits, others_fit}
use Rattle.lxt_changes.proofs.symbols.command_fits.Goals as goal

pub returns-in-Bits : goal.returns-in-Bits
returns-in-Bits c = search bits_fit

pub returns-in-Integer : goal.returns-in-Integer
returns-in-Integer c = search integer_fits

pub returns-in-Real : goal.returns-in-Real
returns-in-Real c = search others_fit
