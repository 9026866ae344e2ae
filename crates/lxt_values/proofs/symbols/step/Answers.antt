use Rattle.lxt_values.proofs.SymbolLaws.{some_bits}
use Rattle.lxt_values.proofs.StepLaws.{step_done}
use Rattle.lxt_values.proofs.symbols.step.Goals as goal

pub nonzero_div-b : goal.nonzero_div-b
nonzero_div-b c = search some_bits

pub returns : goal.returns
returns c = search step_done
