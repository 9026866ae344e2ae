use Rattle.lxt_values.proofs.ByteLaws.{four_fit, four_is}
use Rattle.lxt_values.proofs.symbols.four_of.Goals as goal

pub overflow_add-result : goal.overflow_add-result
overflow_add-result c = record { fits = rw c.from.ensures (four_fit c.args.byte).first }

pub overflow_mul-result : goal.overflow_mul-result
overflow_mul-result c = record { fits = rw c.from.ensures (four_fit c.args.byte).product }

pub overflow_add-result-2 : goal.overflow_add-result-2
overflow_add-result-2 c = record { fits = rw c.from.ensures (four_fit c.args.byte).sum }

pub overflow_mul-result-2 : goal.overflow_mul-result-2
overflow_mul-result-2 c = record { fits = rw c.from.ensures (four_fit c.args.byte).less }

pub overflow_sub-result : goal.overflow_sub-result
overflow_sub-result c = rw c.from.ensures (four_fit c.args.byte).below

pub returns : goal.returns
returns c = rw c.from.ensures (four_is c.args.byte c.ranges.byte.fits)
