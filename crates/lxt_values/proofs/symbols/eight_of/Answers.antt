use Rattle.lxt_values.proofs.ByteLaws.{eight_fits, eight_is}
use Rattle.lxt_values.proofs.symbols.eight_of.Goals as goal

pub overflow_add-codes : goal.overflow_add-codes
overflow_add-codes c = record { fits = rw c.from.ensures (eight_fits c.args.byte).0 }

pub overflow_add-result : goal.overflow_add-result
overflow_add-result c = record { fits = rw c.from.ensures (eight_fits c.args.byte).1 }

pub returns : goal.returns
returns c = rw c.from.ensures (eight_is c.args.byte c.ranges.byte.fits)
