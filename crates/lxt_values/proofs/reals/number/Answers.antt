use Rattle.lxt_values.proofs.RealLaws.{bits_of_nan, no_nan, bits_of_number}
use Rattle.lxt_values.proofs.reals.number.Goals as goal

pub returns-then-bits-gt-INFINITY : goal.returns-then-bits-gt-INFINITY
returns-then-bits-gt-INFINITY c = search bits_of_nan

pub float_from_bits-result : goal.float_from_bits-result
float_from_bits-result c = search no_nan

pub returns : goal.returns
returns c = search bits_of_number
