use Rattle.lxt_print.proofs.TextLaws.{digit_low, digit_high}
use Rattle.lxt_print.proofs.text.hex_digit.Goals as goal

pub returns-then-d-lt10 : goal.returns-then-d-lt10
returns-then-d-lt10 c = search digit_low

pub returns-else-d-lt10 : goal.returns-else-d-lt10
returns-else-d-lt10 c = search digit_high
