use Rattle.lxt_changes.proofs.PaddingLaws.{symbols_inside, symbols_clean, others_clean}
use borrow.Author.Rules.{rules}
use Rattle.lxt_changes.proofs.padding.is_clean.Goals as goal

pub padding_clean-requires : goal.padding_clean-requires
padding_clean-requires c = ((search rules, search rules), (search rules, search symbols_inside))

pub returns-in-Bits : goal.returns-in-Bits
returns-in-Bits c = search symbols_clean

pub returns-in-Real : goal.returns-in-Real
returns-in-Real c = search others_clean
