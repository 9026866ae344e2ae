use borrow.Author.Rules.{rules}
use Rattle.lxt_print.proofs.BeginLaws.{blank}
use Rattle.lxt_print.proofs.printing.plant.Goals as goal

pub start-requires : goal.start-requires
start-requires c = (search rules, (search rules, blank _ _ _ c.requires.1.1 (c.fill.ensures.after (λ y e. e))))
