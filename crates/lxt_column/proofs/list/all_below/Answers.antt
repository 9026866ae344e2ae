use mathlib.Core.Path.{sym, ◌∙◌}
use lib.Dec.{ltb}
use Rattle.std.proofs.Common.{rules, tests}
use Rattle.std.proofs.lemmas.Iterator.{YieldsList-from_slice}
use Rattle.std.proofs.lemmas.Iterator.Search.{all_from_yields_List}
use Rattle.lxt_column.proofs.ListLaws.{all_list}
use Rattle.lxt_column.proofs.list.all_below.Goals as goal

pub returns : goal.returns
returns c =
    all_from_yields_List (λ f. ltb f c.args.n) _ _ c.all.result c.all.ensures.ran (YieldsList-from_slice c.args.facilities.now cc) (λ x b q k. search (rules, tests))
    ∙ sym (all_list _ _)
