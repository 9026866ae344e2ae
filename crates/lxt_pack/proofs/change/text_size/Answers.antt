use mathlib.Core.Path.{sym, ap, ◌∙◌}
use mathlib.Core.Bool.{not}
use native.Mathlib.Omega.{arith}
use Rattle.lxt_pack.proofs.PartLaws.{none_zero}
use Rattle.lxt_pack.proofs.SizeLaws.{text_given, text_none}
use Rattle.lxt_pack.proofs.change.text_size.Goals as goal

pub returns-then-not-contains : goal.returns-then-not-contains
returns-then-not-contains c =
    let none = ap not c.contains.ensures.value ∙ none_zero c.args.value.now in
    record { is = text_given _ (sym none ∙ ap not c.if-not-contains.true); most = omega arith }

pub returns : goal.returns
returns c =
    let none = ap not c.contains.ensures.value ∙ none_zero c.args.value.now in
    record { is = text_none _ (sym none ∙ ap not c.if-not-contains.false); most = tt }
