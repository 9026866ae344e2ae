use native.Mathlib.Omega.{arith}
use mathlib.Core.Path.{sym, ◌∙◌}
use Rattle.lxt_pack.proofs.SizeLaws.{integer_long, integer_none, integer_same, integer_mixed}
use Rattle.lxt_pack.proofs.change.integer_size.Goals as goal

pub returns-then-value-ne32 : goal.returns-then-value-ne32
returns-then-value-ne32 c = record { is = search integer_long; most = tt }

pub returns-then-seen-2 : goal.returns-then-seen-2
returns-then-seen-2 c =
    let seen = c.look-seen.ensures in
    record { is = integer_same _ c.if-value-ne32.false (sym seen.1 ∙ c.if-seen.true) (sym seen.0 ∙ c.if-seen-2.true); most = omega arith }

pub returns-then-seen : goal.returns-then-seen
returns-then-seen c =
    let seen = c.look-seen.ensures in
    record { is = integer_mixed _ c.if-value-ne32.false (sym seen.1 ∙ c.if-seen.true) (sym seen.0 ∙ c.if-seen-2.false); most = omega arith }

pub returns : goal.returns
returns c =
    let seen = c.look-seen.ensures in
    record { is = integer_none _ c.if-value-ne32.false (sym seen.1 ∙ c.if-seen.false); most = tt }
