use mir.Syntax.{w64}
use mir.ValLaws.{to_z-of_z}
use mathlib.Core.Path.{◌∙◌}
use native.Mathlib.Omega.{arith}
use Rattle.lxt_values.proofs.TimeLaws.{no_entry, time_of_last, time_found}
use Rattle.lxt_values.proofs.entries.TimeTable.time_of.Goals as goal

pub returns-then-self-eq0 : goal.returns-then-self-eq0
returns-then-self-eq0 c = no_entry _ _ _ c.args.self.wide c.args.self.there c.if-self-eq0.true _

pub first-e-requires : goal.first-e-requires
first-e-requires c = omega (arith, c.if-self-eq0.false)

pub loop-number-init : goal.loop-number-init
loop-number-init c = (c.first-e.ensures.0, (λ h. absurd (omega (arith, c.first-e.ensures.1)), omega (arith, c.first-e.ensures.1)))

pub following-next-requires : goal.following-next-requires
following-next-requires c = (c.loop-number.invariant.0, omega (arith, c.loop-number.invariant.1.1))

pub returns-then-o-next : goal.returns-then-o-next
returns-then-o-next c =
    let inv = c.loop-number.invariant in
    to_z-of_z w64 _ (record { sfits = c.without_bias.type_inv })
    ∙ (c.without_bias.ensures
    ∙ time_found _ _ _ c.args.self.wide c.args.self.there (omega (arith, c.if-self-eq0.false)) _ _ _ _ inv.0 inv.1.0 _ _ _ c.following-next.ensures.0 c.following-next.ensures.1 c.if-o-next.true)

pub loop-number-preserved : goal.loop-number-preserved
loop-number-preserved c = (c.following-next.ensures.0, (λ h. c.if-o-next.false, omega (arith, c.following-next.ensures.1, c.loop-number.invariant.1.1)))

pub returns : goal.returns
returns c =
    let inv = c.loop-number.invariant in
    to_z-of_z w64 _ (record { sfits = c.without_bias-2.type_inv })
    ∙ (c.without_bias-2.ensures ∙ time_of_last _ _ _ c.args.self.wide c.args.self.there (omega (arith, c.if-self-eq0.false)) _ _ _ _ inv.0 inv.1.0 (omega (arith, inv.1.1)))
