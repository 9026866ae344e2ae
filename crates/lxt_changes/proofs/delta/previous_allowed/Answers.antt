use native.Mathlib.Omega.{arith}
use Rattle.lxt_changes.proofs.DeltaLaws.{number_fits, refused, allowed}
use borrow.Author.Rules.{rules}
use Rattle.lxt_changes.proofs.delta.previous_allowed.Goals as goal

pub number-delta-requires : goal.number-delta-requires
number-delta-requires c = (search rules, search number_fits)

pub returns-in_default : goal.returns-in_default
returns-in_default c = refused _ _ _ _ c.size_of-size.ensures.0 c.number-delta.ensures (omega (arith, c.in_default.ensures)) _

pub returns : goal.returns
returns c =
    rw c.in-Some.ensures.1 (allowed _ _ _ _ c.size_of-size.ensures.0 c.number-delta.ensures c.in-Some.ensures.0 _)
