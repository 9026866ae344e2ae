use mathlib.Core.Path.{refl}
use native.Mathlib.Omega.{arith}
use Rattle.lxt_changes.proofs.CodeLaws.{small, last_within, wrong, even, odd, odd_wrong}
use Rattle.lxt_changes.proofs.symbols.codes_allowed.Goals as goal

pub returns-then-b-ne4 : goal.returns-then-b-ne4
returns-then-b-ne4 c = search small

pub all_good-requires : goal.all_good-requires
all_good-requires c =
    let pre = c.requires in
    (pre.0, (omega arith, (last_within _ _ _ _ _ pre.0 pre.1 c.if-b-ne4.false).0))

pub returns-in_err-seen : goal.returns-in_err-seen
returns-in_err-seen c = rw c.from_residual.ensures (wrong _ _ _ _ _ c.requires.0 c.requires.1 c.if-b-ne4.false _ refl c.in_err-seen.ensures)

pub returns-then-width-eq0 : goal.returns-then-width-eq0
returns-then-width-eq0 c = even _ _ _ _ _ c.requires.0 c.requires.1 c.if-b-ne4.false _ refl _ c.in_ok-seen.ensures c.if-width-eq0.true

pub bounds-file-last : goal.bounds-file-last
bounds-file-last c = (last_within _ _ _ _ _ c.requires.0 c.requires.1 c.if-b-ne4.false).1 c.if-width-eq0.false

pub returns-then-code-le8 : goal.returns-then-code-le8
returns-then-code-le8 c =
    odd _ _ _ _ _ c.requires.0 c.requires.1 c.if-b-ne4.false _ refl _ c.in_ok-seen.ensures c.if-width-eq0.false c.if-code-le8.true

pub returns : goal.returns
returns c =
    odd_wrong _ _ _ _ _ c.requires.0 c.requires.1 c.if-b-ne4.false _ refl _ c.in_ok-seen.ensures c.if-width-eq0.false c.if-code-le8.false
