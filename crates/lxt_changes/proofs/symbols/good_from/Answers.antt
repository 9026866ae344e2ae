use native.Mathlib.Omega.{arith}
use Prim.Native.Nat.{◌≤◌}
use Rattle.lxt_changes.proofs.SymbolLaws.{all_scanned, begun, stopped, ended, turned}
use Rattle.lxt_changes.proofs.symbols.good_from.Goals as goal

pub returns-then-all_good : goal.returns-then-all_good
returns-then-all_good c =
    let some : c.args.from ≤ c.args.to = omega (arith, c.saturating_sub.ensures, c.if-saturating_sub-ge-MANY.true) in
    all_scanned _ _ _ some _ c.all_good.ensures c.if-all_good.true

pub loop-p-init : goal.loop-p-init
loop-p-init c = search begun

pub returns-then-not-good : goal.returns-then-not-good
returns-then-not-good c = search stopped

pub loop-p-preserved : goal.loop-p-preserved
loop-p-preserved c = search turned

pub returns : goal.returns
returns c = search ended
