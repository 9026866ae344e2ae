use Prim.Native.Nat.{◌+◌, ◌-◌, ◌≤◌, ◌<◌}
use mathlib.Core.Path.{◌≡◌}
use native.Mathlib.Omega.{arith}
use Rattle.lxt_values.proofs.NameLaws.{none_read, still_coming, one_read, name_length, name_held}
use Rattle.lxt_values.proofs.names.expand.Goals as goal

pub loop-i-init : goal.loop-i-init
loop-i-init c = let e : c.args.f + 1 - 0 ≡ c.args.f + 1 = omega arith in rw e (search none_read)

pub next-c-requires : goal.next-c-requires
next-c-requires c = still_coming _ _ _ _ _ _ _ _ _ _ _ c.loop-i.invariant (omega arith)

pub loop-i-preserved : goal.loop-i-preserved
loop-i-preserved c =
    let e : c.args.f + 1 - (c.loop-i._i + 1) ≡ c.args.f + 1 - c.loop-i._i - 1 = omega arith in
    let more : 0 < c.args.f + 1 - c.loop-i._i = omega arith in
    rw e (search one_read)

pub returns : goal.returns
returns c =
    let none : c.args.f + 1 - c.loop-i._i ≤ 0 = omega arith in
    (search name_length, search name_held)
