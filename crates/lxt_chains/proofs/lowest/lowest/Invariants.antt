use Prim.Native.Nat.{◌-◌}
use Rattle.lxt_chains.specs.Reading.{Between}
use Rattle.lxt_chains.proofs.lowest.lowest.Given as goal

abbrev pub invariant-loop-b : goal.invariant-loop-b
invariant-loop-b l = Between l.file l.c.facilities l.b.low l.b.high

abbrev pub decreases-loop-b : goal.decreases-loop-b
decreases-loop-b l = l.b.high - l.b.low
