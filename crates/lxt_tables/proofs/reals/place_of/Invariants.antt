use Prim.Native.Nat.{◌≤◌, ◌+◌, ◌-◌}
use mathlib.Core.Path.{◌≡◌}
use lib.ListN.{take, drop}
use Rattle.lxt_format.specs.Reals.{place_of}
use Rattle.lxt_tables.proofs.reals.place_of.Given as goal

abbrev pub invariant-loop-j : goal.invariant-loop-j
invariant-loop-j l = (l.j ≤ 8) × (l.j + place_of l.b (take (8 - l.j) (drop (l.at + l.j) l.file)) ≡ place_of l.b (take 8 (drop l.at l.file)))
