use Prim.Native.Nat.{◌≤◌, ◌-◌}
use mathlib.Core.Path.{◌≡◌}
use Rattle.lxt_format.specs.Basics.{range, all}
use Rattle.lxt_tables.proofs.AliasLaws.{own}
use Rattle.lxt_tables.proofs.geometry.GeometryTable.none_is_alias.Given as goal

abbrev pub invariant-loop-f : goal.invariant-loop-f
invariant-loop-f l = (l.f ≤ l.self.count) × (all (own l.self.file.now) (range l.f (l.self.count - l.f)) ≡ all (own l.self.file.now) (range 0 l.self.count))
