use Prim.Native.Nat.{◌≤◌, ◌-◌}
use mathlib.Core.Path.{◌≡◌}
use Rattle.lxt_format.specs.Basics.{range, all}
use Rattle.lxt_format.specs.Geometry.{geometry_allowed, geometries_allowed}
use Rattle.lxt_tables.proofs.geometry.GeometryTable.all_allowed.Given as goal

abbrev pub invariant-loop-f : goal.invariant-loop-f
invariant-loop-f l = (l.f ≤ l.self.count) × (all (geometry_allowed l.self.file.now) (range l.f (l.self.count - l.f)) ≡ geometries_allowed l.self.file.now)
