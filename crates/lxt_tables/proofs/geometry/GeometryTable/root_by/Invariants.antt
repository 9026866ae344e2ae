use Prim.Native.Nat.{◌-◌}
use mathlib.Core.Path.{◌≡◌}
use Rattle.lxt_format.specs.Geometry.{root_within, root_of}
use Rattle.lxt_tables.proofs.geometry.GeometryTable.root_by.Given as goal

abbrev pub invariant-loop-i : goal.invariant-loop-i
invariant-loop-i l = (root_within (l.n - l._i) l.self.file.now l.at ≡ root_of l.self.file.now l.f) × (root_of l.self.file.now l.at ≡ root_of l.self.file.now l.f)
