use Prim.Native.Nat.{◌≤◌}
use mathlib.Core.Path.{◌≡◌}
use Rattle.lxt_format.specs.Reals.{has_real}
use Rattle.lxt_tables.proofs.RootsLaws.{any_root}
use Rattle.lxt_tables.proofs.RealsLaws.{real_root}
use Rattle.lxt_tables.proofs.geometry.GeometryTable.has_real.Given as goal

abbrev pub invariant-loop-f : goal.invariant-loop-f
invariant-loop-f l = (l.f ≤ l.self.count) × (any_root l.self.file.now (real_root l.self.file.now) l.f l.self.count ≡ has_real l.self.file.now)
