use Prim.Native.Nat.{◌≤◌}
use mathlib.Core.Path.{◌≡◌}
use Rattle.lxt_format.specs.Basics.{any}
use Rattle.lxt_format.specs.Geometry.{roots_of}
use Rattle.lxt_tables.proofs.RootsLaws.{any_root, synced}
use Rattle.lxt_tables.proofs.geometry.GeometryTable.any_sync.Given as goal

abbrev pub invariant-loop-f : goal.invariant-loop-f
invariant-loop-f l = (l.f ≤ l.self.count) × (any_root l.self.file.now (synced l.self.file.now) l.f l.self.count ≡ any (synced l.self.file.now) (roots_of l.self.file.now))
