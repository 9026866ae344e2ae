use Rattle.lxt_tables.proofs.AliasLaws.{Putting}
use Rattle.lxt_tables.proofs.geometry.GeometryTable.put_roots.Given as goal

abbrev pub invariant-loop-f : goal.invariant-loop-f
invariant-loop-f l = Putting l.self.file.now l.self.count l.initial.roots l.f l.roots
