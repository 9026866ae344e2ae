use Rattle.lxt_tables.proofs.WayLaws.{passing}
use Rattle.lxt_tables.proofs.AliasLaws.{Storing, unknown}
use Rattle.lxt_tables.proofs.geometry.GeometryTable.put_root.Given as goal

abbrev pub invariant-loop-roots : goal.invariant-loop-roots
invariant-loop-roots l = Storing l.self.file.now l.self.count l.f l.root l.initial.roots l.at l.roots

abbrev pub decreases-loop-roots : goal.decreases-loop-roots
decreases-loop-roots l = passing (unknown l.self.count l.roots) l.self.count
