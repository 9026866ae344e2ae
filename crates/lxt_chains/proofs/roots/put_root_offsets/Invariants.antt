use Rattle.lxt_chains.specs.Reading.{root_offset}
use Rattle.lxt_chains.proofs.TreeLaws.{Filled}
use Rattle.lxt_chains.proofs.roots.put_root_offsets.Given as goal

abbrev pub invariant-loop-f : goal.invariant-loop-f
invariant-loop-f l = Filled (root_offset l.file) l.c.facilities l.m l.f l.nodes
