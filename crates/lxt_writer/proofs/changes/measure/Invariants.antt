use Rattle.lxt_writer.specs.Changes.{Measuring}
use Rattle.lxt_writer.proofs.changes.measure.Given as goal

abbrev pub invariant-loop-row : goal.invariant-loop-row
invariant-loop-row l = Measuring l.facilities l.changes l.values l.row-index l.at l.time l.entries l.last
