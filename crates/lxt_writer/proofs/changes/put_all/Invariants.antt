use Rattle.lxt_writer.specs.Changes.{Writing}
use Rattle.lxt_writer.proofs.changes.put_all.Given as goal

abbrev pub invariant-loop-row : goal.invariant-loop-row
invariant-loop-row l = Writing l.facilities l.changes l.values l.initial.out l.positions l.gap l.row-index l.at l.e l.last l.out
