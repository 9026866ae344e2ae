use Rattle.lxt_values.specs.Entries.{Latest}
use Rattle.lxt_values.proofs.entries.TimeTable.down.Given as goal

abbrev pub invariant-loop-entry : goal.invariant-loop-entry
invariant-loop-entry l = Latest l.self.file.now l.o l.entry.number l.entry.position l.entry.time

abbrev pub decreases-loop-entry : goal.decreases-loop-entry
decreases-loop-entry l = l.entry.number
