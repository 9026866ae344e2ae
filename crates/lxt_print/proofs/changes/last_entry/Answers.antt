use native.Mathlib.Omega.{arith}
use Rattle.lxt_print.proofs.StepLaws.{no_entries, last_is}
use Rattle.lxt_print.proofs.ValueLaws.{times_there}
use Rattle.lxt_print.proofs.changes.last_entry.Goals as goal

pub returns-then-t-eq0 : goal.returns-then-t-eq0
returns-then-t-eq0 c = no_entries _ _ c.requires c.if-t-eq0.true _

pub new-times-requires : goal.new-times-requires
new-times-requires c = times_there _ _ c.requires

pub last-requires : goal.last-requires
last-requires c = omega (arith, c.new-times.ensures.place.1.0, c.if-t-eq0.false)

pub returns : goal.returns
returns c = last_is _ _ c.requires _ (rw c.new-times.ensures.same_file at c.last.ensures.0) (rw c.new-times.ensures.place.1.0 at c.last.ensures.1)
