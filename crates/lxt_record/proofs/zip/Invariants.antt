use mathlib.Core.Path.{◌≡◌}
use Rattle.lxt_format.specs.Columns.{paired}
use Rattle.lxt_record.specs.Rooms.{over}
use Rattle.lxt_record.proofs.zip.Given as goal

abbrev pub invariant-loop-i : goal.invariant-loop-i
invariant-loop-i l = l.pairs ≡ over l.initial.pairs (paired l.numbers l.offsets) l.i
