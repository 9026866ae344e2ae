use mathlib.Core.Path.{◌≡◌}
use Rattle.lxt_format.specs.Columns.{numbers_in, offsets_in}
use Rattle.lxt_record.specs.Rooms.{over}
use Rattle.lxt_record.proofs.unzip.Given as goal

abbrev pub invariant-loop-i : goal.invariant-loop-i
invariant-loop-i l = record {
  numbers_so_far : l.numbers ≡ over l.initial.numbers (numbers_in l.pairs) l.i;
  offsets_so_far : l.offsets ≡ over l.initial.offsets (offsets_in l.pairs) l.i;
}
