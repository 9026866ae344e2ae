use lib.ListN.{drop}
use Rattle.lxt_format.specs.Bytes.{numbers_at}
use Rattle.lxt_format.specs.Sections.{time_bytes}
use Rattle.lxt_tables.specs.Asked.{rises_to}
use Rattle.lxt_tables.proofs.TimesLaws.{Summing}
use Rattle.lxt_tables.proofs.times.sums_allowed.Given as goal

abbrev pub invariant-loop-i : goal.invariant-loop-i
invariant-loop-i l = Summing l.file (time_bytes l.wide) l.m l.at l.high (rises_to l.high l.first (drop 1 (numbers_at (time_bytes l.wide) l.m l.file l.at))) l.i l.sum
