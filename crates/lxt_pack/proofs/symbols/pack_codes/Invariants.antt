use Rattle.lxt_pack.proofs.PackLaws.{Counting}
use Rattle.lxt_pack.proofs.symbols.pack_codes.Given as goal

abbrev pub invariant-loop-j : goal.invariant-loop-j
invariant-loop-j g l = Counting l.value g.row.B l.initial.out l.at l.out l.j
