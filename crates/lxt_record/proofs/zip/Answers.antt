use native.Mathlib.Omega.{arith}
use lib.ListN.{length}
use Prim.Native.Nat.{◌<◌}
use Rattle.lxt_record.proofs.Lists.{pairs_turn}
use Rattle.lxt_record.proofs.zip.Goals as goal

pub loop-i-preserved : goal.loop-i-preserved
loop-i-preserved c =
    let i = c.loop-i.i in
    let some = c.loop-i-test.true in
    let of_pairs : i < length c.args.pairs.now = omega (arith, c.requires.0, some) in
    let of_numbers : i < length c.args.numbers.now = omega (arith, c.requires.1, some) in
    let of_offsets : i < length c.args.offsets.now = omega (arith, c.requires.2, some) in
    pairs_turn c.args.pairs.now c.loop-i.pairs c.args.numbers.now c.args.offsets.now i c.loop-i.invariant of_pairs of_numbers of_offsets
