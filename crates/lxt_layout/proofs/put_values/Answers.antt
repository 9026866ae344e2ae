use native.Mathlib.Omega.{arith}
use Rattle.lxt_layout.proofs.LayoutLaws.{values_test, values_plain}
use Rattle.lxt_layout.proofs.put_values.Goals as goal

pub put_test-requires : goal.put_test-requires
put_test-requires c = omega (arith, rw c.if-real.true at c.requires, c.put_pair.auto)

pub returns-then-real : goal.returns-then-real
returns-then-real c =
    values_test c.args.timescale c.ranges.timescale c.args.out.now _ c.args.at c.args.initial _
    c.put_pair.ensures _ c.requires c.if-real.true c.put_test.ensures

pub returns-else-real : goal.returns-else-real
returns-else-real c =
    values_plain c.args.timescale c.ranges.timescale c.args.out.now _ c.args.at c.args.initial _
    c.put_pair.ensures c.if-real.false
