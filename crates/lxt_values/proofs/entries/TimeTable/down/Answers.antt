use native.Mathlib.Omega.{arith}
use Rattle.lxt_values.proofs.EntryLaws.{above_zero, down_found, down_first, down_next}
use Rattle.lxt_values.proofs.entries.TimeTable.down.Goals as goal

pub loop-entry-init : goal.loop-entry-init
loop-entry-init c = c.requires

pub returns-then-entry-o : goal.returns-then-entry-o
returns-then-entry-o c =
    let inv = c.loop-entry.invariant in
    (inv, down_found _ _ _ c.args.self.wide c.args.self.there (omega (arith, inv.here.within, c.args.self.there.count)) _ _ _ _ inv c.if-entry-o.true)

pub preceding-entry-requires : goal.preceding-entry-requires
preceding-entry-requires c = (c.loop-entry.invariant.here, above_zero _ _ c.loop-entry-test.true)

pub loop-entry-smaller : goal.loop-entry-smaller
loop-entry-smaller c = omega (arith, c.preceding-entry.ensures.1)

pub loop-entry-preserved : goal.loop-entry-preserved
loop-entry-preserved c =
    let inv = c.loop-entry.invariant in
    down_next _ _ _ c.args.self.wide c.args.self.there (omega (arith, inv.here.within, c.args.self.there.count)) _ _ _ _ inv c.if-entry-o.false _ _ _ c.preceding-entry.ensures.0 c.preceding-entry.ensures.1

pub returns : goal.returns
returns c =
    let inv = c.loop-entry.invariant in
    (inv, down_first _ _ _ c.args.self.wide c.args.self.there (omega (arith, inv.here.within, c.args.self.there.count)) _ _ _ _ inv c.loop-entry-test.false)
