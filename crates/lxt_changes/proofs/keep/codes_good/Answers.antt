use native.Mathlib.Omega.{arith}
use Rattle.lxt_changes.proofs.KeepLaws.{codes_few, last_code, codes_pairs, codes_half}
use Rattle.lxt_changes.proofs.keep.codes_good.Goals as goal

pub returns-then-b-ne4 : goal.returns-then-b-ne4
returns-then-b-ne4 c = codes_few _ _ _ _ c.requires c.if-b-ne4.true

pub all_good-good-requires : goal.all_good-good-requires
all_good-good-requires c = (omega arith, (last_code _ _ _ _ c.requires c.if-b-ne4.false).0)

pub returns-then-width-eq0 : goal.returns-then-width-eq0
returns-then-width-eq0 c = codes_pairs _ _ _ _ c.requires c.if-b-ne4.false _ c.all_good-good.ensures c.if-width-eq0.true

pub bounds-file-last : goal.bounds-file-last
bounds-file-last c = (last_code _ _ _ _ c.requires c.if-b-ne4.false).1 c.if-width-eq0.false

pub returns : goal.returns
returns c = codes_half _ _ _ _ c.requires c.if-b-ne4.false _ c.all_good-good.ensures c.if-width-eq0.false
