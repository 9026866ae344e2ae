use native.Mathlib.Omega.{arith}
use Rattle.lxt_changes.proofs.KeepLaws.{symbols_far, data_inside, data_here, symbols_wrong, symbols_told}
use Rattle.lxt_changes.proofs.keep.symbols_keep.Goals as goal

pub returns-then-end-to : goal.returns-then-end-to
returns-then-end-to c = search symbols_far

pub codes_good-requires : goal.codes_good-requires
codes_good-requires c = let pre = c.requires in data_here _ _ _ _ _ c.symbols_end-to.ensures c.if-end-to.false _ _ c.size_of-b.ensures.0 c.data_at-at.ensures.0 pre.0.0 pre.0.1 pre.1.1

pub padding_clean-requires : goal.padding_clean-requires
padding_clean-requires c = let pre = c.requires in let place = c.data_at-at.ensures in ((c.size_of-b.ensures.1, pre.0.1), (omega (arith, place.1.0), data_inside _ _ _ _ _ c.symbols_end-to.ensures c.if-end-to.false _ _ c.size_of-b.ensures.0 place.0 pre.1.1))

pub returns-then-not-codes_good : goal.returns-then-not-codes_good
returns-then-not-codes_good c = symbols_wrong _ _ _ _ _ c.symbols_end-to.ensures c.if-end-to.false _ _ c.size_of-b.ensures.0 c.data_at-at.ensures.0 _ c.codes_good.ensures c.if-not-codes_good.true

pub returns : goal.returns
returns c = symbols_told _ _ _ _ _ c.symbols_end-to.ensures c.if-end-to.false _ _ c.size_of-b.ensures.0 c.data_at-at.ensures.0 _ c.codes_good.ensures c.if-not-codes_good.false _ c.padding_clean.ensures
