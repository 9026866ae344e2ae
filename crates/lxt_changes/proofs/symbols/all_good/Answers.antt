use Rattle.lxt_changes.proofs.SymbolLaws.{low_bad, high_bad, grown}
use Rattle.lxt_changes.proofs.symbols.all_good.Goals as goal

pub returns-then-from-low : goal.returns-then-from-low
returns-then-from-low c = low_bad _ _ _ _ c.requires.0 c.if-to-w.false c.if-w-from.false _ c.good_from-low.ensures c.if-from-low.true

pub returns-then-w-high : goal.returns-then-w-high
returns-then-w-high c =
    high_bad _ _ _ _ c.requires.0 c.if-to-w.false c.if-w-from.false _
    c.good_from-low.ensures c.if-from-low.false _ c.good_from-high.ensures c.if-w-high.true

pub returns : goal.returns
returns c = search grown
