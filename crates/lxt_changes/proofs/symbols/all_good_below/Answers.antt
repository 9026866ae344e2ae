use Rattle.lxt_changes.proofs.SymbolLaws.{below_bad, below_apart, below_joined}
use Rattle.lxt_changes.proofs.symbols.all_good_below.Goals as goal

pub returns-then-from-low : goal.returns-then-from-low
returns-then-from-low c = search below_bad

pub returns-then-high-w : goal.returns-then-high-w
returns-then-high-w c = search below_apart

pub returns : goal.returns
returns c = search below_joined
