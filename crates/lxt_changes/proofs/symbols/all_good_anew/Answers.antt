use Rattle.lxt_changes.proofs.SymbolLaws.{anew, anew_bad}
use Rattle.lxt_changes.proofs.symbols.all_good_anew.Goals as goal

pub returns-then-from-low : goal.returns-then-from-low
returns-then-from-low c = search anew_bad

pub returns : goal.returns
returns c = search anew
