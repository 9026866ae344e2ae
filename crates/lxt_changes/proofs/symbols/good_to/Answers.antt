use Rattle.lxt_changes.proofs.SymbolLaws.{begun_up, stopped_up, ended_up, turned_up}
use Rattle.lxt_changes.proofs.symbols.good_to.Goals as goal

pub loop-p-init : goal.loop-p-init
loop-p-init c = search begun_up

pub returns-then-not-good : goal.returns-then-not-good
returns-then-not-good c = search stopped_up

pub loop-p-preserved : goal.loop-p-preserved
loop-p-preserved c = search turned_up

pub returns : goal.returns
returns c = search ended_up
