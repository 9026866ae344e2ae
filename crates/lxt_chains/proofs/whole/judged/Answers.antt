use Rattle.lxt_chains.specs.Reading.{examined_of}
use Rattle.lxt_chains.proofs.WholeWays.{tables_refused, chains_refused, accepted, none_passed, some_passed}
use Rattle.lxt_chains.proofs.whole.judged.Goals as goal

pub returns-in-Err : goal.returns-in-Err
returns-in-Err c = (tables_refused _ (examined_of c.args.file.now) _ c.in-Err.ensures, none_passed _ _ c.in-Err.ensures)

pub returns-in-Ok-chains_outcome : goal.returns-in-Ok-chains_outcome
returns-in-Ok-chains_outcome c = accepted _ _ c.in-Ok.ensures _ _ c.in-Ok-chains_outcome.ensures

pub returns-in-Err-chains_outcome : goal.returns-in-Err-chains_outcome
returns-in-Err-chains_outcome c =
    (chains_refused _ _ c.in-Ok.ensures (examined_of c.args.file.now) _ _ c.in-Err-chains_outcome.ensures, some_passed _ _ c.in-Ok.ensures)
