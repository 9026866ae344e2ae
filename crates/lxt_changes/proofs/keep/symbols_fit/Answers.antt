use Rattle.lxt_changes.proofs.KeepLaws.{fit_is}
use Rattle.lxt_changes.proofs.keep.symbols_fit.Goals as goal

pub returns : goal.returns
returns c = search fit_is
