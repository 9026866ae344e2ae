use mathlib.Core.Path.{refl}
use Rattle.lxt_changes.specs.Windows.{good_byte}
use Rattle.lxt_changes.proofs.symbols.good.Goals as goal

pub returns : goal.returns
unfolding good_byte
returns c = refl
