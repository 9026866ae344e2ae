use Rattle.lxt_pack.proofs.PackLaws.{four_coded}
use native.Mathlib.Omega.{arith}
use Rattle.lxt_pack.proofs.symbols.code_of_four.Goals as goal

pub returns : goal.returns
returns c = rw c.from.ensures (four_coded _ c.ranges.symbol.fits, omega arith)
