use Rattle.lxt_values.proofs.NameLaws.{next_bounds, next_read}
use native.Mathlib.Omega.{arith}
use Rattle.lxt_values.proofs.names.next.Goals as goal

pub be16-prefix-requires : goal.be16-prefix-requires
be16-prefix-requires c = omega (arith, next_bounds _ _ _ _ _ _ c.requires.0 c.requires.1, c.requires.0.inside)

pub copy_part-requires : goal.copy_part-requires
copy_part-requires c = omega (arith, next_bounds _ _ _ _ _ _ c.requires.0 c.requires.1, c.requires.0.inside, c.requires.0.room)

pub returns : goal.returns
returns c = search next_read
