use native.Mathlib.Omega.{arith}
use lib.ListN.{get_or}
use mir.Val.{Fits}
use mir.Syntax.{w32}
use mathlib.Core.Path.{refl}
use borrow.Author.Rules.{rules}
use Rattle.lxt_writer.proofs.changes.facility_of.Goals as goal

pub returns : goal.returns
returns c = let a : Fits w32 (get_or c.args.row 0 0) = search rules in (refl, omega arith)
