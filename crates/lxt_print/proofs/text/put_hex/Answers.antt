use native.Mathlib.Omega.{arith}
use lib.ListN.{length-set}
use Rattle.lxt_print.proofs.TextLaws.{spell_begun, spell_turn, spell_ended}
use Rattle.lxt_print.proofs.text.put_hex.Goals as goal

pub loop-b-init : goal.loop-b-init
loop-b-init c = search spell_begun

pub hex_digit-requires : goal.hex_digit-requires
hex_digit-requires c = omega arith

pub bounds-out-p-in-loop-b : goal.bounds-out-p-in-loop-b
bounds-out-p-in-loop-b c = simp length-set (omega arith)

pub loop-b-preserved : goal.loop-b-preserved
loop-b-preserved c = search spell_turn

pub returns : goal.returns
returns c = spell_ended _ _ _ _ _ _ c.loop-b.invariant c.loop-b-test.false
