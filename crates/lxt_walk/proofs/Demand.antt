-- Demand 3, proved: "This is a single claim about the list of calls, not one for each call." The claim and its words stand in specs/Calls.
use Prim.Native.Nat.{ℕ}
use native.Mathlib.Omega.{arith}
use native.Mathlib.Decide.{ℕ_discrete}
use mathlib.Core.Path.{◌≡◌, sym, ◌∙◌}
use mathlib.Core.List.{List}
use lib.ListN.{length}
use Rattle.lxt_format.specs.Basics.{given}
use Rattle.lxt_format.specs.BasicsLaws.{answer_refused}
use Rattle.lxt_format.specs.Questions.{start_refusal, start_asked}
use Rattle.lxt_walk.specs.Calls.{Demand3}
use Rattle.lxt_walk.proofs.Telling.{walked}

-- a start that answered was not refused
start_given : (s asked : List ℕ) (room : ℕ) → start_asked s asked room ≡ given tt → start_refusal s asked room ≡ 0
unfolding start_asked
start_given s asked room h =
    elim (ℕ_discrete (start_refusal s asked room) 0) [
      | yes e ↦ e
      | no n ↦ (let z = sym (answer_refused (start_refusal s asked room) tt n) ∙ h in let one : ◌≡◌ {A = ℕ} 0 1 = cc z in absurd (omega arith))
    ]

-- any list of calls after a start tells the full list
pub demand_3 : Demand3
demand_3 s asked before started calls end b k =
    let ok = start_given s asked (length before) (sym b.promised.0 ∙ b.not_refused) in
    let leaves = b.promised.1 in
    rw leaves (walked s asked before ok (rw leaves at k))
