-- Demand 3 on the small trace: a start and three calls, of which the second has too little room.
use Prim.Native.Nat.{ℕ}
use mathlib.Core.Path.{refl}
use mathlib.Core.Bool.{true, false}
use mathlib.Core.List.{List, [], ◌∷◌}
use Rattle.lxt_format.specs.Everything.{everything}
use Rattle.lxt_format.specs.Traces.{spelled, trace}
use Rattle.lxt_format.specs.declared.Pair.{Pair}
use Rattle.std.specs.Prelude.{Ok, Err}
use Rattle.lxt_format.specs.declared.refusal.Refusal.TheVariants.{Room}
use Rattle.lxt_chains.specs.Pending.{pair_of}
use Rattle.lxt_walk.specs.Calls.{Started, Made, Kept, Walked}
use Rattle.lxt_walk.proofs.Demand.{demand_3}

-- the record holds one pair more than the trace has facilities
abbrev record_of : ℕ → List Pair
record_of o = pair_of 0 o ∷ pair_of 7 7 ∷ []

abbrev three : List Made
three =
    record { size = 1; buffer = 9 ∷ 9 ∷ 9 ∷ []; answer = Ok (record { count = 1; done = false }); output = 0 ∷ 6 ∷ 9 ∷ []; left = record_of 4 }
    ∷ record { size = 2; buffer = 9 ∷ 9 ∷ 9 ∷ []; answer = Err Room; output = 9 ∷ 9 ∷ 9 ∷ []; left = record_of 4 }
    ∷ record { size = 2; buffer = 9 ∷ 9 ∷ 9 ∷ 9 ∷ []; answer = Ok (record { count = 1; done = true }); output = 0 ∷ 4 ∷ 9 ∷ 9 ∷ []; left = record_of 0 }
    ∷ []

started : Started trace (1 ∷ []) (pair_of 5 5 ∷ pair_of 7 7 ∷ []) (record_of 6)
unfolding everything trace spelled
started = record { answer = Ok tt; promised = (refl, refl); not_refused = refl }

kept : Kept trace (record_of 6) three (record_of 0)
unfolding everything trace spelled
kept =
    Kept.call (refl, (refl, refl))
    (Kept.call (refl, (refl, refl))
    (Kept.call (refl, (refl, refl)) Kept.none))

pub example : Walked trace (1 ∷ []) (record_of 6) three (record_of 0)
example = demand_3 trace (1 ∷ []) (pair_of 5 5 ∷ pair_of 7 7 ∷ []) (record_of 6) three (record_of 0) started kept
