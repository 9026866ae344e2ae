-- The changes of a trace as they are laid in the file: one after the other from offset 4 on.
use Prim.Native.Nat.{ℕ, ◌+◌, ◌≤◌}
use mathlib.Core.Path.{◌≡◌, refl}
use mathlib.Core.List.{List, [], ◌∷◌, ◌++◌, map}
use lib.ListN.{length, length-append}
use native.Mathlib.Omega.{arith}
use Rattle.lxt_format.specs.Basics.{joined}
use Rattle.lxt_format.specs.declared.Pair.{Pair}
use Rattle.lxt_chains.specs.Pending.{Each}
use Rattle.lxt_chains.proofs.Lists.{each_map}
use Rattle.lxt_written.specs.Input.{Facility, Change, Trace}
use Rattle.lxt_written.specs.WrittenChanges.{numbered, delta_to, Laid, pair_of, lay_at, lay_from, laid, changes_bytes}
use Rattle.lxt_written.specs.CommandLaws.{change_long}
use Rattle.lxt_round_trip.specs.Steps.{changes_end}

-- ---- changes in order

-- changes of at least 2 bytes each, one after the other from o up to e
pub data InOrder (e : ℕ) : ℕ → List Laid → Type 0 where
  none : InOrder e e []
  both : {o : ℕ} {l : Laid} {ls : List Laid} → l.offset ≡ o → 2 ≤ length l.bytes → InOrder e (o + length l.bytes) ls → InOrder e o (l ∷ ls)

-- a change that is laid has at least 2 bytes
laid_long : (facilities : List Facility) (o : ℕ) (before : List Pair) (c : Change) → 2 ≤ length (lay_at facilities o before c).bytes
unfolding lay_at
laid_long facilities o before c = change_long (numbered facilities c.facility).kind (delta_to c.facility o before) c.value

-- and its offset
pub laid_at_lem : (facilities : List Facility) (o : ℕ) (before : List Pair) (c : Change) → (lay_at facilities o before c).offset ≡ o
unfolding lay_at
laid_at_lem facilities o before c = refl

-- changes are laid in order
lay_order : (facilities : List Facility) (cs : List Change) (o : ℕ) (before : List Pair)
    → InOrder (o + length (joined (λ l. l.bytes) (lay_from facilities o before cs))) o (lay_from facilities o before cs)
unfolding lay_from joined
lay_order facilities [] o before = let e : o + 0 ≡ o = omega arith in rw e none
lay_order facilities (c ∷ cs) o before =
    let l : Laid = lay_at facilities o before c in
    let n : ℕ = length l.bytes in
    let rest = lay_order facilities cs (o + n) (pair_of l ∷ before) in
    let ls : List Laid = lay_from facilities (o + n) (pair_of l ∷ before) cs in
    let e : o + length (l.bytes ++ joined (λ l. l.bytes) ls) ≡ o + n + length (joined (λ l. l.bytes) ls) = omega (arith, length-append l.bytes (joined (λ l. l.bytes) ls)) in
    rw e (both (laid_at_lem facilities o before c) (laid_long facilities o before c) rest)

-- the changes of a trace are in order from 4 up to their end
pub laid_order : (t : Trace) → InOrder (changes_end t) 4 (laid t)
unfolding laid changes_bytes
laid_order t = lay_order t.facilities t.changes 4 []

-- what is in order up to e starts at or below it
order_below : {e o : ℕ} {ls : List Laid} → InOrder e o ls → o ≤ e
order_below none = omega arith
order_below (both p l rest) = let h = order_below rest in omega arith

-- each change starts at o or above, and ends at e or below
pub order_within : {e o : ℕ} {ls : List Laid} → InOrder e o ls → Each (λ l. (o ≤ l.offset) × (l.offset + length l.bytes ≤ e)) ls
order_within none = Each.none
order_within (both {l = x} p l rest) =
    let below = order_below rest in
    Each.both {x = x} (omega arith, omega arith) (each_map (λ x h. (omega arith, h.1)) (order_within rest))

-- each starts at 4 or above, and ends where the changes end or below
pub laid_within : (t : Trace) → Each (λ l. (4 ≤ l.offset) × (l.offset + length l.bytes ≤ changes_end t)) (laid t)
laid_within t = order_within (laid_order t)

-- ---- the times

-- changes keep their times
lay_times : (facilities : List Facility) (cs : List Change) (o : ℕ) (before : List Pair) → map (λ l. l.time) (lay_from facilities o before cs) ≡ map (λ c. c.time) cs
unfolding lay_from lay_at
lay_times facilities [] o before = refl
lay_times facilities (c ∷ cs) o before = rw (lay_times facilities cs _ _)

-- the times of the changes are those that were given
pub laid_times : (t : Trace) → map (λ l. l.time) (laid t) ≡ map (λ c. c.time) t.changes
unfolding laid
laid_times t = lay_times t.facilities t.changes 4 []
