-- The laws of the search for a zero.
use Prim.Native.Nat.{ℕ, suc, ◌+◌, ◌-◌, ◌≤◌, ◌<◌, max}
use mathlib.Core.Path.{◌≡◌, refl}
use mathlib.Core.List.{List, ◌∷◌}
use lib.ListN.{length, take, drop_of_length-le}
use lib.Seq.{slice, slice-cons, length-take-le}
use native.Mathlib.Decide.{dec_le}
use native.Mathlib.Omega.{arith}
use Rattle.std.proofs.Math.Nat.{max-eq_left, max-eq_right}
use native.Mathlib.Numerals.{add-one}
use Rattle.lxt_format.specs.Bytes.{byte_at, to_zero}
use Rattle.lxt_format.specs.BytesLaws.{zero_later}

-- no zero stands from `from` up to p: the first one from p on is the first one from `from` on
pub record Passed (s : List ℕ) (from end p : ℕ) : Type 0 where
  pub fits : end ≤ length s
  pub within : from ≤ p
  pub left : p + to_zero (slice p end s) ≡ from + to_zero (slice from end s)

-- nothing is passed yet
pub none_passed : (s : List ℕ) (from end : ℕ) → end ≤ length s → Passed s from end from
none_passed s from end h = record { fits = h; within = omega arith; left = refl }

-- from `end` on there is nothing
pub nothing_left : (s : List ℕ) (end p : ℕ) → end ≤ length s → end ≤ p → to_zero (slice p end s) ≡ 0
unfolding to_zero
nothing_left s end p h l =
    let e : length (take end s) ≡ end = length-take-le end s h in
    let g : length (take end s) ≤ p = omega arith in
    rw (drop_of_length-le (take end s) g)

module _ (s : List ℕ) (from end p : ℕ) (w : Passed s from end p) where
  -- the end is met, or `from` lies above it
  pub none_met : end ≤ p → (from ≤ end → p ≤ end) → (m : ℕ) → m ≡ max from end → (m ≡ from + to_zero (slice from end s)) × (m - from ≤ end - from)
  none_met l u m h =
      let e = w.left in
      let z = nothing_left s end p w.fits l in
      let g = nothing_left s end from w.fits in
      elim (dec_le from end) [
        | yes r ↦ (let k : max from end ≡ end = max-eq_right r in (omega arith, omega arith))
        | no r ↦ (let q : end ≤ from = omega arith in let k : max from end ≡ from = max-eq_left q in (omega arith, omega arith))
      ]

  module _ (l : p < end) where
    -- the next byte, and those after it
    here : slice p end s ≡ byte_at s p ∷ slice (suc p) end s
    here = slice-cons p end s 0 l w.fits

    -- a zero is met
    pub zero_met : byte_at s p ≡ 0 → (p ≡ from + to_zero (slice from end s)) × (p - from ≤ end - from)
    unfolding to_zero
    zero_met e =
        let z : to_zero (slice p end s) ≡ 0 = rw (here, e) in
        let q = w.left in
        (omega arith, omega arith)

    -- one byte more is passed
    pub one_passed : (byte_at s p ≡ 0 → ⊥) → Passed s from end (p + 1)
    one_passed n =
        let z : to_zero (slice p end s) ≡ suc (to_zero (slice (suc p) end s)) = rw here (zero_later (byte_at s p) (slice (suc p) end s) n) in
        let q = w.left in
        let g = w.within in
        record { fits = w.fits; within = omega arith; left = rw (add-one p) (omega arith) }
