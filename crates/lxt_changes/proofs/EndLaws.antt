-- Where a text ends, against a bound below T.
use Prim.Native.Nat.{ℕ, zero, suc, ◌+◌, ◌-◌, ◌≤◌, ◌<◌}
use mathlib.Core.Path.{◌≡◌, sym, ap, ◌∙◌}
use mathlib.Core.List.{List}
use lib.ListN.{length}
use lib.Seq.{slice, slice-cons, slice_empty}
use lib.Dec.{leb, ltb, eqb}
use native.Mathlib.Omega.{arith}
use native.Mathlib.Nat.{add-zero}
use native.Mathlib.Decide.{dec_le}
use borrow.Author.Tests.{le-leb, lt-leb, lt-ltb, le-ltb}
use Rattle.lxt_format.specs.BasicsLaws.{on_test}
use Rattle.lxt_format.specs.Bytes.{byte_at, to_zero}

module _ (s : List ℕ) (end : ℕ) (fits : end ≤ length s) where
  -- of k bytes from `from` on, up to a bound: a zero among them is the first one up to the end of the text
  zero_among : (k from : ℕ) → from + k ≤ end → ltb (from + to_zero (slice from (from + k) s)) (from + k) ≡ leb (from + (to_zero (slice from end s) + 1)) (from + k)
  unfolding to_zero
  zero_among zero from h =
      rw (add-zero, slice_empty from s) (le-ltb (from + 0) from (omega arith) ∙ sym (lt-leb (from + (to_zero (slice from end s) + 1)) from (omega arith)))
  zero_among (suc k) from h =
      let here = slice-cons from (from + suc k) s 0 (omega arith) (omega arith) in
      let whole = slice-cons from end s 0 (omega arith) fits in
      let rest = zero_among k (suc from) (omega arith) in
      let bound : suc from + k ≡ from + suc k = omega arith in
      let moved : (z : ℕ) → from + suc z ≡ suc from + z = λ z. omega arith in
      let over : (z : ℕ) → from + (suc z + 1) ≡ suc from + (z + 1) = λ z. omega arith in
      on_test (eqb (byte_at s from) 0)
      (λ e. rw (here, whole, e) (lt-ltb (from + 0) (from + suc k) (omega arith) ∙ sym (le-leb (from + (0 + 1)) (from + suc k) (omega arith))))
      (λ e. rw (here, whole, e, moved, over) (rw bound at rest))

  -- so a zero stands before the bound exactly where the text ends at or below it
  pub before_bound : (from bound z : ℕ) → bound ≤ end → z ≡ from + to_zero (slice from bound s) → ltb z bound ≡ leb (from + (to_zero (slice from end s) + 1)) bound
  before_bound from bound z b e =
      elim (dec_le bound from) [
        | yes l ↦ le-ltb z bound (omega arith) ∙ sym (lt-leb (from + (to_zero (slice from end s) + 1)) bound (omega arith))
        | no n ↦ (let k : from + (bound - from) ≡ bound = omega arith in rw e (rw k at (zero_among (bound - from) from (omega arith))))
      ]

  zero_kept : (k from : ℕ) → from + k ≤ end → to_zero (slice from (from + k) s) < k → to_zero (slice from (from + k) s) ≡ to_zero (slice from end s)
  unfolding to_zero
  zero_kept zero from h l = absurd (omega arith)
  zero_kept (suc k) from h l =
      let here = slice-cons from (from + suc k) s 0 (omega arith) (omega arith) in
      let whole = slice-cons from end s 0 (omega arith) fits in
      let bound : suc from + k ≡ from + suc k = omega arith in
      let rest : to_zero (slice (suc from) (from + suc k) s) < k → to_zero (slice (suc from) (from + suc k) s) ≡ to_zero (slice (suc from) end s) =
      (rw bound at (zero_kept k (suc from) (omega arith))) in
      on_test (eqb (byte_at s from) 0)
      (λ e. rw (here, whole, e))
      (λ e. rw (here, whole, e) (ap suc (rest (let m = (rw (here, e) at l) in omega arith))))

  -- and the text is the same, read up to the bound
  pub same_text : (from bound : ℕ) → bound ≤ end → from + to_zero (slice from bound s) < bound → to_zero (slice from bound s) ≡ to_zero (slice from end s)
  same_text from bound b h =
      let k : from + (bound - from) ≡ bound = omega arith in
      (rw k at (zero_kept (bound - from) from (omega arith))) (omega arith)
