-- What is read of the written bytes of a text.
use Prim.Native.Nat.{ℕ, zero, suc, ◌+◌, ◌-◌, ◌≤◌, ◌<◌}
use mathlib.Core.Path.{◌≡◌, sym, ◌∙◌}
use mathlib.Core.Bool.{true, not}
use mathlib.Core.List.{List, [], ◌∷◌, ◌++◌}
use lib.ListN.{length, get_or, take, length-append, get_or-append}
use lib.Seq.{slice, length-slice, get_or-drop, get_or-take, get_or-append_seam}
use lib.Dec.{eqb}
use native.Mathlib.Omega.{arith}
use native.Mathlib.Decide.{dec_le}
use borrow.Author.Tests.{eqb-false, not-true}
use Rattle.lxt_format.specs.Basics.{all}
use Rattle.lxt_format.specs.BasicsLaws.{and_both}
use Rattle.lxt_format.specs.Bytes.{to_zero}
use Rattle.lxt_format.specs.BytesLaws.{at_zero, zero_bounds}
use Rattle.lxt_written.specs.Writing.{no_zero}
use Rattle.lxt_written.specs.Stands.{Stands, stands_front, stands_slice}

-- no byte of an allowed text is 0
not_zero : (value : List ℕ) → no_zero value ≡ true → (i : ℕ) → i < length value → get_or value i 0 ≡ 0 → ⊥
unfolding no_zero all
not_zero [] h i l e = omega arith
not_zero (x ∷ l) h zero k e = eqb-false x 0 (not-true (eqb x 0) (and_both (not (eqb x 0)) (all (λ b. not (eqb b 0)) l) h).0) e
not_zero (x ∷ l) h (suc i) k e = not_zero l (and_both (not (eqb x 0)) (all (λ b. not (eqb b 0)) l) h).1 i (omega arith) e

-- a text that stands at o, with its zero
module _ (s : List ℕ) (o T : ℕ) (value : List ℕ) (allowed : no_zero value ≡ true) (there : Stands s o (value ++ (0 ∷ [])))
    (inside : o + length value + 1 ≤ T) (in-file : T ≤ length s) where
  -- the bytes up to T, one by one
  upto : (i : ℕ) → i < length value + 1 → get_or (slice o T s) i 0 ≡ get_or (value ++ (0 ∷ [])) i 0
  upto i l =
      let long = length-append value (0 ∷ []) in
      let m : o + i < T = omega arith in
      get_or-drop o (take T s) i 0 ∙ get_or-take T s (o + i) 0 m ∙ there.same i (omega arith)

  -- its zero is the first
  pub text_length : to_zero (slice o T s) ≡ length value
  text_length =
      let l : List ℕ = slice o T s in
      let long : length l ≡ T - o = length-slice o T s in-file in
      let last : get_or l (length value) 0 ≡ 0 = upto (length value) (omega arith) ∙ get_or-append_seam value 0 [] 0 in
      let most : to_zero l ≤ length value = zero_bounds l (length value) (omega arith) last in
      let least : length value ≤ to_zero l = elim (dec_le (length value) (to_zero l)) [
        | yes h ↦ h
        | no n ↦ (let k : to_zero l < length value = omega arith in
            absurd (not_zero value allowed (to_zero l) k
            (sym (get_or-append value (0 ∷ []) 0 (to_zero l) k) ∙ sym (upto (to_zero l) (omega arith)) ∙ at_zero l (omega arith))))
      ] in
      omega arith

  -- and its part is the text
  pub text_read : slice o (o + to_zero (slice o T s)) s ≡ value
  text_read = rw text_length (stands_slice s o value (stands_front s o value (0 ∷ []) there))
