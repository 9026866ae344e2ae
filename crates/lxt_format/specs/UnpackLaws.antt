-- The unpacking of symbols, one fact over the symbol's size of b bits, of which a byte holds p: b is 1, 2 or 4, and p is 8, 4 or 2.
use Prim.Native.Nat.{ℕ, zero, suc, ◌+◌, ◌*◌, ◌-◌, ◌≤◌, ◌<◌, ◌/◌, ◌%◌, ◌^◌}
use Rattle.std.specs.Prelude.{◌≡◌, refl}
use Rattle.std.proofs.Common.{◌∙◌, ap, length-take, get_or-append-add, get_or-take, add-one}
use mathlib.Core.List.{List, [], ◌∷◌, ◌++◌}
use Rattle.std.proofs.Math.ListN.{length, get_or, length-append, get_or-append}
use native.Mathlib.Omega.{arith}
use Rattle.std.proofs.Math.Decide.{dec_le}
use Rattle.std.proofs.Math.Nat.{div-eq_of_lt, mod-eq_of_lt, add-div_left, add-mod_left, mul-suc}
use Rattle.lxt_format.specs.Basics.{joined}
use Rattle.lxt_format.specs.Changes.{digits, unpack}

-- the sizes of a code in bits: 1, 2 and 4
pub data Size : ℕ → Type 0 where
  one : Size 1
  two : Size 2
  four : Size 4

-- what is not 1 and not 2 is 4
pub size_else : (b : ℕ) → Size b → (b ≡ 1 → ⊥) → (b ≡ 2 → ⊥) → b ≡ 4
size_else b Size.one n m = absurd (n refl)
size_else b Size.two n m = absurd (m refl)
size_else b Size.four n m = refl

pub length_digits : (b k x : ℕ) → length (digits b k x) ≡ k
unfolding digits
length_digits b zero x = refl
length_digits b (suc k) x = ap suc (length_digits b k x)

-- code j of a byte, counted from the top
pub digit_at : (b k x j : ℕ) → j < k → get_or (digits b k x) j 0 ≡ x / 2 ^ (b * (k - suc j)) % 2 ^ b
unfolding digits
digit_at b zero x j h = absurd (omega arith)
digit_at b (suc k) x zero h = let e : suc k - suc 0 ≡ k = omega arith in rw e
digit_at b (suc k) x (suc j) h = let e : suc k - suc (suc j) ≡ k - suc j = omega arith in rw e (digit_at b k x j (omega arith))

after : (xs ys : List ℕ) (k n : ℕ) → length xs ≡ k → get_or (xs ++ ys) (k + n) 0 ≡ get_or ys n 0
after xs ys k n e = rw (← e) (get_or-append-add xs ys n 0)

module _ (b p : ℕ) (some_fit : 0 < p) where
  pub length_joined : (bs : List ℕ) → length (joined (digits b p) bs) ≡ p * length bs
  unfolding joined
  length_joined [] = omega arith
  length_joined (x ∷ bs) = length-append (digits b p x) (joined (digits b p) bs) ∙ rw (length_digits b p x, length_joined bs, mul-suc p (length bs)) (omega arith)

  -- code i of many bytes stands in byte i / p, at place i % p from the top
  pub joined_at : (bs : List ℕ) (i : ℕ) → i < p * length bs
      → get_or (joined (digits b p) bs) i 0 ≡ get_or bs (i / p) 0 / 2 ^ (b * (p - suc (i % p))) % 2 ^ b
  unfolding joined
  joined_at [] i h = absurd (omega arith)
  joined_at (x ∷ bs) i h =
      let more : (j : ℕ) → j < p * length bs → get_or (joined (digits b p) bs) j 0 ≡ get_or bs (j / p) 0 / 2 ^ (b * (p - suc (j % p))) % 2 ^ b = λ j k. joined_at bs j k in
      elim (dec_le p i) [
        | yes l ↦ (let j : ℕ = i - p in
            let e : i ≡ p + j = omega arith in
            let k : j < p * length bs = omega (arith, mul-suc p (length bs)) in
            rw (e, add-div_left j some_fit, add-mod_left p j) (after (digits b p x) (joined (digits b p) bs) p j (length_digits b p x) ∙ rw (add-one (j / p)) (more j k)))
        | no n ↦ (let l : i < p = omega arith in
            rw (div-eq_of_lt l, mod-eq_of_lt l)
            (get_or-append (digits b p x) (joined (digits b p) bs) 0 i (rw (length_digits b p x) l) ∙ digit_at b p x i l))
      ]

  -- THE FACT: the codes of `width` symbols, one by one
  pub code_at : 8 / b ≡ p → (width : ℕ) (bs : List ℕ) (i : ℕ) → i < width → i < p * length bs
      → get_or (unpack b width bs) i 0 ≡ get_or bs (i / p) 0 / 2 ^ (b * (p - suc (i % p))) % 2 ^ b
  unfolding unpack
  code_at e width bs i h k = rw e (get_or-take width (joined (digits b p) bs) i 0 h ∙ joined_at bs i k)

  pub length_unpack : 8 / b ≡ p → (width : ℕ) (bs : List ℕ) → width ≤ p * length bs → length (unpack b width bs) ≡ width
  unfolding unpack
  length_unpack e width bs h = rw e (length-take width (joined (digits b p) bs) ∙ rw (length_joined bs) (omega arith))
