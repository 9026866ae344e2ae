-- The laws of reals.
use Prim.Native.Nat.{ℕ, suc, ◌+◌, ◌*◌, ◌-◌, ◌≤◌, ◌<◌, ◌%◌, ◌^◌}
use mathlib.Core.Path.{◌≡◌, refl, sym, ◌∙◌, ap}
use mathlib.Core.Bool.{true, not, false≢true}
use mathlib.Core.List.{List, [], ◌∷◌}
use lib.ListN.{length, get_or, drop, drop_of_length-le}
use lib.Seq.{drop-cons}
use lib.Pow.{pow-add, pow_mono}
use lib.Dec.{T}
use lib.Ieee.{Float, nan, inf, fin, binary64, is_nan, of_bits, nan_bits, div}
use lib.Ieee.Bits.{nan_bits_is, nan_bits_above}
use native.Mathlib.Omega.{arith}
use borrow.Author.Tests.{lt-ltb, le-ltb}
use Rattle.lxt_format.specs.Bytes.{byte_at}
use Rattle.lxt_format.specs.Reals.{bits_in_order, real_of}

-- ---- the bits

-- the bytes from number i on are gathered
pub record Gathered (s order : List ℕ) (at bits i : ℕ) : Type 0 where
  pub size : length order ≡ 8
  pub within : i ≤ 8
  pub sum : bits ≡ bits_in_order s at (drop i order)
  pub small : bits < 2 ^ (8 * (8 - i))

-- no byte is gathered yet
pub none_gathered : (s order : List ℕ) (at : ℕ) → length order ≡ 8 → Gathered s order at 0 8
unfolding bits_in_order
none_gathered s order at e = record { size = e; within = omega arith; sum = rw none refl; small = omega arith }
  where
    none : drop 8 order ≡ []
    none = let h : length order ≤ 8 = omega arith in drop_of_length-le order h

module _ (s order : List ℕ) (at bits i : ℕ) (g : Gathered s order at bits i) where
  -- all are gathered
  pub all_gathered : i ≤ 0 → bits ≡ bits_in_order s at order
  all_gathered h = let e : i ≡ 0 = omega arith in rw e at g.sum

  module _ (h : 0 < i) (x : ℕ) (small : x < 256) where
    -- a byte more, and the sum is below the next power
    larger : bits * 256 + x < 2 ^ (8 * (8 - (i - 1)))
    larger =
        let k : ℕ = 8 * (8 - i) in
        let w = g.within in
        let e : 8 * (8 - (i - 1)) ≡ k + 8 = omega arith in
        let l = g.small in
        rw (e, pow-add 2 k 8) (omega arith)

    -- the sum fits 64 bits
    pub sum_fits : bits * 256 + x < 2 ^ 64
    sum_fits =
        let w = g.within in
        let l : 8 * (8 - (i - 1)) ≤ 64 = omega arith in
        omega (arith, larger, pow_mono l)

    -- the next byte is gathered, from the place j
    pub gathered : (j : ℕ) → j ≡ get_or order (i - 1) 0 → x ≡ byte_at s (at + j) → Gathered s order at (bits * 256 + x) (i - 1)
    unfolding bits_in_order
    gathered j ej ex =
        let w = g.within in
        let size = g.size in
        let k : i - 1 < length order = omega arith in
        let e : x ≡ byte_at s (at + get_or order (i - 1) 0) = rw ej at ex in
        let q : suc (i - 1) ≡ i = omega arith in
        let next : drop (i - 1) order ≡ get_or order (i - 1) 0 ∷ drop i order = drop-cons order (i - 1) 0 k ∙ ap (λ n. get_or order (i - 1) 0 ∷ drop n order) q in
        let l = g.sum in
        record {
          size = g.size;
          within = omega arith;
          sum = rw next (omega arith);
          small = larger;
        }

-- ---- the number

-- there is one NaN
nan_is : (x : Float) → is_nan x ≡ true → x ≡ nan
unfolding is_nan
nan_is nan h = refl
nan_is (inf s) h = absurd (false≢true h)
nan_is (fin s m e) h = absurd (false≢true h)

-- 0 / 0
no_quotient : div binary64 (of_bits binary64 0) (of_bits binary64 0) ≡ nan
unfolding div of_bits
no_quotient = refl

-- bits above those of an infinity, the sign left out, are a NaN's
pub bits_of_nan : (b : ℕ) → 0x7ff0_0000_0000_0000 < b % 0x8000_0000_0000_0000 → div binary64 (of_bits binary64 0) (of_bits binary64 0) ≡ real_of b
unfolding real_of
bits_of_nan b h = no_quotient ∙ sym (nan_is (of_bits binary64 b) (sym (nan_bits_is binary64 b) ∙ nan_bits_above binary64 b ∙ lt-ltb _ _ h))

-- the others are not
pub no_nan : (b : ℕ) → b % 0x8000_0000_0000_0000 ≤ 0x7ff0_0000_0000_0000 → T (not (nan_bits binary64 b))
no_nan b h = rw (nan_bits_above binary64 b, le-ltb _ _ h) tt

-- and they are the number's
pub bits_of_number : (b : ℕ) → of_bits binary64 b ≡ real_of b
unfolding real_of
bits_of_number b = refl
