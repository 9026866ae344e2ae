-- Laws of padding.
use Prim.Native.Nat.{ℕ, zero, suc, ◌+◌, ◌*◌, ◌-◌, ◌≤◌, ◌<◌, ◌/◌, ◌%◌, ◌^◌, zero-le}
use mathlib.Core.Path.{◌≡◌, ◌∙◌, refl}
use mathlib.Core.Logic.{◌⊎◌, inl, inr}
use mathlib.Core.Bool.{Bool, true, false, not, false≢true}
use mathlib.Core.List.{List}
use lib.ListN.{length}
use lib.Dec.{eqb, leb}
use Rattle.std.specs.Int.Count.{count_trailing_zeros}
use Rattle.lxt_format.specs.Basics.{range, all}
use Rattle.lxt_format.specs.BasicsLaws.{all_range}
use native.Mathlib.Omega.{arith}
use native.Mathlib.Nat.{mod-one}
use Rattle.lxt_format.specs.Bytes.{byte_at}
use Rattle.lxt_format.specs.Changes.{signal, command_of, data_at, symbol_size, packed_size, unused_bits, padding_clean, clean_at, data_size, change_end}
use Rattle.lxt_format.specs.Changes.{Sound}
use Rattle.lxt_format.specs.declared.Kind.{Kind}
use Rattle.lxt_format.specs.declared.Kind.TheVariants.{Bits, Integer, Real, Text}
use Rattle.lxt_changes.specs.Faults.{symbolic}
use Rattle.lxt_changes.specs.Padding.{Inside}

-- two tests that say the same
alike : Bool → Bool → Bool
alike true b = b
alike false b = not b

alike_is : (a b : Bool) → alike a b ≡ true → a ≡ b
unfolding alike
alike_is true true h = refl
alike_is true false h = absurd (false≢true h)
alike_is false true h = absurd (false≢true h)
alike_is false false h = refl

-- the lowest k bits of a byte are 0 where it ends in as many zeros
few : ℕ → ℕ → Bool
few k x = alike (leb k (count_trailing_zeros 8 x)) (eqb (x % 2 ^ k) 0)

all_few : (k : ℕ) → k < 8 → all (few k) (range 0 256) ≡ true
unfolding few alike all range count_trailing_zeros
all_few zero h = refl
all_few (suc zero) h = refl
all_few (suc (suc zero)) h = refl
all_few (suc (suc (suc zero))) h = refl
all_few (suc (suc (suc (suc zero)))) h = refl
all_few (suc (suc (suc (suc (suc zero))))) h = refl
all_few (suc (suc (suc (suc (suc (suc zero)))))) h = refl
all_few (suc (suc (suc (suc (suc (suc (suc zero))))))) h = refl
all_few (suc (suc (suc (suc (suc (suc (suc (suc k)))))))) h = absurd (omega arith)

pub low_bits : (k x : ℕ) → k < 8 → x < 256 → leb k (count_trailing_zeros 8 x) ≡ eqb (x % 2 ^ k) 0
unfolding few
low_bits k x h l = alike_is _ _ (all_range (few k) 0 256 (all_few k h) x zero-le l)

-- the unused bits of the last byte are fewer than 8
pub unused_lt : (b width size : ℕ) → size ≡ packed_size b width → (b * width ≤ 8 * size) × (8 * size - b * width < 8)
unfolding packed_size
unused_lt b width size e = (omega arith, omega arith)

pub padding_is : (s : List ℕ) (b width o size : ℕ) → size ≡ packed_size b width → (z : Bool) → z ≡ eqb (byte_at s (o + size - 1) % 2 ^ (8 * size - b * width)) 0
    → z ≡ padding_clean s b width o
unfolding padding_clean unused_bits
padding_is s b width o size es z ez = ez ∙ rw es

-- where there is no data there is no padding
pub padding_none : (s : List ℕ) (width o : ℕ) → padding_clean s 0 width o ≡ true
unfolding padding_clean unused_bits packed_size
padding_none s width o =
    let e : 8 * ((0 * width + 7) / 8) - 0 * width ≡ 0 = omega arith in
    rw (e, mod-one (byte_at s (o + (0 * width + 7) / 8 - 1)))

-- ---- the ways through `is_clean`

module _ (s : List ℕ) (kind : Kind) (width o b at : ℕ) (eb : b ≡ symbol_size (byte_at s o % 16)) (ea : at ≡ data_at s o) where
  pub symbols_inside : (kind ≡ Bits) ⊎ (kind ≡ Integer) → Inside s kind width o → at + packed_size b width ≤ length s
  unfolding symbolic command_of
  symbols_inside (inl e) w = rw (ea, eb) (w.symbols (rw e))
  symbols_inside (inr e) w = rw (ea, eb) (w.symbols (rw e))

  module _ (z : Bool) (ez : z ≡ padding_clean s b width at) where
    pub symbols_clean : (kind ≡ Bits) ⊎ (kind ≡ Integer) → z ≡ clean_at s (signal 0 0 kind width) o
    unfolding clean_at command_of
    symbols_clean (inl e) = ez ∙ rw (e, ea, eb)
    symbols_clean (inr e) = ez ∙ rw (e, ea, eb)

module _ (s : List ℕ) (kind : Kind) (width o : ℕ) where
  pub others_clean : (kind ≡ Real) ⊎ (kind ≡ Text) → true ≡ clean_at s (signal 0 0 kind width) o
  unfolding clean_at
  others_clean (inl e) = rw e
  others_clean (inr e) = rw e

-- a sound change lies in the file
pub sound_inside : (s : List ℕ) (C T : ℕ) (kind : Kind) (width o : ℕ) → T ≤ length s → Sound s (signal C T kind width) o → Inside s kind width o
unfolding symbolic change_end data_size
sound_inside s C T Bits width o t d = let a = d.before in let e = d.ends in record { starts = omega arith; symbols = λ q. omega arith }
sound_inside s C T Integer width o t d = let a = d.before in let e = d.ends in record { starts = omega arith; symbols = λ q. omega arith }
sound_inside s C T Real width o t d = let a = d.before in record { starts = omega arith; symbols = λ q. absurd (false≢true q) }
sound_inside s C T Text width o t d = let a = d.before in record { starts = omega arith; symbols = λ q. absurd (false≢true q) }
