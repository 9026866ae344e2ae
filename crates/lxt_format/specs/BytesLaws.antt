-- Laws of numbers in a file and of zero-terminated bytes.
use Rattle.std.specs.Prelude.{ℕ, zero, suc, ◌+◌, ◌*◌, ◌≤◌, ◌<◌, ◌≡◌, refl, List, [], ◌∷◌, length, get_or}
use Rattle.std.proofs.Common.{◌∙◌, ap, arith, mul-suc, add-one, eq-eqb, ne_eqb}
use Rattle.std.proofs.Math.Numerals.{add-two, add-three}
use Rattle.std.proofs.Math.Decide.{ℕ_discrete}
use Rattle.lxt_format.specs.Bytes.{byte_at, number_at, u16_at, u32_at, numbers_at, to_zero}

-- ---- numbers of 1 to 4 bytes, written out

pub number_1 : (s : List ℕ) (o : ℕ) → number_at 1 s o ≡ byte_at s o
unfolding number_at
number_1 s o = omega arith

pub number_2 : (s : List ℕ) (o : ℕ) → number_at 2 s o ≡ byte_at s o * 256 + byte_at s (o + 1)
unfolding number_at
number_2 s o = rw (add-one o) (omega arith)

pub number_3 : (s : List ℕ) (o : ℕ) → number_at 3 s o ≡ byte_at s o * 65536 + byte_at s (o + 1) * 256 + byte_at s (o + 2)
unfolding number_at
number_3 s o = rw (add-one o, add-two o) (omega arith)

pub number_4 : (s : List ℕ) (o : ℕ) → number_at 4 s o ≡ byte_at s o * 16777216 + byte_at s (o + 1) * 65536 + byte_at s (o + 2) * 256 + byte_at s (o + 3)
unfolding number_at
number_4 s o = rw (add-one o, add-two o, add-three o) (omega arith)

pub u16_bytes : (s : List ℕ) (o : ℕ) → u16_at s o ≡ byte_at s o * 256 + byte_at s (o + 1)
unfolding u16_at
u16_bytes s o = number_2 s o

pub u32_bytes : (s : List ℕ) (o : ℕ) → u32_at s o ≡ byte_at s o * 16777216 + byte_at s (o + 1) * 65536 + byte_at s (o + 2) * 256 + byte_at s (o + 3)
unfolding u32_at
u32_bytes s o = number_4 s o

pub number_8 : (s : List ℕ) (o : ℕ) → number_at 8 s o ≡ u32_at s o * 4294967296 + u32_at s (o + 4)
unfolding number_at u32_at
number_8 s o = let e : o + 4 ≡ suc (suc (suc (suc o))) = omega arith in rw e (omega arith)

-- every element of a file is a byte
abbrev pub AreBytes : List ℕ → Type 0
AreBytes s = (i : ℕ) → byte_at s i < 256

pub u32_lt : (s : List ℕ) → AreBytes s → (o : ℕ) → u32_at s o < 4294967296
u32_lt s bytes o = omega (arith, u32_bytes s o, bytes o, bytes (o + 1), bytes (o + 2), bytes (o + 3))

-- ---- tables of numbers

pub length_numbers : (k n : ℕ) (s : List ℕ) (o : ℕ) → length (numbers_at k n s o) ≡ n
unfolding numbers_at
length_numbers k zero s o = refl
length_numbers k (suc n) s o = ap suc (length_numbers k n s (o + k))

pub get_d_numbers : (k n : ℕ) (s : List ℕ) (o i d : ℕ) → i < n → get_or (numbers_at k n s o) i d ≡ number_at k s (o + k * i)
unfolding numbers_at
get_d_numbers k zero s o i d h = absurd (omega arith)
get_d_numbers k (suc n) s o zero d h = let e : o + k * 0 ≡ o = omega arith in rw e
get_d_numbers k (suc n) s o (suc i) d h =
    let e : o + k + k * i ≡ o + k * suc i = omega (arith, mul-suc k i) in
    get_d_numbers k n s (o + k) i d (omega arith) ∙ rw e

-- ---- up to a zero

pub zero_later : (b : ℕ) (l : List ℕ) → (b ≡ 0 → ⊥) → to_zero (b ∷ l) ≡ suc (to_zero l)
unfolding to_zero
zero_later b l n = simp (ne_eqb b 0 n)

pub to_zero_le : (l : List ℕ) → to_zero l ≤ length l
unfolding to_zero
to_zero_le [] = omega arith
to_zero_le (b ∷ l) =
    let ih = to_zero_le l in
    elim (ℕ_discrete b 0) [ yes e ↦ rw (eq-eqb b 0 e) (omega arith) | no n ↦ simp (ne_eqb b 0 n) (omega arith) ]

-- where a zero is met, it stands there
pub at_zero : (l : List ℕ) → to_zero l < length l → get_or l (to_zero l) 0 ≡ 0
unfolding to_zero
at_zero [] h = refl
at_zero (b ∷ l) h =
    let ih : to_zero l < length l → get_or l (to_zero l) 0 ≡ 0 = λ k. at_zero l k in
    elim (ℕ_discrete b 0) [
      | yes e ↦ simp (eq-eqb b 0 e) e
      | no n ↦ (let k : suc (to_zero l) < suc (length l) = simp (ne_eqb b 0 n) at h in simp (ne_eqb b 0 n) (ih (omega arith)))
    ]

-- a zero that stands somewhere bounds the first
pub zero_bounds : (l : List ℕ) (i : ℕ) → i < length l → get_or l i 0 ≡ 0 → to_zero l ≤ i
unfolding to_zero
zero_bounds [] i h e = absurd (omega arith)
zero_bounds (b ∷ l) zero h e = rw (eq-eqb b 0 e) (omega arith)
zero_bounds (b ∷ l) (suc i) h e =
    let ih = zero_bounds l i (omega arith) e in
    elim (ℕ_discrete b 0) [ yes q ↦ rw (eq-eqb b 0 q) (omega arith) | no n ↦ simp (ne_eqb b 0 n) (omega arith) ]
