-- Laws of symbols that are packed into bytes.
use Rattle.std.proofs.lemmas.List.{get_or_past, get_or-map, get_or-drop, take_all}
use mir.Val.{bool_byte}
use Prim.Native.Nat.{ℕ, zero, suc, ◌+◌, ◌*◌, ◌-◌, ◌/◌, ◌%◌, ◌^◌, ◌≤◌, ◌<◌}
use native.Mathlib.Nat.{add-zero, add-mul, mul_assoc, mul_comm, mul-suc, mul-zero, mul-le-mul, le_refl}
use native.Mathlib.Omega.{arith}
use native.Mathlib.Numerals.{add-one}
use mathlib.Core.Path.{◌≡◌, refl, sym, ap, ◌∙◌}
use mathlib.Core.Bool.{true, ◌&&◌, ◌||◌}
use mathlib.Core.List.{List, [], ◌∷◌, map}
use lib.ListN.{length, get_or, set, take, drop, length-set, length-take, length-drop, length-map, drop_of_length-le}
use lib.Pow.{pow_pos, pow-add}
use native.Mathlib.Decide.{dec_le}
use lib.Seq.{slice, slice-cons, slice_empty, drop-cons, drop-drop, take-length}
use Rattle.lxt_format.specs.Buffers.{placed, placed_none, stored_one, placed_next}
use lib.Dec.{leb, ltb, eqb, lit<, lit≤}
use borrow.Author.Tests.{eqb-true, leb-true, ltb-true}
use Rattle.lxt_format.specs.Basics.{range, all}
use Rattle.lxt_format.specs.BasicsLaws.{all_range, and_both, or_either}
use Rattle.lxt_format.specs.Reals.{place_of}
use Rattle.lxt_format.specs.Changes.{packed_size}
use Rattle.lxt_written.specs.WrittenChanges.{code_of, packed_codes, pack}
use Rattle.lxt_written.specs.CommandLaws.{codes_small}
use Rattle.lxt_format.specs.UnpackLaws.{Size}
use Rattle.lxt_pack.specs.Symbols.{Coded, Symbols, Whole, Holding, Packing}

-- ---- codes, by all bytes

-- 0, 1, Z and X
four_codes : all (λ b. leb 4 (code_of b) || eqb (b * 107 / 64 % 4) (code_of b)) (range 0 256) ≡ true
unfolding all range code_of place_of
four_codes = refl

pub four_coded : (b : ℕ) → b < 256 → Coded b 4 (b * 107 / 64 % 4)
four_coded b h k =
    let e = all_range (λ x. leb 4 (code_of x) || eqb (x * 107 / 64 % 4) (code_of x)) 0 256 four_codes b (omega arith) (omega arith) in
    or_either (leb 4 (code_of b)) (eqb (b * 107 / 64 % 4) (code_of b)) e (λ q. let l = leb-true 4 (code_of b) q in absurd (omega arith)) (λ q. eqb-true _ _ q)

-- all symbols, by tests one after the other
abbrev picked : ℕ → ℕ → ℕ
picked b symbol = bool_byte (eqb b symbol)

abbrev code_sum : ℕ → ℕ
code_sum b =
    picked b 0x31 + 2 * picked b 0x5A + 3 * picked b 0x58 + (4 * picked b 0x48 + 5 * picked b 0x55) + (6 * picked b 0x57 + 7 * picked b 0x4C) + 8 * picked b 0x2D

nine_codes : all (λ b. (leb 9 (code_of b) || eqb (code_sum b) (code_of b)) && ltb (code_sum b) 16) (range 0 256) ≡ true
unfolding all range code_of place_of
nine_codes = refl

nine_coded : (b : ℕ) → b < 256 → Coded b 9 (code_sum b) × (code_sum b < 16)
nine_coded b h =
    let e = all_range (λ x. (leb 9 (code_of x) || eqb (code_sum x) (code_of x)) && ltb (code_sum x) 16) 0 256 nine_codes b (omega arith) (omega arith) in
    let both = and_both (leb 9 (code_of b) || eqb (code_sum b) (code_of b)) (ltb (code_sum b) 16) e in (
      λ k. or_either (leb 9 (code_of b)) (eqb (code_sum b) (code_of b)) both.0 (λ q. let l = leb-true 9 (code_of b) q in absurd (omega arith)) (λ q. eqb-true _ _ q),
      ltb-true (code_sum b) 16 both.1,
    )

pub code_sum_lem : (b : ℕ) → b < 256 → (c d e f g h i j : ℕ) → c ≡ picked b 0x31 → d ≡ picked b 0x5A → e ≡ picked b 0x58 → f ≡ picked b 0x48 → g ≡ picked b 0x55
    → h ≡ picked b 0x57 → i ≡ picked b 0x4C → j ≡ picked b 0x2D
    → Coded b 9 (c + 2 * d + 3 * e + (4 * f + 5 * g) + (6 * h + 7 * i) + 8 * j) × (c + 2 * d + 3 * e + (4 * f + 5 * g) + (6 * h + 7 * i) + 8 * j < 16)
code_sum_lem b k c d e f g h i j ec ed ee ef eg eh ei ej = rw (ec, ed, ee, ef, eg, eh, ei, ej) (nine_coded b k)

-- a byte whose code is 0 or 1 is '0' or '1'
low_all : all (λ b. leb 2 (code_of b) || eqb b (0x30 + code_of b)) (range 0 256) ≡ true
unfolding all range code_of place_of
low_all = refl

pub digit_byte : (b : ℕ) → b < 256 → code_of b < 2 → b ≡ 0x30 + code_of b
digit_byte b h k =
    let e = all_range (λ x. leb 2 (code_of x) || eqb x (0x30 + code_of x)) 0 256 low_all b (omega arith) (omega arith) in
    or_either (leb 2 (code_of b)) (eqb b (0x30 + code_of b)) e (λ q. let l = leb-true 2 (code_of b) q in absurd (omega arith)) (λ q. eqb-true _ _ q)

-- ---- whole bytes

-- the next byte of a part
next : (values : List ℕ) (i end : ℕ) → i < end → end ≤ length values → slice i end values ≡ get_or values i 0 ∷ slice (i + 1) end values
next values i end h k = let e : i + 1 ≡ suc i = omega arith in rw e (slice-cons i end values 0 h k)

two_long : (v : List ℕ) (at : ℕ) → at + 2 ≤ length v → slice at (at + 2) v ≡ get_or v at 0 ∷ get_or v (at + 1) 0 ∷ []
two_long v at h =
    let e : at + 1 + 1 ≡ at + 2 = omega arith in
    next v at (at + 2) (omega arith) h
    ∙ ap (λ l. get_or v at 0 ∷ l) (next v (at + 1) (at + 2) (omega arith) h)
    ∙ ap (λ l. get_or v at 0 ∷ get_or v (at + 1) 0 ∷ l) (rw e (slice_empty (at + 2) v))

-- a part is two bytes and the rest
two_more : (v : List ℕ) (at end : ℕ) → at + 2 ≤ end → end ≤ length v → slice at end v ≡ get_or v at 0 ∷ get_or v (at + 1) 0 ∷ slice (at + 2) end v
two_more v at end h k =
    let e : at + 1 + 1 ≡ at + 2 = omega arith in
    next v at end (omega arith) k ∙ ap (λ l. get_or v at 0 ∷ l) (next v (at + 1) end (omega arith) k ∙ rw e)

four_long : (v : List ℕ) (at : ℕ) → at + 4 ≤ length v
    → slice at (at + 4) v ≡ get_or v at 0 ∷ get_or v (at + 1) 0 ∷ get_or v (at + 2) 0 ∷ get_or v (at + 3) 0 ∷ []
four_long v at h =
    let e : at + 4 ≡ at + 2 + 2 = omega arith in
    let f : at + 2 + 1 ≡ at + 3 = omega arith in
    two_more v at (at + 4) (omega arith) h
    ∙ ap (λ l. get_or v at 0 ∷ get_or v (at + 1) 0 ∷ l) (rw (e, ← f) (two_long v (at + 2) (omega arith)))

eight_long : (v : List ℕ) (at : ℕ) → at + 8 ≤ length v
    → slice at (at + 8) v
    ≡ get_or v at 0 ∷ get_or v (at + 1) 0 ∷ get_or v (at + 2) 0 ∷ get_or v (at + 3) 0 ∷ get_or v (at + 4) 0 ∷ get_or v (at + 5) 0 ∷ get_or v (at + 6) 0 ∷ get_or v (at + 7) 0 ∷ []
eight_long v at h =
    let a : at + 2 + 1 ≡ at + 3 = omega arith in
    let b : at + 2 + 2 ≡ at + 4 = omega arith in
    let c : at + 8 ≡ at + 4 + 4 = omega arith in
    let d : at + 4 + 1 ≡ at + 5 = omega arith in
    let e : at + 4 + 2 ≡ at + 6 = omega arith in
    let f : at + 4 + 3 ≡ at + 7 = omega arith in
    let last : slice (at + 4) (at + 8) v ≡ get_or v (at + 4) 0 ∷ get_or v (at + 5) 0 ∷ get_or v (at + 6) 0 ∷ get_or v (at + 7) 0 ∷ [] =
    rw (c, ← d, ← e, ← f) (four_long v (at + 4) (omega arith)) in
    two_more v at (at + 8) (omega arith) h
    ∙ ap (λ l. get_or v at 0 ∷ get_or v (at + 1) 0 ∷ l)
    (two_more v (at + 2) (at + 8) (omega arith) h ∙ rw (a, b) (ap (λ l. get_or v (at + 2) 0 ∷ get_or v (at + 3) 0 ∷ l) last))

-- ---- the byte of 8, 4 and 2 codes

abbrev Bytes : List ℕ → Type 0
Bytes values = (i : ℕ) → get_or values i 0 < 256

-- what holds of 0 and 1 holds of each number below 2
on_bit : (P : ℕ → Type 0) → P 0 → P 1 → (a : ℕ) → a < 2 → P a
on_bit P z o zero h = z
on_bit P z o (suc zero) h = o
on_bit P z o (suc (suc a)) h = absurd (omega arith)

-- four bits, which stand 8 apart, beside each other
abbrev Gathered : ℕ → ℕ → ℕ → ℕ → Type 0
Gathered a b c d = (a * 16777216 + b * 65536 + (c * 256 + d)) * 16909320 / 16777216 % 16 ≡ a * 8 + (b * 4 + (c * 2 + d))

gather : (a b c d : ℕ) → a < 2 → b < 2 → c < 2 → d < 2 → Gathered a b c d
gather a b c d h i j k =
    on_bit (λ a. Gathered a b c d)
    (on_bit (λ b. Gathered 0 b c d)
    (on_bit (λ c. Gathered 0 0 c d)
    (on_bit (λ d. Gathered 0 0 0 d) refl refl d k)
    (on_bit (λ d. Gathered 0 0 1 d) refl refl d k)
    c j)
    (on_bit (λ c. Gathered 0 1 c d)
    (on_bit (λ d. Gathered 0 1 0 d) refl refl d k)
    (on_bit (λ d. Gathered 0 1 1 d) refl refl d k)
    c j)
    b i)
    (on_bit (λ b. Gathered 1 b c d)
    (on_bit (λ c. Gathered 1 0 c d)
    (on_bit (λ d. Gathered 1 0 0 d) refl refl d k)
    (on_bit (λ d. Gathered 1 0 1 d) refl refl d k)
    c j)
    (on_bit (λ c. Gathered 1 1 c d)
    (on_bit (λ d. Gathered 1 1 0 d) refl refl d k)
    (on_bit (λ d. Gathered 1 1 1 d) refl refl d k)
    c j)
    b i)
    a h

module _ (v : List ℕ) (at : ℕ) (bytes : Bytes v) where
  module _ (w : Whole v 1 4 at) where
    first_code : code_of (get_or v at 0) < 2
    first_code = rw (add-zero at) at (w.codes 0 (omega arith))

    -- each byte is 0x30 and its code
    pub digits_are : (get_or v at 0 ≡ 0x30 + code_of (get_or v at 0)) × (get_or v (at + 1) 0 ≡ 0x30 + code_of (get_or v (at + 1) 0))
        × (get_or v (at + 2) 0 ≡ 0x30 + code_of (get_or v (at + 2) 0)) × (get_or v (at + 3) 0 ≡ 0x30 + code_of (get_or v (at + 3) 0))
    digits_are = (
      digit_byte _ (bytes at) first_code,
      digit_byte _ (bytes (at + 1)) (w.codes 1 (omega arith)),
      digit_byte _ (bytes (at + 2)) (w.codes 2 (omega arith)),
      digit_byte _ (bytes (at + 3)) (w.codes 3 (omega arith)),
    )

    pub digits_small : (code_of (get_or v at 0) < 2) × (code_of (get_or v (at + 1) 0) < 2) × (code_of (get_or v (at + 2) 0) < 2) × (code_of (get_or v (at + 3) 0) < 2)
    digits_small = (first_code, w.codes 1 (omega arith), w.codes 2 (omega arith), w.codes 3 (omega arith))

    pub nibble_is : (x : ℕ)
        → x ≡ get_or v at 0 * 16777216 + get_or v (at + 1) 0 * 65536 + (get_or v (at + 2) 0 * 256 + get_or v (at + 3) 0) - 0x30303030
        → (x * 16909320 / 16777216 % 16 ≡ packed_codes 1 4 (map code_of (slice at (at + 4) v))) × (x * 16909320 / 16777216 % 16 < 16)
    unfolding packed_codes
    nibble_is x e =
        let d = digits_are in
        let s = digits_small in
        let a : ℕ = code_of (get_or v at 0) in
        let b : ℕ = code_of (get_or v (at + 1) 0) in
        let c : ℕ = code_of (get_or v (at + 2) 0) in
        let f : ℕ = code_of (get_or v (at + 3) 0) in
        let y : x ≡ a * 16777216 + b * 65536 + (c * 256 + f) = omega (arith, d.0, d.1, d.2, d.3) in
        (rw (four_long v at w.within, y) (gather a b c f s.0 s.1 s.2 s.3 ∙ omega arith), omega arith)

  pub eight_is : Whole v 1 8 at → (high low : ℕ) → high ≡ packed_codes 1 4 (map code_of (slice at (at + 4) v)) → low ≡ packed_codes 1 4 (map code_of (slice (at + 4) (at + 4 + 4) v))
      → high * 16 + low ≡ packed_codes 1 8 (map code_of (slice at (at + 8) v))
  unfolding packed_codes
  eight_is w high low eh el =
      let a : at + 4 + 1 ≡ at + 5 = omega arith in
      let b : at + 4 + 2 ≡ at + 6 = omega arith in
      let c : at + 4 + 3 ≡ at + 7 = omega arith in
      let inside = w.within in
      let h = rw (four_long v at (omega arith)) at eh in
      let l = rw (four_long v (at + 4) (omega arith), a, b, c) at el in
      rw (eight_long v at inside) (omega (arith, h, l))

  -- the first half and the second
  pub eight_first : Whole v 1 8 at → Whole v 1 4 at
  eight_first w = record { within = omega (arith, w.within); codes = λ i h. w.codes i (omega arith); known = λ i h. w.known i (omega arith) }

  pub eight_second : Whole v 1 8 at → Whole v 1 4 (at + 4)
  eight_second w =
      record {
        within = omega (arith, w.within);
        codes = λ i h. let e : at + 4 + i ≡ at + (4 + i) = omega arith in rw e (w.codes (4 + i) (omega arith));
        known = λ i h. let e : at + 4 + i ≡ at + (4 + i) = omega arith in rw e (w.known (4 + i) (omega arith));
      }

  -- the code at a place is the one that was found
  found_first : (b p bound r : ℕ) → Whole v b p at → 0 < p → Coded (get_or v at 0) bound r → code_of (get_or v (at + 0) 0) < bound → r ≡ code_of (get_or v at 0)
  found_first b p bound r w h c k = c (rw (add-zero at) at k)

  pub four_is : Whole v 2 4 at → (a b c d : ℕ) → Coded (get_or v at 0) 4 a → Coded (get_or v (at + 1) 0) 4 b → Coded (get_or v (at + 2) 0) 4 c → Coded (get_or v (at + 3) 0) 4 d
      → a * 64 + b * 16 + (c * 4 + d) ≡ packed_codes 2 4 (map code_of (slice at (at + 4) v))
  unfolding packed_codes
  four_is w a b c d ea eb ec ed =
      let ka = found_first 2 4 4 a w (omega arith) ea (w.codes 0 (omega arith)) in
      let kb = eb (w.codes 1 (omega arith)) in
      let kc = ec (w.codes 2 (omega arith)) in
      let kd = ed (w.codes 3 (omega arith)) in
      rw (four_long v at w.within, ← ka, ← kb, ← kc, ← kd) (omega arith)

  pub two_is : Whole v 4 2 at → (a b : ℕ) → Coded (get_or v at 0) 9 a → Coded (get_or v (at + 1) 0) 9 b
      → a * 16 + b ≡ packed_codes 4 2 (map code_of (slice at (at + 2) v))
  unfolding packed_codes
  two_is w a b ea eb =
      let ka = found_first 4 2 9 a w (omega arith) ea (w.known 0 (omega arith)) in
      let kb = eb (w.known 1 (omega arith)) in
      rw (two_long v at w.within, ← ka, ← kb) (omega arith)

-- ---- the three sizes

-- the symbols of a byte
whole_of : (v : List ℕ) (b at : ℕ) → Holding v b at (at + 8 / b) → Whole v b (8 / b) at
whole_of v b at h =
    record {
      within = h.within;
      codes = λ i l. h.codes (at + i) (omega arith) (omega arith);
      known = λ i l. h.known (at + i) (omega arith) (omega arith);
    }

-- the symbols from p on, as they are lent on
abbrev pub lent_from : List ℕ → ℕ → List ℕ
lent_from v p = take (length v - p) (drop p v)

lent_is : (v : List ℕ) (p : ℕ) → lent_from v p ≡ drop p v
lent_is v p = take_all (length v - p) (drop p v) (let n = length-drop p v in omega arith)

held_from : (v : List ℕ) (b p : ℕ) → Holding v b p (length v) → Holding (lent_from v p) b 0 (length (lent_from v p))
held_from v b p h =
    let n = length-drop p v in
    rw (lent_is v p)
    record {
      size = h.size;
      upto = omega arith;
      within = omega arith;
      codes = λ i l m. rw (get_or-drop p v i 0) (h.codes (p + i) (omega arith) (omega arith));
      known = λ i l m. rw (get_or-drop p v i 0) (h.known (p + i) (omega arith) (omega arith));
    }

-- ---- a part of the codes

slice_none : (i end : ℕ) (v : List ℕ) → end ≤ i → slice i end v ≡ []
slice_none i end v h = drop_of_length-le (take end v) {i = i} (let e = length-take end v in omega arith)

-- the codes without the first
pub codes_next : (v : List ℕ) (i end : ℕ) → end ≤ length v → drop 1 (map code_of (slice i end v)) ≡ map code_of (slice (i + 1) end v)
codes_next v i end k =
    elim (dec_le end i) [
      | yes h ↦ rw (slice_none i end v h, slice_none (i + 1) end v (omega arith))
      | no h ↦ rw (next v i end (omega arith) k)
    ]

-- those from k on
dropped : (v : List ℕ) (k : ℕ) → k < length v → drop k v ≡ get_or v k 0 ∷ drop (k + 1) v
dropped v k h = let e : k + 1 ≡ suc k = omega arith in rw e (drop-cons v k 0 h)

codes_dropped : (v : List ℕ) (k : ℕ) → drop 1 (map code_of (drop k v)) ≡ map code_of (drop (k + 1) v)
codes_dropped v k =
    elim (dec_le (length v) k) [
      | yes h ↦ rw (drop_of_length-le v {i = k} h, drop_of_length-le v {i = k + 1} (omega arith))
      | no h ↦ rw (dropped v k (omega arith))
    ]

-- the first of them
pub digit_is : (v : List ℕ) (k r : ℕ) → Symbols v 0 (length v) → k < length v → Coded (get_or v k 0) 9 r → r ≡ get_or (map code_of (drop k v)) 0 0
digit_is v k r s h e = rw (dropped v k h) (e (s k (omega arith) h))

pub digit_none : (v : List ℕ) (k : ℕ) → length v ≤ k → 0 ≡ get_or (map code_of (drop k v)) 0 0
digit_none v k h = rw (drop_of_length-le v {i = k} h)

-- each code has b bits
codes_from : (v : List ℕ) (b : ℕ) → Holding v b 0 (length v) → (j : ℕ) → get_or (map code_of v) j 0 < 2 ^ b
codes_from v b h j =
    elim (dec_le (length v) j) [
      | yes k ↦ rw (get_or_past (map code_of v) j 0 (let n = length-map v code_of in omega arith)) (pow_pos b)
      | no k ↦ rw (get_or-map code_of v j 0 0 (omega arith)) (h.codes j (omega arith) (omega arith))
    ]

-- ---- the last byte, code by code

-- k codes are in the sum; with the others it gives the byte
pub record Summing (v : List ℕ) (b sum k : ℕ) : Type 0 where
  pub left : sum * 2 ^ (b * (8 / b - k)) + packed_codes b (8 / b - k) (map code_of (drop k v)) ≡ packed_codes b (8 / b) (map code_of v)
  pub upto : k ≤ 8 / b

pub sum_begun : (v : List ℕ) (b : ℕ) → Summing v b 0 0
sum_begun v b =
    let f : 8 / b - 0 ≡ 8 / b = omega arith in
    record { left = rw f (omega arith); upto = omega arith }

-- the numbers of b bits that fill a byte
eight_bits : (b : ℕ) → Size b → b * (8 / b) ≡ 8
eight_bits b Size.one = refl
eight_bits b Size.two = refl
eight_bits b Size.four = refl

shift : (sum base d P R : ℕ) → (sum * base + d) * P + R ≡ sum * (P * base) + (d * P + R)
shift sum base d P R =
    let e = add-mul (sum * base) d P in
    let f : sum * base * P ≡ sum * (P * base) = mul_assoc sum base P ∙ ap (λ x. sum * x) (mul_comm base P) in
    omega arith

module _ (v : List ℕ) (b sum k : ℕ) (w : Summing v b sum k) where
  -- the sum is below 256
  pub sum_small : Holding v b 0 (length v) → sum < 256
  sum_small h =
      let total : packed_codes b (8 / b) (map code_of v) < 2 ^ (b * (8 / b)) =
      codes_small b (8 / b) (map code_of v) (codes_from v b h) in
      let total' : packed_codes b (8 / b) (map code_of v) < 256 = rw (eight_bits b h.size) at total in
      let one : 1 ≤ 2 ^ (b * (8 / b - k)) = pow_pos (b * (8 / b - k)) in
      let m : sum * 1 ≤ sum * 2 ^ (b * (8 / b - k)) = mul-le-mul (le_refl sum) one in
      omega (arith, w.left)

  pub sum_turn : k < 8 / b → (base d : ℕ) → base ≡ 2 ^ b → d ≡ get_or (map code_of (drop k v)) 0 0
      → Summing v b (sum * base + d) (k + 1)
  unfolding packed_codes
  sum_turn h base d eb ed =
      let j : ℕ = 8 / b - (k + 1) in
      let e : 8 / b - k ≡ suc j = omega arith in
      let power : 2 ^ (b * suc j) ≡ 2 ^ (b * j) * base = rw (mul-suc b j, eb) (pow-add 2 (b * j) b) in
      let rest : sum * 2 ^ (b * suc j) + packed_codes b (suc j) (map code_of (drop k v)) ≡ packed_codes b (8 / b) (map code_of v) = rw e at w.left in
      record {
        left =
            rw (← codes_dropped v k) (shift sum base d (2 ^ (b * j)) (packed_codes b j (drop 1 (map code_of (drop k v))))
            ∙ rw (← power, ed) rest);
        upto = omega arith;
      }

  pub sum_ended : 8 / b ≤ k → sum ≡ packed_codes b (8 / b) (map code_of v)
  unfolding packed_codes
  sum_ended h =
      let e : 8 / b - k ≡ 0 = omega arith in
      let l : sum * 2 ^ (b * 0) + 0 ≡ packed_codes b (8 / b) (map code_of v) = rw e at w.left in
      let z : b * 0 ≡ 0 = mul-zero b in
      let l' : sum * 2 ^ 0 + 0 ≡ packed_codes b (8 / b) (map code_of v) = rw z at l in
      omega arith

-- ---- all bytes

module _ (v : List ℕ) where
  -- the first k codes are the same, whatever follows them
  pub packed_ends : (b k p e f : ℕ) → p + k ≤ e → p + k ≤ f → e ≤ length v → f ≤ length v
      → packed_codes b k (map code_of (slice p e v)) ≡ packed_codes b k (map code_of (slice p f v))
  unfolding packed_codes
  packed_ends b zero p e f g h i j = refl
  packed_ends b (suc k) p e f g h i j =
      rw (next v p e (omega arith) i, next v p f (omega arith) j)
      (ap (λ x. code_of (get_or v p 0) * 2 ^ (b * k) + x) (packed_ends b k (p + 1) e f (omega arith) (omega arith) i j))

  -- the codes without the first n
  codes_drop : (n p end : ℕ) → end ≤ length v → drop n (map code_of (slice p end v)) ≡ map code_of (slice (p + n) end v)
  codes_drop zero p end h = rw (add-zero p)
  codes_drop (suc n) p end h =
      let e : p + suc n ≡ p + 1 + n = omega arith in
      let f : 1 + n ≡ suc n = omega arith in
      sym (ap (λ k. drop k (map code_of (slice p end v))) f)
      ∙ sym (drop-drop n 1 (map code_of (slice p end v)))
      ∙ rw (codes_next v p end h, e) (codes_drop n (p + 1) end h)

-- a byte fewer
size_next : (b w : ℕ) → Size b → 8 / b ≤ w → packed_size b w ≡ suc (packed_size b (w - 8 / b))
unfolding packed_size
size_next b w Size.one h = omega arith
size_next b w Size.two h = omega arith
size_next b w Size.four h = omega arith

-- codes that do not fill a byte take one
size_last : (b w : ℕ) → Size b → 0 < w → w < 8 / b → packed_size b w ≡ 1
unfolding packed_size
size_last b w Size.one h k = omega arith
size_last b w Size.two h k = omega arith
size_last b w Size.four h k = omega arith

size_none : (b : ℕ) → Size b → packed_size b 0 ≡ 0
unfolding packed_size
size_none b Size.one = refl
size_none b Size.two = refl
size_none b Size.four = refl

pub places_some : (b : ℕ) → Size b → (0 < b) × (0 < 8 / b) × (8 / b ≤ 8) × (b ≤ 4)
places_some b Size.one = (lit< tt, lit< tt, lit≤ tt, lit≤ tt)
places_some b Size.two = (lit< tt, lit< tt, lit≤ tt, lit≤ tt)
places_some b Size.four = (lit< tt, lit< tt, lit≤ tt, lit≤ tt)

-- the bytes of all symbols, and of those from p on
abbrev pub bytes_of : List ℕ → ℕ → List ℕ
bytes_of v b = pack b (packed_size b (length v)) (map code_of v)

abbrev pub bytes_from : List ℕ → ℕ → ℕ → List ℕ
bytes_from v b p = pack b (packed_size b (length v - p)) (map code_of (slice p (length v) v))

-- the symbols up to p are packed; the others, put at q, give the whole
pub record Packed (v : List ℕ) (b : ℕ) (out : List ℕ) (at : ℕ) (out' : List ℕ) (p q : ℕ) : Type 0 where
  pub left : placed out' q (bytes_from v b p) ≡ placed out at (bytes_of v b)
  pub upto : p ≤ length v
  pub room : q + packed_size b (length v - p) ≤ length out
  pub long : length out' ≡ length out

pack_begun : (v : List ℕ) (b : ℕ) (out : List ℕ) (at : ℕ) → Packing v b out at → Packed v b out at out 0 at
pack_begun v b out at k =
    let n : length v - 0 ≡ length v = omega arith in
    record { left = rw (n, take-length v); upto = omega arith; room = rw n k.room; long = refl }

module _ (v : List ℕ) (b : ℕ) (out : List ℕ) (at : ℕ) (k : Packing v b out at) (out' : List ℕ) (p q : ℕ) (w : Packed v b out at out' p q) where
  -- what a byte asks of its symbols
  pack_whole : 8 / b ≤ length v - p → Holding v b p (p + 8 / b)
  pack_whole h =
      let g = k.holding in
      let u = w.upto in
      record {
        size = g.size;
        upto = omega arith;
        within = omega (arith, g.within);
        codes = λ i l m. g.codes i (omega arith) (omega arith);
        known = λ i l m. g.known i (omega arith) (omega arith);
      }

  pack_rest : Holding v b p (length v)
  pack_rest =
      let g = k.holding in
      record { size = g.size; upto = w.upto; within = g.within; codes = λ i l m. g.codes i (omega arith) m; known = λ i l m. g.known i (omega arith) m }

  one_more : p + 8 / b ≤ length v → packed_size b (length v - p) ≡ suc (packed_size b (length v - (p + 8 / b)))
  one_more h =
      let e : length v - (p + 8 / b) ≡ length v - p - 8 / b = omega arith in
      rw e (size_next b (length v - p) k.holding.size (omega arith))

  pack_turn : 8 / b ≤ length v - p → (x : ℕ) → x ≡ packed_codes b (8 / b) (map code_of (slice p (p + 8 / b) v))
      → Packed v b out at (set out' q x) (p + 8 / b) (q + 1)
  unfolding pack
  pack_turn lh x ex =
      let g = k.holding in
      let u = w.upto in
      let h : p + 8 / b ≤ length v = omega arith in
      let n = one_more h in
      let l = w.long in
      let r = w.room in
      let same : x ≡ packed_codes b (8 / b) (map code_of (slice p (length v) v)) = ex ∙ packed_ends v b (8 / b) p (p + 8 / b) (length v) (omega arith) h (omega (arith, g.within)) g.within in
      let cons : bytes_from v b p ≡ x ∷ bytes_from v b (p + 8 / b) = rw (n, same, codes_drop v (8 / b) p (length v) g.within) in
      record {
        left = placed_next out' q x (bytes_from v b (p + 8 / b)) (omega arith) ∙ ap (λ t. placed out' q t) (sym cons) ∙ w.left;
        upto = h;
        room = omega arith;
        long = length-set out' q x ∙ w.long;
      }

  pack_last : length v - p < 8 / b → p < length v → (x : ℕ) → x ≡ packed_codes b (8 / b) (map code_of (slice p (length v) v)) → set out' q x ≡ placed out at (bytes_of v b)
  unfolding pack
  pack_last h l x ex =
      let n : packed_size b (length v - p) ≡ 1 = size_last b (length v - p) k.holding.size (omega arith) (omega arith) in
      let one : bytes_from v b p ≡ x ∷ [] = rw (n, ex) in
      stored_one out' q x (omega (arith, w.room, w.long)) ∙ ap (λ t. placed out' q t) (sym one) ∙ w.left

  pack_ended : length v ≤ p → out' ≡ placed out at (bytes_of v b)
  unfolding pack
  pack_ended h =
      let z : length v - p ≡ 0 = omega arith in
      let none : bytes_from v b p ≡ [] = rw (z, size_none b k.holding.size) in
      sym (placed_none out' q) ∙ ap (λ t. placed out' q t) (sym none) ∙ w.left

-- ---- how many codes there are of b bits

pub base_is : (b : ℕ) → Size b → (1 * 2 ^ b % 4294967296 ≡ 2 ^ b) × (1 * 2 ^ b % 4294967296 ≤ 16)
base_is b Size.one = (refl, lit≤ tt)
base_is b Size.two = (refl, lit≤ tt)
base_is b Size.four = (refl, lit≤ tt)

pub small_product : (sum base : ℕ) → sum < 256 → base ≤ 16 → sum * base ≤ 4080
small_product sum base h k = let l : sum ≤ 255 = omega arith in mul-le-mul l k

-- there is room for each byte
module _ (v : List ℕ) (b : ℕ) (out : List ℕ) (at : ℕ) (k : Packing v b out at) (out' : List ℕ) (p q : ℕ) (w : Packed v b out at out' p q) where
  pack_room : 8 / b ≤ length v - p → q < length out'
  pack_room h =
      let u = w.upto in
      let n = size_next b (length v - p) k.holding.size h in
      omega (arith, w.room, w.long)

  pack_room_last : length v - p < 8 / b → p < length v → q < length out'
  pack_room_last h l =
      let n = size_last b (length v - p) k.holding.size (omega arith) h in
      omega (arith, w.room, w.long)

-- ---- byte j of the whole ones

-- byte j holds symbols that are there
count_left : (b : ℕ) → Size b → (w j : ℕ) → j < w / (8 / b) → 8 / b * j + 8 / b ≤ w
count_left b Size.one w j h = omega arith
count_left b Size.two w j h = omega arith
count_left b Size.four w j h = omega arith

-- behind the whole ones are fewer symbols than fill a byte
count_rest : (b : ℕ) → Size b → (w : ℕ) → (8 / b * (w / (8 / b)) ≤ w) × (w - 8 / b * (w / (8 / b)) < 8 / b)
count_rest b Size.one w = (omega arith, omega arith)
count_rest b Size.two w = (omega arith, omega arith)
count_rest b Size.four w = (omega arith, omega arith)

-- the symbols of j bytes are packed
pub record Counting (v : List ℕ) (b : ℕ) (out : List ℕ) (at : ℕ) (out' : List ℕ) (j : ℕ) : Type 0 where
  pub packed : Packed v b out at out' (8 / b * j) (at + j)
  pub upto : j ≤ length v / (8 / b)

module _ (v : List ℕ) (b : ℕ) (out : List ℕ) (at : ℕ) (k : Packing v b out at) where
  pub count_begun : Counting v b out at out 0
  count_begun =
      let z : 8 / b * 0 ≡ 0 = mul-zero (8 / b) in
      let y : at + 0 ≡ at = add-zero at in
      record { packed = rw (z, y) (pack_begun v b out at k); upto = omega arith }

  module _ (out' : List ℕ) (j : ℕ) (w : Counting v b out at out' j) where
    module _ (h : j < length v / (8 / b)) where
      left : 8 / b ≤ length v - 8 / b * j
      left = omega (arith, count_left b k.holding.size (length v) j h, k.holding.upto)

      pub count_whole : Whole v b (8 / b) (8 / b * j)
      count_whole = whole_of v b (8 / b * j) (pack_whole v b out at k out' (8 / b * j) (at + j) w.packed left)

      pub count_room : at + j < length out'
      count_room = pack_room v b out at k out' (8 / b * j) (at + j) w.packed left

      pub count_turn : (x : ℕ) → x ≡ packed_codes b (8 / b) (map code_of (slice (8 / b * j) (8 / b * j + 8 / b) v)) → Counting v b out at (set out' (at + j) x) (j + 1)
      count_turn x e =
          let one : 8 / b * (j + 1) ≡ 8 / b * j + 8 / b = rw (add-one j) (mul-suc (8 / b) j) in
          let p : 8 / b * (j + 1) ≡ 8 / b * j + 8 / b = omega arith in
          let q : at + (j + 1) ≡ at + j + 1 = omega arith in
          record { packed = rw (p, q) (pack_turn v b out at k out' (8 / b * j) (at + j) w.packed left x e); upto = omega arith }

    module _ (over : length v / (8 / b) ≤ j) where
      count : ℕ
      count = length v / (8 / b)

      all_packed : Packed v b out at out' (8 / b * count) (at + count)
      unfolding count
      all_packed = let e : j ≡ length v / (8 / b) = omega (arith, w.upto) in rw e at w.packed

      few : length v - 8 / b * count < 8 / b
      unfolding count
      few = let r = count_rest b k.holding.size (length v) in omega (arith, r.0, r.1)

      pub count_rest_holds : Holding (lent_from v (8 / b * (length v / (8 / b)))) b 0 (length (lent_from v (8 / b * (length v / (8 / b)))))
      unfolding count
      count_rest_holds = held_from v b (8 / b * count) (pack_rest v b out at k out' (8 / b * count) (at + count) all_packed)

      pub count_rest_room : 8 / b * (length v / (8 / b)) < length v → at + length v / (8 / b) < length out'
      unfolding count
      count_rest_room h = pack_room_last v b out at k out' (8 / b * count) (at + count) all_packed few h

      pub count_last : 8 / b * (length v / (8 / b)) < length v → (x : ℕ)
          → x ≡ packed_codes b (8 / b) (map code_of (lent_from v (8 / b * (length v / (8 / b)))))
          → set out' (at + length v / (8 / b)) x ≡ placed out at (bytes_of v b)
      unfolding count
      count_last h x e = pack_last v b out at k out' (8 / b * count) (at + count) all_packed few h x (rw (take-length v) (rw (lent_is v (8 / b * count)) at e))

      pub count_ended : length v ≤ 8 / b * (length v / (8 / b)) → out' ≡ placed out at (bytes_of v b)
      unfolding count
      count_ended h = pack_ended v b out at k out' (8 / b * count) (at + count) all_packed h

-- ---- the three sizes

pub packing_of : (v : List ℕ) (b n : ℕ) (out : List ℕ) (at : ℕ) → b ≡ n → Packing v b out at → Packing v n out at
packing_of v b n out at e k = rw e at k

pub packed_of : (v : List ℕ) (b n : ℕ) (out : List ℕ) (at : ℕ) (out' : List ℕ) → b ≡ n → out' ≡ placed out at (bytes_of v n) → out' ≡ placed out at (bytes_of v b)
packed_of v b n out at out' e h = rw e h
