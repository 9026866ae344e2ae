-- Codes that were packed are unpacked as they were, and the unused bits of their last byte are 0: one fact over the symbol's size of b bits.
use Prim.Native.Nat.{ℕ, zero, suc, ◌+◌, ◌*◌, ◌-◌, ◌≤◌, ◌<◌, ◌/◌, ◌%◌, ◌^◌}
use mathlib.Core.Path.{◌≡◌, refl, sym, ap, ◌∙◌}
use mathlib.Core.List.{List, [], ◌∷◌, ◌++◌}
use lib.ListN.{length, get_or, drop, length-drop, get_or-append}
use lib.Seq.{get_or-append-add, get_or-drop, drop-drop, ext_get_or, get_or-take}
use lib.Arith.{digits_div}
use lib.Pow.{pow-add, pow_pos}
use native.Mathlib.Omega.{arith}
use native.Mathlib.Decide.{dec_le}
use native.Mathlib.Nat.{mul-suc, mul_assoc, mul-sub, zero-add, suc-add, zero-mod, mod-eq_of_lt, mul-add-div_right, mul-add-mod_self_right, mul-add}
use Rattle.lxt_format.specs.Basics.{joined}
use Rattle.lxt_format.specs.Changes.{digits, unpack, packed_size, unused_bits}
use Rattle.lxt_format.specs.UnpackLaws.{length_digits, length_unpack}
use Rattle.lxt_written.specs.WrittenChanges.{packed_codes, pack}
use Rattle.lxt_written.specs.CommandLaws.{codes_small, length_pack}

-- every code takes b bits
abbrev pub Codes : ℕ → List ℕ → Type 0
Codes b codes = (i : ℕ) → get_or codes i 0 < 2 ^ b

-- so does every code that is left
codes_left : (b k : ℕ) (codes : List ℕ) → Codes b codes → Codes b (drop k codes)
codes_left b k codes h i = rw (get_or-drop k codes i 0) (h (k + i))

-- ---- the codes of a byte

-- what stands above k codes changes none of them
digits_above : (b k h x : ℕ) → digits b k (h * 2 ^ (b * k) + x) ≡ digits b k x
unfolding digits
digits_above b zero h x = refl
digits_above b (suc k) h x =
    let e : h * 2 ^ (b * suc k) ≡ h * 2 ^ b * 2 ^ (b * k) = rw (mul-suc b k, pow-add 2 (b * k) b) (omega arith) in
    rw (e, mul-add-div_right (pow_pos (b * k)) (h * 2 ^ b) x, digits_above b k (h * 2 ^ b) x, mul-add-mod_self_right h (2 ^ b) (x / 2 ^ (b * k)))

-- the codes of a byte are those that were packed into it
digits_packed : (b k : ℕ) (codes : List ℕ) → Codes b codes → (j : ℕ) → j < k → get_or (digits b k (packed_codes b k codes)) j 0 ≡ get_or codes j 0
unfolding digits packed_codes
digits_packed b zero codes h j l = absurd (omega arith)
digits_packed b (suc k) codes h zero l =
    let rest = codes_small b k (drop 1 codes) (codes_left b 1 codes h) in
    rw (digits_div (get_or codes 0 0) rest) (mod-eq_of_lt (h 0))
digits_packed b (suc k) codes h (suc j) l =
    let e : 1 + j ≡ suc j = omega arith in
    rw (digits_above b k (get_or codes 0 0) (packed_codes b k (drop 1 codes)))
    (digits_packed b k (drop 1 codes) (codes_left b 1 codes h) j (omega arith) ∙ get_or-drop 1 codes j 0 ∙ ap (λ i. get_or codes i 0) e)

-- ---- the codes of many bytes

-- code i of many bytes is the one that was packed
joined_packed : (b n : ℕ) (codes : List ℕ) → Codes b codes → (i : ℕ) → i < 8 / b * n → get_or (joined (digits b (8 / b)) (pack b n codes)) i 0 ≡ get_or codes i 0
unfolding joined pack
joined_packed b zero codes h i l = absurd (omega arith)
joined_packed b (suc n) codes h i l =
    let p : ℕ = 8 / b in
    let here : List ℕ = digits b p (packed_codes b p codes) in
    let later : List ℕ = joined (digits b p) (pack b n (drop p codes)) in
    let long : length here ≡ p = length_digits b p (packed_codes b p codes) in
    let rest : (j : ℕ) → j < p * n → get_or later j 0 ≡ get_or (drop p codes) j 0 = λ j k. joined_packed b n (drop p codes) (codes_left b p codes h) j k in
    elim (dec_le p i) [
      | yes m ↦ (let j : ℕ = i - p in
          let e : length here + j ≡ i = omega arith in
          let q : p + j ≡ i = omega arith in
          let k : j < p * n = omega (arith, mul-suc p n) in
          ap (λ x. get_or (here ++ later) x 0) (sym e) ∙ get_or-append-add here later j 0 ∙ rest j k ∙ get_or-drop p codes j 0 ∙ ap (λ x. get_or codes x 0) q)
      | no m ↦ (let k : i < p = omega arith in
          let w : i < length here = omega arith in
          get_or-append here later 0 i w ∙ digits_packed b p codes h i k)
    ]

-- a byte holds 8 / b codes of b bits whole, and n bytes all of them
pub record Fits (b : ℕ) : Type 0 where
  pub some_fit : 0 < 8 / b
  pub whole : b * (8 / b) ≡ 8
  pub holds : (width : ℕ) → width ≤ 8 / b * packed_size b width
  pub some_byte : (width : ℕ) → 1 ≤ width → 1 ≤ packed_size b width
  pub last_used : (width : ℕ) → 8 / b * packed_size b width < width + 8 / b

-- 1 bit a symbol
pub fits_1 : Fits 1
unfolding packed_size
fits_1 = record { some_fit = omega arith; whole = refl; holds = λ width. omega arith; some_byte = λ width h. omega arith; last_used = λ width. omega arith }

-- 2 bits
pub fits_2 : Fits 2
unfolding packed_size
fits_2 = record { some_fit = omega arith; whole = refl; holds = λ width. omega arith; some_byte = λ width h. omega arith; last_used = λ width. omega arith }

-- 4 bits
pub fits_4 : Fits 4
unfolding packed_size
fits_4 = record { some_fit = omega arith; whole = refl; holds = λ width. omega arith; some_byte = λ width h. omega arith; last_used = λ width. omega arith }

module _ (b : ℕ) (fits : Fits b) (codes : List ℕ) (small : Codes b codes) where
  -- code i is unpacked as it was packed
  unpacked_at : (i : ℕ) → i < length codes → get_or (unpack b (length codes) (pack b (packed_size b (length codes)) codes)) i 0 ≡ get_or codes i 0
  unfolding unpack
  unpacked_at i k =
      let n : ℕ = packed_size b (length codes) in
      let holds = fits.holds (length codes) in
      get_or-take (length codes) (joined (digits b (8 / b)) (pack b n codes)) i 0 k ∙ joined_packed b n codes small i (omega arith)

  -- THE FACT: what was packed is unpacked as it was
  pub unpack_pack : unpack b (length codes) (pack b (packed_size b (length codes)) codes) ≡ codes
  unpack_pack =
      let width : ℕ = length codes in
      let n : ℕ = packed_size b width in
      let bs : List ℕ = pack b n codes in
      let long : length (unpack b width bs) ≡ width = length_unpack b (8 / b) fits.some_fit refl width bs (rw (length_pack b n codes) (fits.holds width)) in
      ext_get_or 0 (unpack b width bs) codes long (λ i l. let k : i < width = omega arith in unpacked_at i k)

-- ---- padding

-- byte j holds the codes from number 8 / b * j on
byte_of_pack : (b n : ℕ) (codes : List ℕ) (j : ℕ) → j < n → get_or (pack b n codes) j 0 ≡ packed_codes b (8 / b) (drop (8 / b * j) codes)
unfolding pack
byte_of_pack b zero codes j l = absurd (omega arith)
byte_of_pack b (suc n) codes zero l = let e : 8 / b * 0 ≡ 0 = omega arith in rw e
byte_of_pack b (suc n) codes (suc j) l =
    let e : 8 / b + 8 / b * j ≡ 8 / b * suc j = omega (arith, mul-suc (8 / b) j) in
    byte_of_pack b n (drop (8 / b) codes) j (omega arith) ∙ rw (drop-drop (8 / b * j) (8 / b) codes, e)

-- no codes are 0
none_packed : (b k : ℕ) → packed_codes b k [] ≡ 0
unfolding packed_codes
none_packed b zero = refl
none_packed b (suc k) = let e = none_packed b k in rw e (omega arith)

-- the codes past the end leave their bits 0
unused_zero : (b r q : ℕ) (codes : List ℕ) → length codes ≤ r → packed_codes b (r + q) codes % 2 ^ (b * q) ≡ 0
unfolding packed_codes
unused_zero b zero q [] l = rw (zero-add q, none_packed b q) (zero-mod (2 ^ (b * q)))
unused_zero b zero q (x ∷ codes) l = absurd (omega arith)
unused_zero b (suc r) q codes l =
    let rest = unused_zero b r q (drop 1 codes) (rw (length-drop 1 codes) (omega arith)) in
    let e : get_or codes 0 0 * 2 ^ (b * (r + q)) ≡ get_or codes 0 0 * 2 ^ (b * r) * 2 ^ (b * q) = rw (mul-add b r q, pow-add 2 (b * r) (b * q)) (omega arith) in
    rw (suc-add r q, packed_codes, e, mul-add-mod_self_right (get_or codes 0 0 * 2 ^ (b * r)) (2 ^ (b * q)) (packed_codes b (r + q) (drop 1 codes))) rest

module _ (b : ℕ) (fits : Fits b) where
  -- the unused bits are those of the codes that are not there
  unused_codes : (width : ℕ) → unused_bits b width ≡ b * (8 / b * packed_size b width - width)
  unfolding unused_bits
  unused_codes width =
      let n : ℕ = packed_size b width in
      let e : b * (8 / b * n) ≡ 8 * n = sym (mul_assoc b (8 / b) n) ∙ rw fits.whole in
      sym (mul-sub b (8 / b * n) width ∙ rw e)

  -- so in the last byte they are 0
  pub last_byte_clean : (codes : List ℕ) → 1 ≤ length codes
      → get_or (pack b (packed_size b (length codes)) codes) (packed_size b (length codes) - 1) 0 % 2 ^ unused_bits b (length codes) ≡ 0
  last_byte_clean codes h =
      let width : ℕ = length codes in
      let p : ℕ = 8 / b in
      let n : ℕ = packed_size b width in
      let some = fits.some_byte width h in
      let holds = fits.holds width in
      let used = fits.last_used width in
      let q : ℕ = p * n - width in
      let m : p * n ≡ p * (n - 1) + p = let e : n ≡ suc (n - 1) = omega arith in ap (λ x. p * x) e ∙ mul-suc p (n - 1) in
      let e : p ≡ p - q + q = omega arith in
      let left : length (drop (p * (n - 1)) codes) ≤ p - q = rw (length-drop (p * (n - 1)) codes) (omega arith) in
      rw (byte_of_pack b n codes (n - 1) (omega arith), unused_codes width)
      (ap (λ k. packed_codes b k (drop (p * (n - 1)) codes) % 2 ^ (b * q)) e ∙ unused_zero b (p - q) q (drop (p * (n - 1)) codes) left)
