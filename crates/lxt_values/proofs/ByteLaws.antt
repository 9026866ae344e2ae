-- The laws of the symbols of a byte in one number, and of putting the lowest bytes of a number into a buffer.
use Prim.Native.Nat.{ℕ, zero, suc, ◌+◌, ◌*◌, ◌-◌, ◌/◌, ◌%◌, ◌^◌, ◌≤◌, ◌<◌}
use native.Mathlib.Nat.{add-zero}
use native.Mathlib.Omega.{arith}
use mathlib.Core.Path.{◌≡◌, refl, sym, ap, ◌∙◌}
use mathlib.Core.List.{List, [], map}
use lib.ListN.{length, get_or, set, length-set, get_or-eq_default}
use lib.Bits.{bit_and, and_le_r}
use Rattle.lxt_format.specs.Basics.{range}
use Rattle.lxt_format.specs.Buffers.{placed, placed_none, placed_next}
use Rattle.lxt_format.specs.Bytes.{little_endian}
use Rattle.lxt_format.specs.Changes.{digits}
use Rattle.lxt_format.specs.Values.{symbols, symbol_of}
use Rattle.lxt_values.specs.Steps.{symbols_of_byte}

-- ---- the symbols of a byte in one number

-- an element of a mapped range
at_range : {A : Type 0} (f : ℕ → A) (d : A) (i n k : ℕ) → k < n → get_or (map f (range i n)) k d ≡ f (i + k)
unfolding range
at_range f d i zero k h = absurd (omega arith)
at_range f d i (suc n) zero h = rw (add-zero i)
at_range f d i (suc n) (suc k) h = let e : i + suc k ≡ suc i + k = omega arith in rw e (at_range f d (suc i) n k (omega arith))

-- two functions that agree on the first n numbers, by computing both
agree : {A : Type 0} (f g : ℕ → A) (d : A) (n : ℕ) → map f (range 0 n) ≡ map g (range 0 n) → (x : ℕ) → x < n → f x ≡ g x
agree f g d n e x h =
    let z : 0 + x ≡ x = omega arith in
    let left : get_or (map f (range 0 n)) x d ≡ f x = rw z at (at_range f d 0 n x h) in
    let right : get_or (map g (range 0 n)) x d ≡ g x = rw z at (at_range g d 0 n x h) in
    sym left ∙ ap (λ l. get_or l x d) e ∙ right

-- all symbols in one number, 7 bits each
abbrev packed_symbols : ℕ
packed_symbols = 0x2d995eac8b1698b0

-- the symbol of a code in it
pub symbol_is : (code : ℕ) → code < 9 → packed_symbols / 2 ^ (7 * code) % 128 ≡ symbol_of code
unfolding symbol_of range
symbol_is = agree (λ code. packed_symbols / 2 ^ (7 * code) % 128) symbol_of 0 9 refl

-- there are no more
pub no_symbol : (code : ℕ) → 8 < code → 0 ≡ symbol_of code
unfolding symbol_of
no_symbol code h = sym (get_or-eq_default symbols 0 {n = code} (omega arith))

-- 8 of 1 bit: the bits at their places, and as codes
abbrev own_of : ℕ → ℕ
own_of x = bit_and (x * 0x0101_0101_0101_0101) 0x0102_0408_1020_4080

abbrev codes_of : ℕ → ℕ
codes_of x = bit_and ((own_of x + 0x7F7F_7F7F_7F7F_7F7F) / 128) 0x0101_0101_0101_0101

abbrev eight_of : ℕ → ℕ
eight_of x = codes_of x + 0x3030_3030_3030_3030

-- no sum on the way is too large
pub eight_fits : (x : ℕ) → (own_of x + 0x7F7F_7F7F_7F7F_7F7F < 2 ^ 64) × (eight_of x < 2 ^ 64)
eight_fits x =
    let own = and_le_r (x * 0x0101_0101_0101_0101) 0x0102_0408_1020_4080 in
    let codes = and_le_r ((own_of x + 0x7F7F_7F7F_7F7F_7F7F) / 128) 0x0101_0101_0101_0101 in
    (omega arith, omega arith)

pub eight_is : (x : ℕ) → x < 256 → little_endian 8 (eight_of x) ≡ symbols_of_byte 1 x
unfolding little_endian symbols_of_byte digits symbol_of range
eight_is = agree (λ x. little_endian 8 (eight_of x)) (symbols_of_byte 1) [] 256 refl

-- 4 of 2 bits: the low and the high bits of the codes
abbrev low_of : ℕ → ℕ
low_of x = bit_and (bit_and (x * 0x4010_0401 / 64) 0x0303_0303) 0x0101_0101

abbrev high_of : ℕ → ℕ
high_of x = bit_and (bit_and (x * 0x4010_0401 / 64) 0x0303_0303 / 2) 0x0101_0101

abbrev four_of : ℕ → ℕ
four_of x = 0x3030_3030 + low_of x + high_of x * 42 - bit_and (low_of x) (high_of x) * 3

pub four_is : (x : ℕ) → x < 256 → little_endian 4 (four_of x) ≡ symbols_of_byte 2 x
unfolding little_endian symbols_of_byte digits symbol_of range
four_is = agree (λ x. little_endian 4 (four_of x)) (symbols_of_byte 2) [] 256 refl

-- no sum or product on the way is too large, and the difference is not below 0
pub record FourFit (x : ℕ) : Type 0 where
  pub first : 0x3030_3030 + low_of x < 2 ^ 64
  pub product : high_of x * 42 < 2 ^ 64
  pub sum : 0x3030_3030 + low_of x + high_of x * 42 < 2 ^ 64
  pub less : bit_and (low_of x) (high_of x) * 3 < 2 ^ 64
  pub below : bit_and (low_of x) (high_of x) * 3 ≤ 0x3030_3030 + low_of x + high_of x * 42

pub four_fit : (x : ℕ) → FourFit x
four_fit x =
    let codes : ℕ = bit_and (x * 0x4010_0401 / 64) 0x0303_0303 in
    let low = and_le_r codes 0x0101_0101 in
    let high = and_le_r (codes / 2) 0x0101_0101 in
    let both = and_le_r (low_of x) (high_of x) in
    record { first = omega arith; product = omega arith; sum = omega arith; less = omega arith; below = omega arith }

-- 2 of 4 bits
pub two_is : (x first second : ℕ) → x < 256 → first ≡ symbol_of (x / 16) → second ≡ symbol_of (x % 16) → little_endian 2 (first + second * 256) ≡ symbols_of_byte 4 x
unfolding little_endian symbols_of_byte digits symbol_of range
two_is x first second h e f =
    rw (e, f) (agree (λ y. little_endian 2 (symbol_of (y / 16) + symbol_of (y % 16) * 256)) (symbols_of_byte 4) [] 256 refl x h)

-- ---- the lowest bytes of a number, put one by one

-- j bytes are put; those of the rest of the number, put behind them, give the whole
pub record Putting (b : List ℕ) (place word count : ℕ) (b' : List ℕ) (rest j : ℕ) : Type 0 where
  pub left : placed b' (place + j) (little_endian (count - j) rest) ≡ placed b place (little_endian count word)
  pub upto : j ≤ count
  pub room : place + count ≤ length b
  pub long : length b' ≡ length b

pub put_begun : (b : List ℕ) (place word count : ℕ) → place + count ≤ length b → Putting b place word count b word 0
put_begun b place word count h =
    let e : count - 0 ≡ count = omega arith in
    record { left = rw (add-zero place, e); upto = omega arith; room = h; long = refl }

module _ (b : List ℕ) (place word count : ℕ) (b' : List ℕ) (rest j : ℕ) (p : Putting b place word count b' rest j) where
  pub put_room : j < count → place + j < length b'
  put_room h = let r = p.room in let l = p.long in omega arith

  pub put_turn : j < count → Putting b place word count (set b' (place + j) (rest % 256)) (rest / 256) (j + 1)
  unfolding little_endian
  put_turn h =
      let e : count - j ≡ suc (count - (j + 1)) = omega arith in
      let f : place + (j + 1) ≡ place + j + 1 = omega arith in
      let before : placed b' (place + j) (little_endian (suc (count - (j + 1))) rest) ≡ placed b place (little_endian count word) = rw e at p.left in
      record {
        left = rw f (placed_next b' (place + j) (rest % 256) (little_endian (count - (j + 1)) (rest / 256)) (put_room h) ∙ before);
        upto = omega arith;
        room = p.room;
        long = length-set b' (place + j) (rest % 256) ∙ p.long;
      }

  pub put_ended : count ≤ j → b' ≡ placed b place (little_endian count word)
  unfolding little_endian
  put_ended h =
      let e : count - j ≡ 0 = omega arith in
      let all : placed b' (place + j) (little_endian 0 rest) ≡ placed b place (little_endian count word) = rw e at p.left in
      sym (placed_none b' (place + j)) ∙ all
