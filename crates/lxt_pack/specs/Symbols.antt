-- What the functions over a value's symbols answer and ask.
use Rattle.std.specs.Prelude.{ℕ, ◌+◌, ◌≤◌, ◌<◌, ◌^◌, ◌≡◌, Bool, List, length, get_or, ltb, eqb}
use Rattle.lxt_format.specs.Basics.{all}
use Rattle.lxt_format.specs.Changes.{packed_size}
use Rattle.lxt_format.specs.UnpackLaws.{Size}
use Rattle.lxt_written.specs.WrittenChanges.{code_of}

-- all codes are below a bound: 2 of 0 and 1, 4 of 0 1 Z X, 9 of all symbols
unfoldable pub all_below : ℕ → List ℕ → Bool
all_below bound value = all (λ b. ltb (code_of b) bound) value

-- all symbols are the first
unfoldable pub same_all : List ℕ → Bool
same_all value = all (λ b. eqb b (get_or value 0 0)) value

-- the lower of two numbers, and the higher
pub record Lower (a b r : ℕ) : Type 0 where
  pub left : r ≤ a
  pub right : r ≤ b
  pub most : (k : ℕ) → k ≤ a → k ≤ b → k ≤ r

pub record Higher (a b r : ℕ) : Type 0 where
  pub left : a ≤ r
  pub right : b ≤ r
  pub least : (k : ℕ) → a ≤ k → b ≤ k → r ≤ k

-- a number that tells 0 1 Z X, the other symbols and other bytes apart
pub record Classed (symbol r : ℕ) : Type 0 where
  pub four : ltb r 1 ≡ ltb (code_of symbol) 4
  pub nine : ltb r 2 ≡ ltb (code_of symbol) 9

-- the code of a symbol, where it is below a bound
abbrev pub Coded : ℕ → ℕ → ℕ → Type 0
Coded symbol bound r = code_of symbol < bound → r ≡ code_of symbol

-- the bytes from `start` up to `end` are symbols
abbrev pub Symbols : List ℕ → ℕ → ℕ → Type 0
Symbols values start end = (i : ℕ) → start ≤ i → i < end → code_of (get_or values i 0) < 9

-- p codes of b bits from `at` on, which fill a byte
pub record Whole (values : List ℕ) (b p at : ℕ) : Type 0 where
  pub within : at + p ≤ length values
  pub codes : (i : ℕ) → i < p → code_of (get_or values (at + i) 0) < 2 ^ b
  pub known : (i : ℕ) → i < p → code_of (get_or values (at + i) 0) < 9

-- symbols from `start` up to `end` whose codes have b bits
pub record Holding (values : List ℕ) (b start end : ℕ) : Type 0 where
  pub size : Size b
  pub upto : start ≤ end
  pub within : end ≤ length values
  pub codes : (i : ℕ) → start ≤ i → i < end → code_of (get_or values i 0) < 2 ^ b
  pub known : Symbols values start end

-- a value of such symbols, and room for their bytes from `at` on
pub record Packing (value : List ℕ) (b : ℕ) (out : List ℕ) (at : ℕ) : Type 0 where
  pub holding : Holding value b 0 (length value)
  pub room : at + packed_size b (length value) ≤ length out
