-- The layout of a time table, whose times have 8 or 4 bytes.
use Prim.Native.Nat.{ℕ, ◌+◌, ◌*◌, ◌≤◌, ◌<◌, ◌%◌}
use mathlib.Core.Path.{◌≡◌, ◌∙◌}
use mathlib.Core.Bool.{Bool, true, false}
use mathlib.Core.List.{List}
use native.Mathlib.Nat.{le_refl, mul-le-mul}
use native.Mathlib.Decide.{dec_le}
use native.Mathlib.Omega.{arith}
use borrow.Author.Tests.{lt-ltb, le-ltb}
use Rattle.lxt_format.specs.Bytes.{byte_at, number_at, u32_at}
use Rattle.lxt_format.specs.BytesLaws.{u32_bytes, number_8}
use Rattle.lxt_format.specs.Sections.{time_bytes, times_size}
use Rattle.lxt_format.specs.BiasedTimes.{bias, biased_bytes}

-- m times have as many bytes, of 8 at most each
pub times_fit : (b m : ℕ) → b ≤ 8 → m < 4294967296 → b * m < 34359738368
times_fit b m h l = let p = mul-le-mul h (le_refl m) in omega arith

pub size_is : (wide : Bool) (m : ℕ) → m < 4294967296 → (b : ℕ) → b ≡ time_bytes wide → b ≤ 8
    → (4 + 2 * b + 4 * m + b * m ≡ times_size wide m) × (4 + 2 * b + 4 * m + b * m < 1099511627776)
size_is wide m l b e h = (rw e, omega (arith, times_fit b m h l))

-- time i of those from `at` on
module _ (wide : Bool) (h : wide ≡ true) where
  pub inside_wide : (at i len : ℕ) → at + time_bytes wide * i + time_bytes wide ≤ len → at + 8 * i + 8 ≤ len
  inside_wide at i len l = rw h at l

  pub time_wide : (s : List ℕ) (at i x : ℕ) → x ≡ number_at 8 s (at + 8 * i) → x ≡ number_at (time_bytes wide) s (at + time_bytes wide * i)
  time_wide s at i x e = e ∙ rw h

module _ (wide : Bool) (h : wide ≡ false) where
  pub inside_narrow : (at i len : ℕ) → at + time_bytes wide * i + time_bytes wide ≤ len → at + 4 * i + 4 ≤ len
  inside_narrow at i len l = rw h at l

  pub time_narrow : (s : List ℕ) (at i x : ℕ) → x ≡ u32_at s (at + 4 * i) → x ≡ number_at (time_bytes wide) s (at + time_bytes wide * i)
  unfolding u32_at
  time_narrow s at i x e = e ∙ rw h

-- of a table that lies in a file of `len` bytes: both deltas of entry i, of m
pub position_inside : (wide : Bool) (times m i len at : ℕ) → times + times_size wide m ≤ len → i < m → at ≡ times + 4 + 2 * time_bytes wide → at + 4 * i + 4 ≤ len
position_inside true times m i len at h l e = omega arith
position_inside false times m i len at h l e = omega arith

pub delta_inside : (wide : Bool) (times m i len at : ℕ) → times + times_size wide m ≤ len → m < 4294967296 → i < m → at ≡ times + 4 + 2 * time_bytes wide + 4 * m
    → (i < 4294967296) × (at + time_bytes wide * i + time_bytes wide ≤ len)
delta_inside true times m i len at h k l e = (omega arith, omega arith)
delta_inside false times m i len at h k l e = (omega arith, omega arith)

-- the numbers that are read there
pub deltas_are : (s : List ℕ) (k start steps i p t : ℕ) (at : ℕ) → at ≡ start → p ≡ u32_at s (at + 4 * i) → (to : ℕ) → to ≡ steps → t ≡ number_at k s (to + k * i)
    → (p ≡ u32_at s (start + 4 * i)) × (t ≡ number_at k s (steps + k * i))
deltas_are s k start steps i p t at ea ep to et ex = (ep ∙ rw ea, ex ∙ rw et)

-- the number in eight bytes
pub eight : (s : List ℕ) (at x : ℕ)
    → x ≡ byte_at s at * 72057594037927936 + byte_at s (at + 1) * 281474976710656 + byte_at s (at + 2) * 1099511627776 + byte_at s (at + 3) * 4294967296
    + byte_at s (at + 4) * 16777216 + byte_at s (at + 5) * 65536 + byte_at s (at + 6) * 256 + byte_at s (at + 7)
    → x ≡ number_at 8 s at
eight s at x e =
    let at_5 : at + 4 + 1 ≡ at + 5 = omega arith in
    let at_6 : at + 4 + 2 ≡ at + 6 = omega arith in
    let at_7 : at + 4 + 3 ≡ at + 7 = omega arith in
    let low : u32_at s (at + 4) ≡ byte_at s (at + 4) * 16777216 + byte_at s (at + 5) * 65536 + byte_at s (at + 6) * 256 + byte_at s (at + 7) =
    rw (← at_5, ← at_6, ← at_7) (u32_bytes s (at + 4)) in
    omega (arith, number_8 s at, u32_bytes s at)

-- the time of bytes, with the bias
pub biased_is : (x : ℕ) → x < 18446744073709551616 → (x + bias) % 18446744073709551616 ≡ biased_bytes x
biased_is x top =
    elim (dec_le bias x) [
      | yes h ↦ simp (le-ltb x bias h) (omega arith)
      | no n ↦ (let h : x < bias = omega arith in simp (lt-ltb x bias h) (omega arith))
    ]
