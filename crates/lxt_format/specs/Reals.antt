-- Paper 01, "Names, facilities, times": the byte order of reals, refusal 14.
use Rattle.std.specs.Prelude.{ℕ, suc, ◌+◌, ◌*◌, Bool, true, false, not, ◌&&◌, ◌||◌, List, [], ◌∷◌, map, take, drop, ltb, eqb, Float, if◌then◌else◌}
use Rattle.std.specs.Float.{binary64}
use Rattle.std.specs.Float.Ieee.{of_bits}
use Rattle.lxt_format.specs.Basics.{all, any}
use Rattle.lxt_format.specs.Bytes.{byte_at}
use Rattle.lxt_format.specs.Sections.{section_of, present, inside, end_of}
use Rattle.lxt_format.specs.Geometry.{roots_of, own_facts}
use Rattle.lxt_format.specs.declared.Kind.{Kind}
use Rattle.lxt_format.specs.declared.Kind.TheVariants.{Bits, Integer, Real, Text}

-- "6E 86 1B F0 F9 21 09 40 (3.14159 in binary64, lowest byte first)"
abbrev pub test_pattern : List ℕ
test_pattern = 0x6E ∷ 0x86 ∷ 0x1B ∷ 0xF0 ∷ 0xF9 ∷ 0x21 ∷ 0x09 ∷ 0x40 ∷ []

-- where a byte stands among the bytes bs; past their end where it does not
unfoldable pub place_of : ℕ → List ℕ → ℕ
place_of b [] = 0
place_of b (x ∷ bs) = if eqb x b then 0 else suc (place_of b bs)

-- "real test: 8 bytes"
unfoldable pub test_bytes : List ℕ → List ℕ
test_bytes s = take 8 (drop (section_of s 0x08) s)

-- "The real test is a reordering of" the pattern. "All eight differ", so it is enough that each is there.
unfoldable pub is_reordering : List ℕ → Bool
is_reordering test = all (λ b. ltb (place_of b test) 8) test_pattern

-- "it fixes the byte order of every real": byte i of a real, lowest first, is data byte j where test byte j is byte i of the pattern
unfoldable pub byte_order : List ℕ → List ℕ
byte_order s = map (λ b. place_of b (test_bytes s)) test_pattern

unfoldable pub is_real : Kind → Bool
is_real Bits = false
is_real Integer = false
is_real Real = true
is_real Text = false

unfoldable pub has_real : List ℕ → Bool
has_real s = any (λ f. is_real (own_facts s f).kind) (roots_of s)

-- 14: "a real facility, and 08 absent, out of bounds or wrong"
unfoldable pub real_test_allowed : List ℕ → Bool
real_test_allowed s =
    not (has_real s)
    || (present s 0x08 && (inside (end_of s) (section_of s 0x08) 8 && is_reordering (test_bytes s)))

-- the 64 bits of the real whose data starts at o: the bytes at the places `order`, lowest first
unfoldable pub bits_in_order : List ℕ → ℕ → List ℕ → ℕ
bits_in_order s o [] = 0
bits_in_order s o (j ∷ order) = byte_at s (o + j) + 256 * bits_in_order s o order

unfoldable pub real_bits : List ℕ → ℕ → ℕ
real_bits s o = bits_in_order s o (byte_order s)

-- the number of 64 bits; `of_bits` gives the one NaN for every pattern of a NaN
unfoldable pub real_of : ℕ → Float
real_of bits = of_bits binary64 bits
