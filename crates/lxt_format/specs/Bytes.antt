-- Numbers in a file. A file is a list of bytes; past its end a byte counts as 0, so that every definition is total.
use Rattle.std.specs.Prelude.{ℕ, zero, suc, ◌+◌, ◌*◌, ◌-◌, ◌/◌, ◌%◌, ◌^◌, List, [], ◌∷◌, get_or, ℤ, pos, negsuc, ltb, eqb, if◌then◌else◌}

abbrev pub byte_at : List ℕ → ℕ → ℕ
byte_at s o = get_or s o 0

-- "All integers are big-endian." The number in k bytes from offset o on
unfoldable pub number_at : ℕ → List ℕ → ℕ → ℕ
number_at zero s o = 0
number_at (suc k) s o = byte_at s o * 256 ^ k + number_at k s (suc o)

unfoldable pub u16_at : List ℕ → ℕ → ℕ
u16_at s o = number_at 2 s o

unfoldable pub u32_at : List ℕ → ℕ → ℕ
u32_at s o = number_at 4 s o

-- n such numbers one after the other, k bytes each
unfoldable pub numbers_at : ℕ → ℕ → List ℕ → ℕ → List ℕ
numbers_at k zero s o = []
numbers_at k (suc n) s o = number_at k s o ∷ numbers_at k n s (o + k)

-- k bytes of a number, the lowest first, as of reals
unfoldable pub little_endian : ℕ → ℕ → List ℕ
little_endian zero x = []
little_endian (suc k) x = x % 256 ∷ little_endian k (x / 256)

-- a number of 8, 32 or 64 bits read as signed: in its upper half it stands for itself less 2 ^ bits
unfoldable pub signed : ℕ → ℕ → ℤ
signed bits x = if ltb x (2 ^ (bits - 1)) then pos x else negsuc (2 ^ bits - 1 - x)

-- and back: the number of so many bits that stands for it
unfoldable pub unsigned : ℕ → ℤ → ℕ
unsigned bits (pos n) = n
unsigned bits (negsuc n) = 2 ^ bits - suc n

-- how many bytes stand before the first zero; all where there is none
unfoldable pub to_zero : List ℕ → ℕ
to_zero [] = 0
to_zero (b ∷ l) = if eqb b 0 then 0 else suc (to_zero l)
