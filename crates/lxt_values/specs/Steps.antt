-- Paper 02, Ask 3: "take a byte of the 1-bit form at a time". What the steps of unpacking write; of symbols of b bits, since the forms of 2 and of 4 bits
-- are unpacked alike. The claim is `Bytewise`; its proof is `bytewise` (proofs/StepLaws).
use Rattle.std.specs.Prelude.{ℕ, zero, suc, ◌+◌, ◌*◌, ◌-◌, ◌/◌, ◌≤◌, ◌<◌, ◌≡◌, List, map, ◌++◌, length, take, drop}
use Rattle.lxt_format.specs.Buffers.{placed}
use Rattle.lxt_format.specs.Bytes.{byte_at}
use Rattle.lxt_format.specs.Changes.{digits, codes_at}
use Rattle.lxt_format.specs.Values.{symbol_of}

-- the symbols of a byte, which holds 8 / b
unfoldable pub symbols_of_byte : ℕ → ℕ → List ℕ
symbols_of_byte b x = map symbol_of (digits b (8 / b) x)

-- "each reading one data byte and writing its eight symbols, the last step those left": what step k writes, of `width` symbols whose data starts at o
unfoldable pub step_symbols : List ℕ → ℕ → ℕ → ℕ → ℕ → List ℕ
step_symbols s b width o k = take (width - 8 / b * k) (symbols_of_byte b (byte_at s (o + k)))

-- what a buffer holds after the first k steps
unfoldable pub after_steps : List ℕ → ℕ → ℕ → ℕ → ℕ → List ℕ → List ℕ
after_steps s b width o zero bits = bits
after_steps s b width o (suc k) bits = placed (after_steps s b width o k bits) (8 / b * k) (step_symbols s b width o k)

-- "Prove that a value of width w takes w / 8 steps, rounded up": so many steps write all symbols and leave the rest as it was; each but the last writes
-- eight, and the last those left, at least one
pub record Steps (s : List ℕ) (width o : ℕ) (bits : List ℕ) : Type 0 where
  pub all : after_steps s 1 width o ((width + 7) / 8) bits ≡ map symbol_of (codes_at s 1 width o) ++ drop width bits
  pub eight : (k : ℕ) → k + 1 < (width + 7) / 8 → step_symbols s 1 width o k ≡ symbols_of_byte 1 (byte_at s (o + k))
  pub last : (k : ℕ) → k + 1 ≡ (width + 7) / 8 → (length (step_symbols s 1 width o k) ≡ width - 8 * k) × (8 * k < width)

-- of any data that lies in the file and any buffer with room for its symbols
unfoldable pub Bytewise : Type 0
Bytewise = (s : List ℕ) (width o : ℕ) (bits : List ℕ) → o + (width + 7) / 8 ≤ length s → width ≤ length bits → Steps s width o bits
