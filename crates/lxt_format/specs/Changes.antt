-- Paper 01, "One change and its chain": a change, its fault (15, 16), and chains. Paper 02, Ask 6: its padding.
use Rattle.std.specs.Prelude.{ℕ, zero, suc, ◌+◌, ◌*◌, ◌-◌, ◌/◌, ◌%◌, ◌^◌, ◌≤◌, ◌<◌, ◌≡◌, Bool, true, ◌&&◌, ◌||◌, List, [], ◌∷◌, map, take, ltb, leb, eqb, if◌then◌else◌}
use Rattle.std.proofs.Math.Seq.{slice}
use Rattle.lxt_format.specs.Basics.{◌unless◌, ◌or_else◌, all, joined, first_fault}
use Rattle.lxt_format.specs.Bytes.{byte_at, number_at, to_zero}
use Rattle.lxt_format.specs.declared.Kind.{Kind}
use Rattle.lxt_format.specs.declared.Kind.TheVariants.{Bits, Integer, Real, Text}

-- ---- the command byte and the delta

-- "bits 5 and 4 hold k - 1; bits 3 to 0 the command"
unfoldable pub command_of : List ℕ → ℕ → ℕ
command_of s o = byte_at s o % 16

unfoldable pub delta_size : List ℕ → ℕ → ℕ
delta_size s o = byte_at s o / 16 % 4 + 1

-- "a command byte, k delta bytes, data"
unfoldable pub delta_of : List ℕ → ℕ → ℕ
delta_of s o = number_at (delta_size s o) s (o + 1)

unfoldable pub data_at : List ℕ → ℕ → ℕ
data_at s o = o + 1 + delta_size s o

-- "The previous change is at o - delta - 2; 0 ends the chain." Where that lies below 0, this is 0; `previous_allowed` refuses it.
unfoldable pub previous_of : List ℕ → ℕ → ℕ
previous_of s o = o - (delta_of s o + 2)

-- ---- data

-- the column "Facility" of the table of commands
unfoldable pub command_allowed : Kind → ℕ → Bool
command_allowed Bits c = leb c 0xB
command_allowed Integer c = eqb c 0 || (eqb c 3 || eqb c 4)
command_allowed Real c = true
command_allowed Text c = true

-- the bits that a symbol takes: 1, 2 and 4 under the commands 0, 1 and 2; 3 to B have no data
unfoldable pub symbol_size : ℕ → ℕ
symbol_size c = if eqb c 0 then 1 else if eqb c 1 then 2 else if eqb c 2 then 4 else 0

-- "data fills whole bytes": the bytes of `width` symbols of b bits
unfoldable pub packed_size : ℕ → ℕ → ℕ
packed_size b width = (b * width + 7) / 8

-- "Symbols are packed from the top bit": the k codes of b bits in x, the highest first
unfoldable pub digits : ℕ → ℕ → ℕ → List ℕ
digits b zero x = []
digits b (suc k) x = x / 2 ^ (b * k) % 2 ^ b ∷ digits b k x

-- the first `width` codes of b bits in the bytes bs, of which each holds 8 / b
unfoldable pub unpack : ℕ → ℕ → List ℕ → List ℕ
unpack b width bs = take width (joined (digits b (8 / b)) bs)

-- the codes of `width` symbols of b bits whose data starts at o
unfoldable pub codes_at : List ℕ → ℕ → ℕ → ℕ → List ℕ
codes_at s b width o = unpack b width (slice o (o + packed_size b width) s)

-- "4 bits a symbol, codes 0 to 8"; fewer bits hold no more, and where there is no data there is no code
unfoldable pub codes_allowed : List ℕ → ℕ → ℕ → ℕ → Bool
codes_allowed s b width o = all (λ code. leb code 8) (codes_at s b width o)

-- paper 02, Ask 6: "a change's unused bits": those of the last data byte below its last code
unfoldable pub unused_bits : ℕ → ℕ → ℕ
unused_bits b width = 8 * packed_size b width - b * width

-- "padding was clean": they are 0. Where there are none, as under 3 to B, it was
unfoldable pub padding_clean : List ℕ → ℕ → ℕ → ℕ → Bool
padding_clean s b width o = eqb (byte_at s (o + packed_size b width - 1) % 2 ^ unused_bits b width) 0

-- ---- the changes of a facility

-- how they are read: they lie from C up to T, and have the facility's kind and width
pub record Signal : Type 0 where
  pub from : ℕ
  pub end : ℕ
  pub kind : Kind
  pub width : ℕ

abbrev pub signal : ℕ → ℕ → Kind → ℕ → Signal
signal C T kind width = record { from = C; end = T; kind = kind; width = width }

-- the bytes of a change's data: for a real "8 bytes", for a text "bytes up to and with a zero". Where no zero stands before T, that passes T.
unfoldable pub data_size : List ℕ → Signal → ℕ → ℕ
data_size s g o =
    elim g.kind [
      | Bits ↦ packed_size (symbol_size (command_of s o)) g.width
      | Integer ↦ packed_size (symbol_size (command_of s o)) g.width
      | Real ↦ 8
      | Text ↦ to_zero (slice (data_at s o) g.end s) + 1
    ]

-- Ask 6: "Refusal 16 no longer covers padding."
unfoldable pub data_allowed : List ℕ → Signal → ℕ → Bool
data_allowed s g o =
    elim g.kind [
      | Bits ↦ codes_allowed s (symbol_size (command_of s o)) g.width (data_at s o)
      | Integer ↦ codes_allowed s (symbol_size (command_of s o)) g.width (data_at s o)
      | Real ↦ true
      | Text ↦ true
    ]

-- whether the padding of the change at o was clean; a real and a text have none
unfoldable pub clean_at : List ℕ → Signal → ℕ → Bool
clean_at s g o =
    elim g.kind [
      | Bits ↦ padding_clean s (symbol_size (command_of s o)) g.width (data_at s o)
      | Integer ↦ padding_clean s (symbol_size (command_of s o)) g.width (data_at s o)
      | Real ↦ true
      | Text ↦ true
    ]

-- the offset after a change's last byte
unfoldable pub change_end : List ℕ → Signal → ℕ → ℕ
change_end s g o = data_at s o + data_size s g o

-- ---- faults

-- "previous offset below 0 or from 1 to C - 1 (15)"
unfoldable pub previous_allowed : List ℕ → ℕ → ℕ → Bool
previous_allowed s C o = leb (delta_of s o + 2) o && (eqb (previous_of s o) 0 || leb C (previous_of s o))

-- "At each change: start (15), command byte (16), whole change before T (15), data (16), previous offset (15)." Of the change at o; 0 where no
-- rule is broken
unfoldable pub fault_at : List ℕ → Signal → ℕ → ℕ
fault_at s g o =
    15 unless (leb g.from o && ltb o g.end)
    or_else 16 unless (ltb (byte_at s o) 0x40 && command_allowed g.kind (command_of s o))
    or_else 15 unless leb (change_end s g o) g.end
    or_else 16 unless data_allowed s g o
    or_else 15 unless previous_allowed s g.from o

-- ---- chains

-- "The chain starts at the sync entry; 0 there means no change." The changes from o on, newest first; each previous offset is lower by 2 at
-- least, so that o bounds their number.
unfoldable pub chain_within : ℕ → List ℕ → ℕ → List ℕ
chain_within zero s o = []
chain_within (suc k) s o = if eqb o 0 then [] else o ∷ chain_within k s (previous_of s o)

unfoldable pub chain_of : List ℕ → ℕ → List ℕ
chain_of s o = chain_within o s o

-- the first fault of the chain from o on, newest change first
unfoldable pub chain_fault : List ℕ → Signal → ℕ → ℕ
chain_fault s g o = first_fault (map (fault_at s g) (chain_of s o))

-- whether the padding of every change of the chain from o on was clean
unfoldable pub chain_clean : List ℕ → Signal → ℕ → Bool
chain_clean s g o = all (clean_at s g) (chain_of s o)

module _ (s : List ℕ) (g : Signal) where
  -- what a change without a fault keeps
  pub record Sound (o : ℕ) : Type 0 where
    pub starts : g.from ≤ o
    pub before : o < g.end
    pub top : byte_at s o < 0x40
    pub command : command_allowed g.kind (command_of s o) ≡ true
    pub ends : change_end s g o ≤ g.end
    pub data' : data_allowed s g o ≡ true
    pub previous : previous_allowed s g.from o ≡ true
