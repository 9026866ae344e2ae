-- What the functions over one change answer and ask.
use Rattle.std.specs.Prelude.{ℕ, ⊤, ◌+◌, ◌*◌, ◌-◌, ◌≤◌, ◌<◌, ◌≡◌, true, Option, Some, None, List, ◌∷◌, length, if◌then◌else◌}
use Rattle.lxt_format.specs.Basics.{all}
use Rattle.lxt_format.specs.Buffers.{placed}
use Rattle.lxt_format.specs.Changes.{symbol_size, packed_size}
use Rattle.lxt_format.specs.declared.Kind.{Kind}
use Rattle.lxt_format.specs.declared.Kind.TheVariants.{Bits, Integer, Real, Text}
use Rattle.lxt_written.specs.WrittenChanges.{big_endian, can_hold, data_for, fewest_bytes, change_bytes}
use Rattle.lxt_written.specs.Writing.{is_symbol, value_allowed}

-- the widths of a kind
abbrev pub WidthFor : Kind → ℕ → Type 0
WidthFor Bits width = (1 ≤ width) × (width ≤ 4096)
WidthFor Integer width = width ≡ 32
WidthFor Real width = width ≡ 0
WidthFor Text width = width ≡ 0

-- the bytes of a value's data, and of its change, where the value is allowed
unfoldable pub size_for : Kind → ℕ → List ℕ → Option ℕ
size_for kind width value = if value_allowed kind width value then Some (length (data_for kind value)) else None

unfoldable pub change_size : Kind → ℕ → ℕ → List ℕ → Option ℕ
change_size kind width delta value = if value_allowed kind width value then Some (length (change_bytes kind delta value)) else None

-- where there is a number, it is at most this
abbrev pub AtMost : ℕ → Option ℕ → Type 0
AtMost most (Some n) = n ≤ most
AtMost most None = ⊤

pub record Sizes (kind : Kind) (width : ℕ) (value : List ℕ) (r : Option ℕ) : Type 0 where
  pub is : r ≡ size_for kind width value
  pub most : AtMost 4294967296 r

-- a command byte and a delta
unfoldable pub head_of : ℕ → ℕ → List ℕ
head_of command delta = (16 * (fewest_bytes delta - 1) + command) ∷ big_endian (fewest_bytes delta) delta

-- 256 ^ (3 - k), for k of 1 to 3
pub data Scales : ℕ → ℕ → Type 0 where
  one : Scales 1 65536
  two : Scales 2 256
  three : Scales 3 1

-- a command and a delta of at most 3 bytes, with room for 4
pub record HeadAsked (command delta : ℕ) (out : List ℕ) (at : ℕ) : Type 0 where
  pub command_small : command < 16
  pub delta_small : delta < 16777216
  pub room : at + 4 ≤ length out

-- symbols that a command holds, with room for their bytes
pub record Held (value : List ℕ) (command : ℕ) (out : List ℕ) (at : ℕ) : Type 0 where
  pub most : length value ≤ 4096
  pub symbols : all is_symbol value ≡ true
  pub holds : can_hold Bits value command ≡ true
  pub room : at + packed_size (symbol_size command) (length value) ≤ length out

-- a value of this kind that is allowed, and whose length is a number of 32 bits, with room for its change
pub record Sound (kind : Kind) (value : List ℕ) (delta : ℕ) (out : List ℕ) (at : ℕ) : Type 0 where
  pub size : length value < 4294967296
  pub width : ℕ
  pub wide : WidthFor kind width
  pub allowed : value_allowed kind width value ≡ true
  pub room : at + length (change_bytes kind delta value) ≤ length out
  pub spare : at + 4 ≤ length out
  pub delta_small : delta < 16777216

-- a change that was put from `at` up to r
pub record Puts (kind : Kind) (value : List ℕ) (delta : ℕ) (out : List ℕ) (at : ℕ) (out' : List ℕ) (r : ℕ) : Type 0 where
  pub puts : out' ≡ placed out at (change_bytes kind delta value)
  pub ends : r ≡ at + length (change_bytes kind delta value)
