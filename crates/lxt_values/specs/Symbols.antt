-- What the functions on symbols ask of the file and of the room.
use Rattle.std.specs.Prelude.{ℕ, ◌+◌, ◌*◌, ◌/◌, ◌≤◌, ◌<◌, List, length}
use Rattle.lxt_format.specs.Changes.{command_of, data_at, symbol_size, packed_size}
use Rattle.lxt_format.specs.UnpackLaws.{Size}

-- `width` symbols of b bits lie in the file from o on
pub record Packed (s : List ℕ) (b width o : ℕ) : Type 0 where
  pub size : Size b
  pub inside : o + packed_size b width ≤ length s

-- step k finds its byte in the data from o on, and room for the first `count` symbols of it
pub record StepAsked (s : List ℕ) (o b k count room : ℕ) : Type 0 where
  pub size : Size b
  pub inside : o + k < length s
  pub some : count ≤ 8 / b
  pub enough : 8 / b * k + count ≤ room

-- the change at o holds `width` symbols: it lies in the file, and its command is one of bits
pub record Drawn (s : List ℕ) (width o : ℕ) : Type 0 where
  pub starts : o < length s
  pub inside : data_at s o + packed_size (symbol_size (command_of s o)) width ≤ length s
  pub command : command_of s o ≤ 0xB
