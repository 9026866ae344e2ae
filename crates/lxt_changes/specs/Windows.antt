-- Bytes that hold only codes of symbols, 4 bits each.
use Rattle.std.specs.Prelude.{ℕ, ◌+◌, ◌-◌, ◌≤◌, ◌<◌, ◌/◌, ◌%◌, ◌≡◌, ◌⊎◌, Bool, true, false, ◌&&◌, List, length, leb, Option, Some, is_some}
use Rattle.lxt_format.specs.Limits.{widest_facility}
use Rattle.lxt_format.specs.Basics.{range, all}
use Rattle.lxt_format.specs.Bytes.{byte_at}
use Rattle.lxt_format.specs.Changes.{packed_size}
use Rattle.lxt_changes.specs.declared.symbols.Window.{Window}

-- both codes of a byte are at most 8
unfoldable pub good_byte : ℕ → Bool
good_byte x = leb (x / 16 % 16) 8 && leb (x % 16) 8

-- all bytes from `from` up to `to` are good
unfoldable pub all_good : List ℕ → ℕ → ℕ → Bool
all_good s from to = all (λ i. good_byte (byte_at s i)) (range from (to - from))

abbrev pub Good : List ℕ → ℕ → ℕ → Type 0
Good s from to = (i : ℕ) → from ≤ i → i < to → good_byte (byte_at s i) ≡ true

-- what a scan from `to` down to `from` found: the bytes from r on are good, and the scan ended there
pub record Scanned (s : List ℕ) (from to r : ℕ) : Type 0 where
  pub high : r ≤ to
  pub good : Good s r to
  pub stop : from < r → good_byte (byte_at s (r - 1)) ≡ false
  pub low : from ≤ to → from ≤ r

-- what a scan from `from` up to `to` found: the bytes below r are good, and the scan ended there
pub record ScannedUp (s : List ℕ) (from to r : ℕ) : Type 0 where
  pub low : from ≤ r
  pub high : r ≤ to
  pub good : Good s from r
  pub stop : r < to → good_byte (byte_at s r) ≡ false

-- the bytes of a window are good
pub record Known (s : List ℕ) (w : Window) : Type 0 where
  pub good : Good s w.from w.to
  pub within : w.to ≤ length s

-- whether data is allowed: then a window that is known after that was found, else none
pub record Answered (s : List ℕ) (allowed : Bool) (r : Option Window) : Type 0 where
  pub answer : is_some r ≡ allowed
  pub known : (w : Window) → r ≡ Some w → Known s w

-- the data of `width` symbols of b bits lies in the file
pub record Data (s : List ℕ) (b width at : ℕ) : Type 0 where
  pub symbols : ((b ≡ 0) ⊎ (b ≡ 1)) ⊎ ((b ≡ 2) ⊎ (b ≡ 4))
  pub least : 1 ≤ width
  pub most : width ≤ widest_facility
  pub inside : at + packed_size b width ≤ length s
