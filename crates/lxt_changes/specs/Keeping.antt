-- A change that keeps the rules of 15 and 16, rule by rule, without the number of the one that it breaks.
use Rattle.std.specs.Prelude.{ℕ, ◌+◌, ◌≤◌, ◌≡◌, Bool, true, ◌&&◌, List, length, ltb, leb, eqb, if◌then◌else◌, Option, Some, None}
use Rattle.lxt_format.specs.Limits.{widest_facility}
use Rattle.lxt_format.specs.Bytes.{byte_at}
use Rattle.lxt_format.specs.Changes.{signal, command_of, data_at, command_allowed, symbol_size, packed_size, codes_allowed, padding_clean, previous_allowed, change_end, fault_at, clean_at}
use Rattle.lxt_format.specs.declared.Kind.{Kind}
use Rattle.lxt_changes.specs.Faults.{symbolic}
use Rattle.lxt_changes.specs.declared.keep.Kept.{Kept}

-- all rules but those of the data, with T for the end
unfoldable pub head_kept : List ℕ → ℕ → ℕ → Kind → ℕ → Bool
head_kept s C T kind o =
    ltb o T && (leb (data_at s o) T && (leb C o && ((ltb (byte_at s o) 0x40 && command_allowed kind (command_of s o)) && previous_allowed s C o)))

-- the rules of symbols
unfoldable pub symbols_kept : List ℕ → ℕ → ℕ → ℕ → Bool
symbols_kept s T width o =
    leb (data_at s o + packed_size (symbol_size (command_of s o)) width) T && codes_allowed s (symbol_size (command_of s o)) width (data_at s o)

-- whether the padding of a change was clean and where it ends, if it keeps the rules
abbrev pub kept_with : Bool → Bool → ℕ → Option Kept
kept_with kept clean end = if kept then Some (record { clean = clean; end = end }) else None

-- what was found of a change of symbols
abbrev pub SymbolsKept : List ℕ → ℕ → ℕ → ℕ → Option Kept → Type 0
SymbolsKept s T width o r =
    r ≡ kept_with (symbols_kept s T width o) (padding_clean s (symbol_size (command_of s o)) width (data_at s o))
    (data_at s o + packed_size (symbol_size (command_of s o)) width)

-- and of a change of any kind
abbrev pub Keeps : List ℕ → ℕ → ℕ → Kind → ℕ → ℕ → Option Kept → Type 0
Keeps s C T kind width o r =
    r ≡ kept_with (eqb (fault_at s (signal C T kind width) o) 0) (clean_at s (signal C T kind width) o) (change_end s (signal C T kind width) o)

-- T lies in the file, and the width is allowed
pub record Wide (s : List ℕ) (T : ℕ) (kind : Kind) (width : ℕ) : Type 0 where
  pub within : T ≤ length s
  pub least : symbolic kind ≡ true → 1 ≤ width
  pub most : width ≤ widest_facility
