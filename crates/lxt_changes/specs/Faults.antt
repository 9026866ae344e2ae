-- The faults of a change, test by test.
use Rattle.std.specs.Prelude.{ℕ, ◌+◌, ◌-◌, ◌≤◌, ◌<◌, ◌≡◌, Bool, true, false, ◌&&◌, List, length, ltb, leb, Result, Ok, Err, IfOk}
use Rattle.lxt_format.specs.Limits.{widest_facility}
use Rattle.lxt_format.specs.Basics.{◌unless◌, ◌or_else◌, Answer, given, refused, answer}
use Rattle.lxt_format.specs.Answers.{refusal_number}
use Rattle.lxt_format.specs.declared.refusal.Refusal.{Refusal}
use Rattle.lxt_format.specs.Bytes.{byte_at}
use Rattle.lxt_format.specs.Changes.{signal, command_of, data_at, command_allowed, symbol_size, packed_size, codes_allowed, padding_clean, data_allowed, change_end}
use Rattle.lxt_format.specs.declared.Kind.{Kind}
use Rattle.lxt_format.specs.declared.Kind.TheVariants.{Bits, Integer, Real, Text}
use Rattle.lxt_changes.specs.Windows.{Known}
use Rattle.lxt_changes.specs.declared.fault.Sound.{Sound}

-- the last zero before `end` is the byte before z; there is none where z is 0
pub record LastZero (s : List ℕ) (end z : ℕ) : Type 0 where
  pub within : z ≤ end
  pub zero_there : 0 < z → byte_at s (z - 1) ≡ 0
  pub none_after : (i : ℕ) → z ≤ i → i < end → byte_at s i ≡ 0 → ⊥

-- the start and the command byte
unfoldable pub start_fault : List ℕ → ℕ → ℕ → Kind → ℕ → ℕ
start_fault s C T kind o =
    15 unless (leb C o && ltb o T)
    or_else 16 unless (ltb (byte_at s o) 0x40 && command_allowed kind (command_of s o))

-- the end and the data, for which C does not matter: 0 stands for it
unfoldable pub body_fault : List ℕ → ℕ → Kind → ℕ → ℕ → ℕ
body_fault s T kind width o = 15 unless leb (change_end s (signal 0 T kind width) o) T or_else 16 unless data_allowed s (signal 0 T kind width) o

-- the same for a change of symbols
unfoldable pub symbol_fault : List ℕ → ℕ → ℕ → ℕ → ℕ
symbol_fault s T width o =
    15 unless leb (data_at s o + packed_size (symbol_size (command_of s o)) width) T
    or_else 16 unless codes_allowed s (symbol_size (command_of s o)) width (data_at s o)

-- and its padding
unfoldable pub symbol_clean : List ℕ → ℕ → ℕ → Bool
symbol_clean s width o = padding_clean s (symbol_size (command_of s o)) width (data_at s o)

-- whether the padding was clean, or the fault
abbrev pub sound_says : Result Sound Refusal → Answer Bool
sound_says (Ok r) = given r.clean
sound_says (Err e) = refused (refusal_number e)

-- a change's fault that was found; where it has none, whether its padding was clean, and what is known after that
pub record Found (s : List ℕ) (fault : ℕ) (padding : Bool) (r : Result Sound Refusal) : Type 0 where
  pub told : sound_says r ≡ answer fault padding
  pub known : IfOk r (λ x. Known s x.window)

-- a kind whose data are symbols
unfoldable pub symbolic : Kind → Bool
symbolic Bits = true
symbolic Integer = true
symbolic Real = false
symbolic Text = false

-- what the faults of a facility's changes are found with: T lies in the file, z is past the last zero before it, and the width is allowed
pub record Setting (s : List ℕ) (T z : ℕ) (kind : Kind) (width : ℕ) : Type 0 where
  pub within : T ≤ length s
  pub last : LastZero s T z
  pub least : symbolic kind ≡ true → 1 ≤ width
  pub most : width ≤ widest_facility
