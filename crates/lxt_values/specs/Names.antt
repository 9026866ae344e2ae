-- What the functions on names ask of the file, and the name that they answer.
use Rattle.std.specs.Prelude.{ℕ, suc, ◌+◌, ◌≤◌, ◌<◌, ◌≡◌, refl, Bool, true, false, List, [], length, take, drop}
use Rattle.std.proofs.Math.Option.{Option, none, some}
use Rattle.std.proofs.Math.Seq.{slice}
use Rattle.lxt_format.specs.Limits.{longest_name}
use Rattle.lxt_format.specs.Sections.{section_of, end_of, facility_count}
use Rattle.lxt_format.specs.Names.{names_in, within_memory, name_among, name_table, name_of}

-- the name of facility f of the n names from `at` up to `end`
unfoldable pub name_at : List ℕ → ℕ → ℕ → ℕ → ℕ → List ℕ
name_at s at end n f = name_among f (names_in n (slice at end s) [])

-- these names lie in the file and are allowed, and f is one of their numbers
pub record Named (s : List ℕ) (at end n memory f : ℕ) : Type 0 where
  pub start : at ≤ end
  pub inside : end ≤ length s
  pub allowed : within_memory memory (names_in n (slice at end s) []) ≡ true
  pub number : f < n

-- between the head of the names and T it is the facility's name
pub name_is : (s : List ℕ) (f : ℕ) → name_at s (section_of s 0x03 + 8) (end_of s) (facility_count s) f ≡ name_of s f
unfolding name_at name_of name_table
name_is s f = refl

-- ---- one name after the other

-- no rule is broken
unfoldable pub accepted : Option (List (List ℕ)) → Bool
accepted none = false
accepted (some names) = true

-- the `left` names from p up to T, after the name that a buffer holds as its first `before` bytes
abbrev pub coming : List ℕ → ℕ → ℕ → ℕ → ℕ → List ℕ → Option (List (List ℕ))
coming s T left p before buffer = names_in left (slice p T s) (take before buffer)

-- they are allowed
pub record Coming (s : List ℕ) (T left p before : ℕ) (buffer : List ℕ) : Type 0 where
  pub inside : T ≤ length s
  pub in_t : p ≤ T
  pub room : longest_name ≤ length buffer
  pub small : before ≤ longest_name
  pub allowed : accepted (coming s T left p before buffer) ≡ true

-- the first of them is read: the buffer holds it as its first `size` bytes, the others follow, and bytes from 1,023 on stay
pub record Read (s : List ℕ) (T left p before : ℕ) (buffer : List ℕ) (left' p' size : ℕ) (buffer' : List ℕ) : Type 0 where
  pub rest : Coming s T left' p' size buffer'
  pub count : left' + 1 ≡ left
  pub name : take size buffer' ≡ name_among 0 (coming s T left p before buffer)
  pub others : (j : ℕ) → name_among j (coming s T left' p' size buffer') ≡ name_among (suc j) (coming s T left p before buffer)
  pub same_length : length buffer' ≡ length buffer
  pub tail : drop longest_name buffer' ≡ drop longest_name buffer
