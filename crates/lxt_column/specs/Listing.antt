-- What the functions of this crate ask of a file, of the list of facility numbers and of what is known of its roots.
use Rattle.std.specs.Prelude.{ℕ, ◌/◌, ◌%◌, ◌≤◌, ◌<◌, ◌≡◌, true, false, List, [], ◌∷◌, length, get_or, ltb}
use Rattle.lxt_format.specs.Limits.{most_facilities, longest_column}
use Rattle.lxt_format.specs.Basics.{all}
use Rattle.lxt_format.specs.Sections.{facility_count}
use Rattle.lxt_format.specs.Geometry.{is_alias, sync_of}
use Rattle.lxt_format.specs.Changes.{chain_of}
use Rattle.lxt_format.specs.Judge.{file_refusal}
use Rattle.lxt_format.specs.Answers.{Shown, bits_of, real_of, text_of, nothing}
use Rattle.lxt_format.specs.declared.Kind.{Kind}
use Rattle.lxt_format.specs.declared.Kind.TheVariants.{Bits, Integer, Real, Text}
use Rattle.lxt_tables.specs.Stage.{tables_of}
use Rattle.lxt_tables.specs.declared.Tables.{Tables}
use Rattle.lxt_values.specs.Times.{first_below, visited_to}

-- an accepted file with its tables, and a list of numbers of its facilities that is not too long
pub record Listed (s : List ℕ) (t : Tables) (asked : List ℕ) : Type 0 where
  pub accepted : file_refusal s ≡ 0
  pub tables : t ≡ tables_of s
  pub short : length asked ≤ longest_column
  pub below : all (λ f. ltb f (facility_count s)) asked ≡ true

-- an accepted file with its tables, and one of its roots
pub record Rooted (s : List ℕ) (t : Tables) (root : ℕ) : Type 0 where
  pub accepted : file_refusal s ≡ 0
  pub tables : t ≡ tables_of s
  pub below : root < facility_count s
  pub plain : is_alias s root ≡ false

-- no chain has been followed for this root
abbrev pub unknown : ℕ
unknown = 0xFFFF_FFFF_FFFF_FFFF

-- no root is known
pub record Forgotten (known : List ℕ) : Type 0 where
  pub room : most_facilities ≤ length known
  pub none : (r : ℕ) → r < length known → get_or known r 0 ≡ unknown

-- for each root that is known, its first change below `end` and how many changes are visited to find it, in one number
pub record Remembered (s : List ℕ) (end : ℕ) (known : List ℕ) : Type 0 where
  pub room : most_facilities ≤ length known
  pub right : (r : ℕ) → r < length known → (get_or known r 0 ≡ unknown → ⊥)
      → (get_or known r 0 / 0x1_0000_0000 ≡ first_below end (chain_of s (sync_of s r))) × (get_or known r 0 % 0x1_0000_0000 ≡ visited_to end (chain_of s (sync_of s r)))

-- the record of a facility without bits that has no change up to the time
unfoldable pub undriven : Kind → ℕ → List ℕ
undriven Bits lent = 3 ∷ 0 ∷ 0 ∷ 0 ∷ []
undriven Integer lent = 3 ∷ 0 ∷ 0 ∷ 0 ∷ []
undriven Real lent = 3 ∷ 0 ∷ 0 ∷ 0 ∷ []
undriven Text lent = 4 ∷ 0 ∷ lent ∷ 0 ∷ []

-- the record by what is answered of the value
unfoldable pub record_from : ℕ → ℕ → Kind → Shown → List ℕ
record_from start lent kind (bits_of width) = 0 ∷ start ∷ width ∷ 0 ∷ []
record_from start lent kind (real_of x b) = 1 ∷ 0 ∷ 0 ∷ b ∷ []
record_from start lent kind (text_of from size) = 2 ∷ from ∷ size ∷ 0 ∷ []
record_from start lent kind nothing = undriven kind lent
