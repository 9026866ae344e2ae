-- What reading a value asks.
use Rattle.std.specs.Prelude.{ℕ, ◌≤◌, ◌≡◌, List, length, replicate, Option, Some, None}
use Rattle.lxt_format.specs.Limits.{longest_file}
use Rattle.lxt_format.specs.Sections.{changes_from, end_of}
use Rattle.lxt_format.specs.Reals.{byte_order}
use Rattle.lxt_format.specs.Changes.{signal}
use Rattle.lxt_format.specs.Changes.{Sound}
use Rattle.lxt_format.specs.Values.{Content, bits, not_driven, symbol_of, content_by}
use Rattle.lxt_format.specs.declared.Kind.{Kind}
use Rattle.lxt_format.specs.declared.Kind.TheVariants.{Bits, Integer, Real, Text}
use Rattle.lxt_values.specs.Reals.{Places}

-- a change of that kind and width that breaks no rule, the byte order of a real, and room for the symbols
pub record Readies (s : List ℕ) (end : ℕ) (order : List ℕ) (kind : Kind) (width o room : ℕ) : Type 0 where
  pub sound : Sound s (signal (changes_from s) (end_of s) kind width) o
  pub limit : end ≡ end_of s
  pub within : end ≤ length s
  pub short : length s ≤ longest_file
  pub ordered : kind ≡ Real → order ≡ byte_order s
  pub places : kind ≡ Real → Places order
  pub enough : width ≤ room

-- what a facility shows before its first change, by the code of the initial symbol
unfoldable pub start_content : Kind → ℕ → ℕ → Content
start_content Bits width code = bits (replicate width (symbol_of code))
start_content Integer width code = bits (replicate width (symbol_of code))
start_content Real width code = not_driven
start_content Text width code = not_driven

-- what it shows by its latest change, and where there is none
unfoldable pub content_from : List ℕ → ℕ → Kind → ℕ → Option ℕ → Content
content_from s code kind width None = start_content kind width code
content_from s code kind width (Some o) = content_by s kind width o

-- room for the symbols, and such a change where there is one
pub record Shows (s : List ℕ) (end : ℕ) (order : List ℕ) (kind : Kind) (width : ℕ) (latest : Option ℕ) (room : ℕ) : Type 0 where
  pub enough : width ≤ room
  pub ready : (o : ℕ) → latest ≡ Some o → Readies s end order kind width o room
