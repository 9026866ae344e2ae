-- The laws of records.
use Prim.Native.Nat.{ℕ}
use mathlib.Core.Path.{◌≡◌, refl, ◌∙◌}
use mathlib.Core.List.{List}
use Rattle.lxt_format.specs.Values.{Content, bits, real, text, not_driven, source_of, source_by}
use Rattle.lxt_format.specs.Answers.{Shown, shown}
use Rattle.lxt_format.specs.Questions.{record_of, record_by}
use Rattle.lxt_format.specs.declared.Kind.{Kind}
use Rattle.lxt_format.specs.declared.Kind.TheVariants.{Bits, Integer, Real, Text}
use Rattle.lxt_column.specs.Listing.{undriven, record_from}

-- ---- by a content

-- the record by the value and the kind is that by the value and the text
pub record_is : (start lent : ℕ) (kind : Kind) (value : Content) → record_from start lent kind (shown value) ≡ record_by start (shown value) (source_by kind value lent)
unfolding record_from record_by record_of source_by source_of undriven
record_is start lent Bits (bits symbols) = refl
record_is start lent Bits (real x b) = refl
record_is start lent Bits (text from size) = refl
record_is start lent Bits not_driven = refl
record_is start lent Integer (bits symbols) = refl
record_is start lent Integer (real x b) = refl
record_is start lent Integer (text from size) = refl
record_is start lent Integer not_driven = refl
record_is start lent Real (bits symbols) = refl
record_is start lent Real (real x b) = refl
record_is start lent Real (text from size) = refl
record_is start lent Real not_driven = refl
record_is start lent Text (bits symbols) = refl
record_is start lent Text (real x b) = refl
record_is start lent Text (text from size) = refl
record_is start lent Text not_driven = refl

pub record_by_lem : (start lent : ℕ) (kind : Kind) (value : Content) (v : Shown) (r : List ℕ) → v ≡ shown value → r ≡ record_from start lent kind v
    → r ≡ record_by start (shown value) (source_by kind value lent)
record_by_lem start lent kind value v r ev er = er ∙ rw ev (record_is start lent kind value)
