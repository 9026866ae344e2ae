-- Paper 01, "One change and its chain": the values of changes.
use Rattle.std.specs.Prelude.{ℕ, ◌+◌, ◌-◌, max, List, [], ◌∷◌, map, length, get_or, replicate, ℤ, eqb, Float, if◌then◌else◌}
use Rattle.std.proofs.Math.Seq.{slice}
use Rattle.std.specs.Int.Signed.{le_z, lt_z}
use Rattle.lxt_format.specs.Basics.{select}
use Rattle.lxt_format.specs.Bytes.{to_zero}
use Rattle.lxt_format.specs.Sections.{end_of, initial_of}
use Rattle.lxt_format.specs.Geometry.{own_facts, sync_of}
use Rattle.lxt_format.specs.Times.{time_of}
use Rattle.lxt_format.specs.Reals.{real_bits, real_of}
use Rattle.lxt_format.specs.Changes.{command_of, data_at, symbol_size, codes_at, chain_of}
use Rattle.lxt_format.specs.declared.Kind.{Kind}
use Rattle.lxt_format.specs.declared.Kind.TheVariants.{Bits, Integer, Real, Text}

-- "A value is bits, a real number or a text." Bits are their symbols; a real has its 64 bits beside it; a text is its start and length in the file.
-- The last is the answer "not driven".
pub data Content : Type 0 where
  bits : List ℕ → Content
  real : Float → ℕ → Content
  text : ℕ → ℕ → Content
  not_driven : Content

-- "codes 0 to 8: 0 1 Z X H U W L -", in ASCII; the codes of 1 and of 2 bits are the first of these
abbrev pub symbols : List ℕ
symbols = 0x30 ∷ 0x31 ∷ 0x5A ∷ 0x58 ∷ 0x48 ∷ 0x55 ∷ 0x57 ∷ 0x4C ∷ 0x2D ∷ []

unfoldable pub symbol_of : ℕ → ℕ
symbol_of code = get_or symbols code 0

-- "Bits are written as ASCII symbols, one byte each". Under the commands 3 to B "all" are the symbol of the code that is 3 less.
unfoldable pub symbols_at : List ℕ → ℕ → ℕ → List ℕ
symbols_at s width o =
    if eqb (symbol_size (command_of s o)) 0 then replicate width (symbol_of (command_of s o - 3))
    else map symbol_of (codes_at s (symbol_size (command_of s o)) width (data_at s o))

-- "a text is answered as the start and length of its part of the file, without the zero"
unfoldable pub content_by : List ℕ → Kind → ℕ → ℕ → Content
content_by s Bits width o = bits (symbols_at s width o)
content_by s Integer width o = bits (symbols_at s width o)
content_by s Real width o = real (real_of (real_bits s (data_at s o))) (real_bits s (data_at s o))
content_by s Text width o = text (data_at s o) (to_zero (slice (data_at s o) (end_of s) s))

-- the value of the change at o of the root f
unfoldable pub content_of : List ℕ → ℕ → ℕ → Content
content_of s f o = content_by s (own_facts s f).kind (own_facts s f).width o

-- "At a time t .., the value is that of the change of highest offset with time ≤ t": that offset among the offsets os, or 0 where there is none
unfoldable pub latest_at : List ℕ → ℤ → List ℕ → ℕ
latest_at s t [] = 0
latest_at s t (o ∷ os) = if le_z (time_of s o) t then max o (latest_at s t os) else latest_at s t os

unfoldable pub change_at : List ℕ → ℕ → ℤ → ℕ
change_at s f t = latest_at s t (chain_of s (sync_of s f))

-- Paper 02, Ask 7: "the number of changes visited: those of that root with time after t, plus the change answered, if any": among the offsets os, and of
-- the root f
unfoldable pub visited_in : List ℕ → ℤ → List ℕ → ℕ
visited_in s t os = length (select (λ o. lt_z t (time_of s o)) os) + (if eqb (latest_at s t os) 0 then 0 else 1)

unfoldable pub visited_at : List ℕ → ℕ → ℤ → ℕ
visited_at s f t = visited_in s t (chain_of s (sync_of s f))

-- "Where there is none, bits and integers show the initial symbol at every place, and reals and texts answer "not driven"."
unfoldable pub initial_by : List ℕ → Kind → ℕ → Content
initial_by s Bits width = bits (replicate width (symbol_of (initial_of s)))
initial_by s Integer width = bits (replicate width (symbol_of (initial_of s)))
initial_by s Real width = not_driven
initial_by s Text width = not_driven

-- the value of the root f at the time t
unfoldable pub content_at : List ℕ → ℕ → ℤ → Content
content_at s f t =
    if eqb (change_at s f t) 0 then initial_by s (own_facts s f).kind (own_facts s f).width
    else content_of s f (change_at s f t)

-- Paper 02, Ask 11: "The answer is then a part of the file or a part of the lent text, and a second answer says which; where .. the kind is another, that answer
-- .. says so": the start and length of a part of the file, the lent text by its length, or another kind
pub data TextSource : Type 0 where
  in_file : ℕ → ℕ → TextSource
  lent_text : ℕ → TextSource
  other_kind : TextSource

-- "For a text facility before its first change, the default is now a text that the caller lends", of so many bytes: by the value that is driven or not
unfoldable pub source_of : Content → ℕ → TextSource
source_of (text start size) lent = in_file start size
source_of not_driven lent = lent_text lent
source_of (bits _) lent = other_kind
source_of (real x b) lent = other_kind

-- "the kind is another": bits, integers and reals, driven or not
unfoldable pub source_by : Kind → Content → ℕ → TextSource
source_by Bits value lent = other_kind
source_by Integer value lent = other_kind
source_by Real value lent = other_kind
source_by Text value lent = source_of value lent

-- the text of the root f at the time t
unfoldable pub text_at : List ℕ → ℕ → ℤ → ℕ → TextSource
text_at s f t lent = source_by (own_facts s f).kind (content_at s f t) lent
