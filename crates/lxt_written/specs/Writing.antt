-- Paper 02, Ask 5: the refusals 24 and 25, and what a call of the writer answers and leaves in the lent buffer.
use Rattle.std.specs.Prelude.{ℕ, Bool, true, not, ◌&&◌, List, [], ◌∷◌, length, ℤ, ltb, leb, eqb}
use Rattle.lxt_format.specs.Limits.{longest_file, most_facilities, longest_name, widest_facility}
use Rattle.lxt_format.specs.Basics.{◌unless◌, ◌or_else◌, Answer, answer, lent_after, all, any}
use Rattle.lxt_format.specs.Sections.{timescale_allowed}
use Rattle.lxt_format.specs.Geometry.{facts_by}
use Rattle.lxt_format.specs.Values.{symbols}
use Rattle.lxt_format.specs.Columns.{onto}
use Rattle.lxt_format.specs.declared.Kind.{Kind}
use Rattle.lxt_format.specs.declared.Kind.TheVariants.{Bits, Integer, Real, Text}
use Rattle.lxt_format.specs.declared.Facts.{Facts}
use Rattle.lxt_written.specs.Input.{Facility, Change, Trace, trace_of, rows_allowed}
use Rattle.lxt_written.specs.WrittenChanges.{numbered}
use Rattle.lxt_written.specs.WrittenFile.{file_of}

-- ---- 24: "the input breaks a limit or rule of document 01 or this ask"

-- "a zero inside a name or text"
unfoldable pub no_zero : List ℕ → Bool
no_zero bytes = all (λ b. not (eqb b 0)) bytes

-- "name 0 to 1,023 bytes"
unfoldable pub name_allowed : List ℕ → Bool
name_allowed name = leb (length name) longest_name && no_zero name

-- the facts of a facility: of bits the width is |msb - lsb| + 1, of the others it is theirs
unfoldable pub facts_for : Facility → Facts
facts_for f = facts_by f.kind f.msb f.lsb

-- "width 1 to 4,096 bits"
unfoldable pub facility_allowed : Facility → Bool
facility_allowed f = name_allowed f.name && leb (facts_for f).width widest_facility

-- a symbol of bits is one of 0 1 Z X H U W L -, of an integer "0 or 1"
unfoldable pub is_symbol : ℕ → Bool
is_symbol b = any (eqb b) symbols

unfoldable pub is_bit : ℕ → Bool
is_bit b = any (eqb b) (0x30 ∷ 0x31 ∷ [])

-- a value of this kind and width
unfoldable pub value_allowed : Kind → ℕ → List ℕ → Bool
value_allowed Bits width value = eqb (length value) width && all is_symbol value
value_allowed Integer width value = eqb (length value) width && all is_bit value
value_allowed Real width value = eqb (length value) 8
value_allowed Text width value = no_zero value

-- a value of facility f, which is below n
unfoldable pub value_of_allowed : List Facility → ℕ → List ℕ → Bool
value_of_allowed facilities f value =
    ltb f (length facilities) && value_allowed (numbered facilities f).kind (facts_for (numbered facilities f)).width value

-- "changes in file order with times .. that never fall", the first not below `time`
unfoldable pub changes_allowed : List Facility → ℕ → List Change → Bool
changes_allowed facilities time [] = true
changes_allowed facilities time (c ∷ cs) =
    leb time c.time && (value_of_allowed facilities c.facility c.value && changes_allowed facilities c.time cs)

-- "a timescale outside -21 to 2, an initial symbol above 8", more than 4,096 facilities
unfoldable pub trace_allowed : Trace → Bool
trace_allowed t =
    (leb (length t.facilities) most_facilities && (timescale_allowed t.timescale && leb t.initial 8))
    && (all facility_allowed t.facilities && changes_allowed t.facilities 0 t.changes)

-- with "a file past the size limit"
unfoldable pub input_allowed : List (List ℕ) → List ℕ → List (List ℕ) → List ℕ → ℕ → ℤ → Bool
input_allowed facilities names changes values initial timescale =
    rows_allowed facilities names changes values
    && (trace_allowed (trace_of facilities names changes values initial timescale)
    && leb (length (file_of (trace_of facilities names changes values initial timescale))) longest_file)

-- ---- the call

-- "Refusal 24, tested first ..; 25: no room for the exact length"
unfoldable pub write_refusal : List (List ℕ) → List ℕ → List (List ℕ) → List ℕ → ℕ → ℤ → ℕ → ℕ
write_refusal facilities names changes values initial timescale room =
    24 unless input_allowed facilities names changes values initial timescale
    or_else 25 unless leb (length (file_of (trace_of facilities names changes values initial timescale))) room

-- "A write answers this length"
unfoldable pub write_asked : List (List ℕ) → List ℕ → List (List ℕ) → List ℕ → ℕ → ℤ → ℕ → Answer ℕ
write_asked facilities names changes values initial timescale room =
    answer (write_refusal facilities names changes values initial timescale room) (length (file_of (trace_of facilities names changes values initial timescale)))

-- "and past it nothing lent changes"
unfoldable pub write_buffer : List (List ℕ) → List ℕ → List (List ℕ) → List ℕ → ℕ → ℤ → List ℕ → List ℕ
write_buffer facilities names changes values initial timescale out =
    lent_after
    (write_refusal facilities names changes values initial timescale (length out))
    (onto (file_of (trace_of facilities names changes values initial timescale)) out)
    out
