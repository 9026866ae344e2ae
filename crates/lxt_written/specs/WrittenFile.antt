-- Paper 02, Ask 5: "write an LXT file of version 4 with tag 06". The sections, and the whole file.
use Rattle.std.specs.Prelude.{ℕ, suc, ◌+◌, ◌-◌, Bool, List, [], ◌∷◌, ◌++◌, map, reverse, length, get_or, drop, ℤ, pos, negsuc, eqb, if◌then◌else◌}
use Rattle.lxt_format.specs.Basics.{range, any, joined}
use Rattle.lxt_format.specs.Sections.{Item, value_in}
use Rattle.lxt_format.specs.Names.{memory_of}
use Rattle.lxt_format.specs.Reals.{test_pattern, is_real}
use Rattle.lxt_format.specs.declared.Kind.{Kind}
use Rattle.lxt_format.specs.declared.Kind.TheVariants.{Bits, Integer, Real, Text}
use Rattle.lxt_written.specs.Input.{Facility, Trace}
use Rattle.lxt_written.specs.WrittenChanges.{big_endian, last_of, Laid, pair_of, laid, changes_bytes}

-- numbers of 4 bytes each
abbrev pub words : List ℕ → List ℕ
words numbers = joined (big_endian 4) numbers

-- ---- 03: names

-- how many bytes two names share at their starts
unfoldable pub shared : List ℕ → List ℕ → ℕ
shared [] name = 0
shared (x ∷ before) [] = 0
shared (x ∷ before) (y ∷ name) = if eqb x y then suc (shared before name) else 0

-- "Names use the longest shared prefix"; "A name is a 2-byte prefix length and a zero-terminated suffix"
unfoldable pub name_bytes : List ℕ → List ℕ → List ℕ
name_bytes before name = big_endian 2 (shared before name) ++ (drop (shared before name) name ++ (0 ∷ []))

-- names after the name `before`, "the first: from an empty name"
unfoldable pub names_from : List ℕ → List (List ℕ) → List ℕ
names_from before [] = []
names_from before (name ∷ names) = name_bytes before name ++ names_from name names

unfoldable pub names_of : Trace → List (List ℕ)
names_of t = map (λ f. f.name) t.facilities

-- "count n, memory M (4 bytes each), then n names"; "M is the exact sum"
unfoldable pub names_body : Trace → List ℕ
names_body t = words (length t.facilities ∷ memory_of (names_of t) ∷ []) ++ names_from [] (names_of t)

-- ---- 04: geometry

-- "flags is 0 (bits), 1 (integer), 2 (real) or 4 (text)"
unfoldable pub flags_for : Kind → ℕ
flags_for Bits = 0
flags_for Integer = 1
flags_for Real = 2
flags_for Text = 4

-- "Integers are written with msb 31 and lsb 0, reals and texts with 0 and 0, whatever was given"
unfoldable pub msb_for : Kind → ℕ → ℕ
msb_for Bits msb = msb
msb_for Integer msb = 31
msb_for Real msb = 0
msb_for Text msb = 0

unfoldable pub lsb_for : Kind → ℕ → ℕ
lsb_for Bits lsb = lsb
lsb_for Integer lsb = 0
lsb_for Real lsb = 0
lsb_for Text lsb = 0

-- "rows, msb, lsb, flags"; "rows is 0"
unfoldable pub geometry_bytes : Facility → List ℕ
geometry_bytes f = words (0 ∷ msb_for f.kind f.msb ∷ lsb_for f.kind f.lsb ∷ flags_for f.kind ∷ [])

unfoldable pub geometry_body : Trace → List ℕ
geometry_body t = joined geometry_bytes t.facilities

-- ---- 02: sync

-- "The chain starts at the sync entry; 0 there means no change": the newest change of each facility
unfoldable pub sync_body : Trace → List ℕ
sync_body t = joined (λ f. big_endian 4 (last_of f (reverse (map pair_of (laid t))))) (range 0 (length t.facilities))

-- ---- 06: times

-- "Each new time gets an entry at its first change": the changes whose time is not that of the change before, which had the time `time`
unfoldable pub new_times_after : ℕ → List Laid → List Laid
new_times_after time [] = []
new_times_after time (l ∷ ls) = if eqb l.time time then new_times_after time ls else l ∷ new_times_after l.time ls

-- the first change always has one
unfoldable pub entries_of : List Laid → List Laid
entries_of [] = []
entries_of (l ∷ ls) = l ∷ new_times_after l.time ls

-- numbers as deltas, of which they are the running sums: the first after `before`
unfoldable pub deltas_from : ℕ → List ℕ → List ℕ
deltas_from before [] = []
deltas_from before (x ∷ xs) = (x - before) ∷ deltas_from x xs

-- "first and last are the times of the first and last change"; "with no changes m, first and last are 0"
unfoldable pub first_time_of : Trace → ℕ
first_time_of t = get_or (map (λ c. c.time) t.changes) 0 0

unfoldable pub last_time_of : Trace → ℕ
last_time_of t = get_or (map (λ c. c.time) t.changes) (length t.changes - 1) 0

-- "count m, first, last, m position deltas, m time deltas, 4 bytes each"
unfoldable pub times_body : Trace → List ℕ
times_body t =
    words (length (entries_of (laid t)) ∷ first_time_of t ∷ last_time_of t ∷ [])
    ++ (words (deltas_from 0 (map (λ l. l.offset) (entries_of (laid t))))
    ++ words (deltas_from 0 (map (λ l. l.time) (entries_of (laid t)))))

-- ---- 05: timescale, "1 signed byte"

unfoldable pub signed_byte : ℤ → ℕ
signed_byte (pos k) = k
signed_byte (negsuc k) = 255 - k

-- ---- all sections

pub record Section : Type 0 where
  pub tag : ℕ
  pub body : List ℕ

abbrev pub section : ℕ → List ℕ → Section
section tag body = record { tag = tag; body = body }

-- "with 08 only where a real facility exists"
unfoldable pub any_real : Trace → Bool
any_real t = any (λ f. is_real f.kind) t.facilities

-- "Sections follow without gaps in the order 03, 04, 02, 06, 05, 07, 08"
unfoldable pub sections_of : Trace → List Section
sections_of t =
    section 0x03 (names_body t)
    ∷ section 0x04 (geometry_body t)
    ∷ section 0x02 (sync_body t)
    ∷ section 0x06 (times_body t)
    ∷ section 0x05 (signed_byte t.timescale ∷ [])
    ∷ section 0x07 (t.initial ∷ [])
    ∷ (if any_real t then section 0x08 test_pattern ∷ [] else [])

-- where each starts, the first at `at`
unfoldable pub places_from : ℕ → List Section → List Item
places_from at [] = []
places_from at (x ∷ sections) = record { tag = x.tag; value = at } ∷ places_from (at + length x.body) sections

-- "C is 4", and the sections follow the changes
unfoldable pub places_of : Trace → List Item
places_of t = record { tag = 0x01; value = 4 } ∷ places_from (4 + length (changes_bytes t)) (sections_of t)

-- "Each item is a tag byte with a 4-byte value just before it"
unfoldable pub item_bytes : ℕ → ℕ → List ℕ
item_bytes tag value = if eqb value 0 then [] else big_endian 4 value ++ (tag ∷ [])

-- "the list after END goes by rising tag"
unfoldable pub list_bytes : List Item → List ℕ
list_bytes places = joined (λ tag. item_bytes tag (value_in tag places)) (range 0x01 8)

-- ---- the file

-- "Bytes 0 and 1 are 01 38; then a 16-bit version", here 4
abbrev pub header : List ℕ
header = 0x01 ∷ 0x38 ∷ 0x00 ∷ 0x04 ∷ []

-- the header, the changes, the sections, END, the section list and the last byte
unfoldable pub file_of : Trace → List ℕ
file_of t = header ++ (changes_bytes t ++ (joined (λ x. x.body) (sections_of t) ++ (0x00 ∷ (list_bytes (places_of t) ++ (0xB4 ∷ [])))))
