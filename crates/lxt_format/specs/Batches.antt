-- Many facilities, or many changes with their times and values, in one call: questions of our own, so that a whole trace is read in few calls. Each judges the
-- file, as every question does, once for all that it answers.
use Rattle.std.specs.Prelude.{ℕ, suc, ◌+◌, ◌-◌, min, Bool, ◌&&◌, List, [], ◌∷◌, map, length, leb, eqb, if◌then◌else◌}
use Rattle.lxt_format.specs.Limits.{longest_name, widest_facility}
use Rattle.lxt_format.specs.Basics.{◌unless◌, ◌or_else◌, Answer, answer, lent_after, range, joined}
use Rattle.lxt_format.specs.Bytes.{unsigned}
use Rattle.lxt_format.specs.Columns.{onto}
use Rattle.lxt_format.specs.Sections.{facility_count}
use Rattle.lxt_format.specs.Names.{name_of}
use Rattle.lxt_format.specs.Geometry.{root_of, facts_of}
use Rattle.lxt_format.specs.Times.{time_of}
use Rattle.lxt_format.specs.Values.{content_of}
use Rattle.lxt_format.specs.Judge.{file_refusal}
use Rattle.lxt_format.specs.Answers.{kind_number, shown}
use Rattle.lxt_format.specs.Walk.{with_offsets, record_allowed, high}
use Rattle.lxt_format.specs.Questions.{written, record_of, carry_pairs, carry_offsets}
use Rattle.lxt_format.specs.declared.Facts.{Facts}
use Rattle.lxt_format.specs.declared.Pair.{Pair}

-- how many things of these sizes, laid one after the other from the first on, there is room for
unfoldable pub how_many_fit : ℕ → List ℕ → ℕ
how_many_fit room [] = 0
how_many_fit room (k ∷ ks) = if leb k room then suc (how_many_fit (room - k) ks) else 0

-- ---- facilities, from a given one on

-- 18: the first is above n; at n there are none to answer. 21: too little room, for one row or for the longest name
unfoldable pub facilities_refusal : List ℕ → ℕ → ℕ → ℕ → ℕ
facilities_refusal s first rows room =
    file_refusal s
    or_else 18 unless leb first (facility_count s)
    or_else 21 unless (leb 1 rows && leb longest_name room)

-- as many as there are rows for, and bytes for their names
unfoldable pub facilities_count : List ℕ → ℕ → ℕ → ℕ → ℕ
facilities_count s first rows room = how_many_fit room (map (λ f. length (name_of s f)) (range first (min rows (facility_count s - first))))

-- the row of a facility is seven numbers: its root; its kind, width, msb and lsb, the latter two by their 32 bits; where its name starts, and its length
unfoldable pub row_of : ℕ → Facts → ℕ → ℕ → List ℕ
row_of root facts start size =
    root ∷ kind_number facts.kind ∷ facts.width ∷ unsigned 32 facts.msb ∷ unsigned 32 facts.lsb ∷ start ∷ size ∷ []

-- the rows of facilities whose names lie one after the other from `start` on
unfoldable pub facility_rows : List ℕ → ℕ → List ℕ → List (List ℕ)
facility_rows s start [] = []
facility_rows s start (f ∷ fs) =
    let size : ℕ = length (name_of s f) in
    row_of (root_of s f) (facts_of s f) start size ∷ facility_rows s (start + size) fs

-- the facilities that are answered
unfoldable pub facilities_given : List ℕ → ℕ → ℕ → ℕ → List ℕ
facilities_given s first rows room = range first (facilities_count s first rows room)

-- how many rows were written
unfoldable pub facilities_asked : List ℕ → ℕ → ℕ → ℕ → Answer ℕ
facilities_asked s first rows room = answer (facilities_refusal s first rows room) (facilities_count s first rows room)

-- rows and bytes past these stay
unfoldable pub facilities_output : List ℕ → ℕ → List (List ℕ) → ℕ → List (List ℕ)
facilities_output s first rows room =
    lent_after (facilities_refusal s first (length rows) room) (onto (facility_rows s 0 (facilities_given s first (length rows) room)) rows) rows

unfoldable pub facilities_names : List ℕ → ℕ → ℕ → List ℕ → List ℕ
facilities_names s first rows names =
    lent_after (facilities_refusal s first rows (length names)) (onto (joined (name_of s) (facilities_given s first rows (length names))) names) names

-- ---- changes with their times and values: carrying on with a walk over an accepted file

-- the file is judged whole, and the record tested as in carrying on. 21: too little room, for a row of each change or for the symbols of the widest facility
unfoldable pub changes_refusal : List ℕ → List Pair → ℕ → ℕ → ℕ → ℕ
changes_refusal s pairs size rows room =
    file_refusal s
    or_else 21 unless leb (facility_count s) (length pairs)
    or_else 20 unless record_allowed s pairs
    or_else 21 unless (leb size rows && leb widest_facility room)

-- the symbols of a change; a real or a text has none
unfoldable pub symbols_of : List ℕ → Pair → List ℕ
symbols_of s p = written (content_of s p.number p.offset)

-- of the changes that carrying on with this size hands out, those up to the first whose symbols have no room
unfoldable pub changes_count : List ℕ → List Pair → ℕ → ℕ → ℕ
changes_count s pairs size room = how_many_fit room (map (λ p. length (symbols_of s p)) (carry_pairs s pairs size))

-- what is handed out: what carrying on with that count hands out
unfoldable pub changes_given : List ℕ → List Pair → ℕ → ℕ → List Pair
changes_given s pairs size room = carry_pairs s pairs (changes_count s pairs size room)

-- the row of a change is seven numbers: its facility, its offset, its time by its 64 bits, and the record of its value as in a column
unfoldable pub change_row : List ℕ → ℕ → Pair → List ℕ
change_row s start p =
    p.number ∷ p.offset ∷ unsigned 64 (time_of s p.offset) ∷ record_of start (shown (content_of s p.number p.offset))

-- the rows of changes whose symbols lie one after the other from `start` on
unfoldable pub change_rows : List ℕ → ℕ → List Pair → List (List ℕ)
change_rows s start [] = []
change_rows s start (p ∷ l) = change_row s start p ∷ change_rows s (start + length (symbols_of s p)) l

-- how many were handed out, and whether all pending offsets are 0 then
unfoldable pub changes_asked : List ℕ → List Pair → ℕ → ℕ → ℕ → Answer (ℕ × Bool)
changes_asked s pairs size rows room =
    let count : ℕ = changes_count s pairs size room in
    answer (changes_refusal s pairs size rows room) (count, eqb (high (carry_offsets s pairs count)) 0)

-- the record moves by that count
unfoldable pub changes_record : List ℕ → List Pair → ℕ → ℕ → ℕ → List Pair
changes_record s pairs size rows room =
    lent_after (changes_refusal s pairs size rows room) (with_offsets pairs (carry_offsets s pairs (changes_count s pairs size room))) pairs

-- rows and bytes past those of the changes handed out stay
unfoldable pub changes_output : List ℕ → List Pair → ℕ → List (List ℕ) → ℕ → List (List ℕ)
changes_output s pairs size rows room =
    lent_after (changes_refusal s pairs size (length rows) room) (onto (change_rows s 0 (changes_given s pairs size room)) rows) rows

unfoldable pub changes_buffer : List ℕ → List Pair → ℕ → ℕ → List ℕ → List ℕ
changes_buffer s pairs size rows bits =
    lent_after (changes_refusal s pairs size rows (length bits)) (onto (joined (symbols_of s) (changes_given s pairs size (length bits))) bits) bits
