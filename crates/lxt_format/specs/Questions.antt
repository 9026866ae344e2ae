-- Paper 01, "What can be asked": each question's answer, and what everything lent holds afterwards.
-- "Every call judges the file first, except carrying on: it does checks 1 to 14, then 20 to 21."
use Rattle.std.specs.Prelude.{ℕ, ◌+◌, ◌*◌, ◌-◌, Bool, ◌&&◌, List, [], ◌∷◌, ◌++◌, map, length, drop, replicate, ℤ, pos, ltb, leb, eqb, if◌then◌else◌}
use Rattle.std.proofs.Math.Seq.{slice}
use Rattle.lxt_format.specs.Limits.{longest_name, longest_column}
use Rattle.lxt_format.specs.Basics.{◌unless◌, ◌or_else◌, Answer, given, refused, answer, lent_after, any, joined, total, first_fault}
use Rattle.lxt_format.specs.Columns.{onto}
use Rattle.lxt_format.specs.Sections.{facility_count}
use Rattle.lxt_format.specs.Names.{name_of}
use Rattle.lxt_format.specs.Geometry.{root_of, facts_of, sync_of}
use Rattle.lxt_format.specs.Times.{time_of}
use Rattle.lxt_format.specs.Changes.{chain_of, previous_of, clean_at}
use Rattle.lxt_format.specs.Values.{Content, bits, real, text, not_driven, content_of, visited_at, content_at, TextSource, in_file, lent_text, other_kind, text_at}
use Rattle.lxt_format.specs.Judge.{tables_refusal, file_refusal, signal_of}
use Rattle.lxt_format.specs.Answers.{Shown, bits_of, real_of, text_of, nothing, shown, Timed, LookedUp}
use Rattle.lxt_format.specs.Walk.{start_offsets, with_offsets, offsets_of, record_allowed, high, handed_out, offsets_after, flat}
use Rattle.lxt_format.specs.declared.Facts.{Facts}
use Rattle.lxt_format.specs.declared.Pair.{Pair}

-- ---- a facility

-- 18: "facility number not below n"
unfoldable pub facility_refusal : List ℕ → ℕ → ℕ
facility_refusal s f = file_refusal s or_else 18 unless ltb f (facility_count s)

-- "Facts of a facility; its root."
unfoldable pub facts_asked : List ℕ → ℕ → Answer Facts
facts_asked s f = answer (facility_refusal s f) (facts_of s f)

unfoldable pub root_asked : List ℕ → ℕ → Answer ℕ
root_asked s f = answer (facility_refusal s f) (root_of s f)

-- ---- its name

-- 21: "too little room: names 1,023"
unfoldable pub name_refusal : List ℕ → ℕ → ℕ → ℕ
name_refusal s f room = facility_refusal s f or_else 21 unless leb longest_name room

-- "Number or length is one call's answer"
unfoldable pub name_asked : List ℕ → ℕ → ℕ → Answer ℕ
name_asked s f room = answer (name_refusal s f room) (length (name_of s f))

-- "the part another's .., empty exactly where the name is empty or refused"
unfoldable pub name_part : List ℕ → ℕ → ℕ → List ℕ
name_part s f room = lent_after (name_refusal s f room) (name_of s f) []

-- "the name is a part of the lent names buffer, its first bytes. The rest up to 1,023 becomes zero, bytes from there on stay."
unfoldable pub holding_name : List ℕ → List ℕ → List ℕ
holding_name name buffer = name ++ (replicate (longest_name - length name) 0 ++ drop longest_name buffer)

unfoldable pub name_buffer : List ℕ → ℕ → List ℕ → List ℕ
name_buffer s f buffer = lent_after (name_refusal s f (length buffer)) (holding_name (name_of s f) buffer) buffer

-- ---- its changes and values: "An alias is asked as its root."

-- the chain of a facility
unfoldable pub chain_asked : List ℕ → ℕ → List ℕ
chain_asked s f = chain_of s (sync_of s (root_of s f))

-- 19: "offset is not on that root's chain"
unfoldable pub change_refusal : List ℕ → ℕ → ℕ → ℕ
change_refusal s f o = facility_refusal s f or_else 19 unless any (eqb o) (chain_asked s f)

-- "The change before a given change (0 if none)"
unfoldable pub before_asked : List ℕ → ℕ → ℕ → Answer ℕ
before_asked s f o = answer (change_refusal s f o) (previous_of s o)

-- the symbols that a value writes
unfoldable pub written : Content → List ℕ
written (bits symbols) = symbols
written (real x b) = []
written (text start size) = []
written not_driven = []

-- "Written bits fill the first width bytes; the rest stays."
unfoldable pub holding_bits : Content → List ℕ → List ℕ
holding_bits value buffer = written value ++ drop (length (written value)) buffer

-- 21: "too little room: .. bits the width"
unfoldable pub reading_refusal : List ℕ → ℕ → ℕ → ℕ → ℕ
reading_refusal s f o room = change_refusal s f o or_else 21 unless leb (facts_of s f).width room

-- "a change's time and value". Paper 02, Ask 6: "Reading a change now also says yes or no to "padding was clean""
unfoldable pub change_asked : List ℕ → ℕ → ℕ → ℕ → Timed
change_asked s f o room =
    let refusal : ℕ = reading_refusal s f o room in
    record {
      time = if eqb refusal 0 then time_of s o else pos 0;
      value = answer refusal (shown (content_of s (root_of s f) o));
      clean = eqb refusal 0 && clean_at s (signal_of s (root_of s f)) o;
    }

unfoldable pub change_buffer : List ℕ → ℕ → ℕ → List ℕ → List ℕ
change_buffer s f o buffer = lent_after (reading_refusal s f o (length buffer)) (holding_bits (content_of s (root_of s f) o) buffer) buffer

-- "the value at a time"; paper 02, Ask 1: the question "takes" a signed 64-bit number
unfoldable pub value_refusal : List ℕ → ℕ → ℕ → ℕ
value_refusal s f room = facility_refusal s f or_else 21 unless leb (facts_of s f).width room

-- Ask 7: "Add to the answer of "value at time t" the number of changes visited"; "refusals carry no count"
unfoldable pub value_asked : List ℕ → ℕ → ℤ → ℕ → LookedUp
value_asked s f t room =
    let refusal : ℕ = value_refusal s f room in
    record {
      value = answer refusal (shown (content_at s (root_of s f) t));
      visited = if eqb refusal 0 then visited_at s (root_of s f) t else 0;
    }

unfoldable pub value_buffer : List ℕ → ℕ → ℤ → List ℕ → List ℕ
value_buffer s f t buffer = lent_after (value_refusal s f (length buffer)) (holding_bits (content_at s (root_of s f) t) buffer) buffer

-- ---- its text at a time, or a lent text: paper 02, Ask 11

-- "a second answer says which; where the question is refused or the kind is another, that answer gives the number or says so, .. and no bits are written or
-- need room": the file's refusals and 18
unfoldable pub text_asked : List ℕ → ℕ → ℤ → ℕ → Answer TextSource
text_asked s f t lent = answer (facility_refusal s f) (text_at s (root_of s f) t lent)

-- "The answer is then a part of the file or a part of the lent text", all of it; where refused or of another kind "the part is empty"
unfoldable pub part_by : List ℕ → List ℕ → Answer TextSource → List ℕ
part_by s lent (given (in_file start size)) = slice start (start + size) s
part_by s lent (given (lent_text size)) = lent
part_by s lent (given other_kind) = []
part_by s lent (refused n) = []

unfoldable pub text_part : List ℕ → ℕ → ℤ → List ℕ → List ℕ
text_part s f t lent = part_by s lent (text_asked s f t (length lent))

-- where that part lies in memory, by where the file and the lent text do, each a block and an offset in it: so it is no copy, and no part of the other. An
-- empty part that is no text is put at the lent text
unfoldable pub place_by : ℕ × ℕ → ℕ × ℕ → Answer TextSource → ℕ × ℕ
place_by file lent (given (in_file start size)) = (file.0, file.1 + start)
place_by file lent (given (lent_text size)) = lent
place_by file lent (given other_kind) = lent
place_by file lent (refused n) = lent

-- ---- a column: paper 02, Ask 4. "Give, at one time, the values for up to 4,096 facility numbers, repeats allowed, in list order."

-- 21: "too little room: .. bits the width", here the widths of all items together
unfoldable pub widths_of : List ℕ → List ℕ → ℕ
widths_of s asked = total (λ f. (facts_of s f).width) asked

-- "A longer list is refusal 35, tested right after the file. Then the first refused number's refusal is given, then 21 for lack of room."
unfoldable pub column_refusal : List ℕ → List ℕ → ℕ → ℕ → ℕ
column_refusal s asked room records =
    file_refusal s
    or_else 35 unless leb (length asked) longest_column
    or_else first_fault (map (facility_refusal s) asked)
    or_else 21 unless (leb (widths_of s asked) room && leb (length asked) records)

-- "Bits lie one after the other in one lent buffer."
unfoldable pub column_bits : List ℕ → ℤ → List ℕ → List ℕ
column_bits s t asked = joined (λ f. written (content_at s (root_of s f) t)) asked

-- "A record per item holds its answer: for bits their start there and the width, else the real number, the text's place or "not driven"." It is four numbers:
-- what the answer is; where the bits or the text start; how many symbols or bytes these are; the 64 bits of a real. Those that are not said are 0.
unfoldable pub record_of : ℕ → Shown → List ℕ
record_of start (bits_of width) = 0 ∷ start ∷ width ∷ 0 ∷ []
record_of start (real_of x b) = 1 ∷ 0 ∷ 0 ∷ b ∷ []
record_of start (text_of from size) = 2 ∷ from ∷ size ∷ 0 ∷ []
record_of start nothing = 3 ∷ 0 ∷ 0 ∷ 0 ∷ []

-- Ask 11: "Ask 4's column takes one such text, and its text places say which": 2 in the file, 4 the lent one
unfoldable pub record_by : ℕ → Shown → TextSource → List ℕ
record_by start value (in_file from size) = 2 ∷ from ∷ size ∷ 0 ∷ []
record_by start value (lent_text size) = 4 ∷ 0 ∷ size ∷ 0 ∷ []
record_by start value other_kind = record_of start value

-- the records of items whose bits start at `start`, with a lent text of so many bytes
unfoldable pub column_records : List ℕ → ℤ → ℕ → ℕ → List ℕ → List (List ℕ)
column_records s t lent start [] = []
column_records s t lent start (f ∷ fs) =
    let value : Content = content_at s (root_of s f) t in
    record_by start (shown value) (text_at s (root_of s f) t lent) ∷ column_records s t lent (start + length (written value)) fs

-- Ask 7: "Ask 4's column has one sum"
unfoldable pub column_visited : List ℕ → ℤ → List ℕ → ℕ
column_visited s t asked = total (λ f. visited_at s (root_of s f) t) asked

unfoldable pub column_asked : List ℕ → ℤ → List ℕ → ℕ → ℕ → Answer ℕ
column_asked s t asked room records = answer (column_refusal s asked room records) (column_visited s t asked)

-- "Bytes and records past these stay."
unfoldable pub column_buffer : List ℕ → ℤ → List ℕ → List ℕ → ℕ → List ℕ
column_buffer s t asked buffer records = lent_after (column_refusal s asked (length buffer) records) (onto (column_bits s t asked) buffer) buffer

unfoldable pub column_output : List ℕ → ℤ → List ℕ → ℕ → ℕ → List (List ℕ) → List (List ℕ)
column_output s t asked lent room records =
    lent_after (column_refusal s asked room (length records)) (onto (column_records s t lent 0 asked) records) records

-- ---- start a walk

-- 21: "too little room: .. pairs n"; 22: "asked bytes not n long"
unfoldable pub start_refusal : List ℕ → List ℕ → ℕ → ℕ
start_refusal s asked room =
    file_refusal s
    or_else 21 unless leb (facility_count s) room
    or_else 22 unless eqb (length asked) (facility_count s)

unfoldable pub start_asked : List ℕ → List ℕ → ℕ → Answer (Unit {0})
start_asked s asked room = answer (start_refusal s asked room) tt

unfoldable pub start_record : List ℕ → List ℕ → List Pair → List Pair
start_record s asked pairs = lent_after (start_refusal s asked (length pairs)) (with_offsets pairs (start_offsets s asked)) pairs

-- ---- carry on with a size

-- "Fewer than n pairs is 21 and is then tested before 20." 21: "output 2s"
unfoldable pub carry_refusal : List ℕ → List Pair → ℕ → ℕ → ℕ
carry_refusal s pairs size room =
    tables_refusal s
    or_else 21 unless leb (facility_count s) (length pairs)
    or_else 20 unless record_allowed s pairs
    or_else 21 unless leb (2 * size) room

-- the pairs that such a call hands out where it is not refused
unfoldable pub carry_pairs : List ℕ → List Pair → ℕ → List Pair
carry_pairs s pairs size = handed_out s size (offsets_of (facility_count s) pairs)

-- the pending offsets that it leaves
unfoldable pub carry_offsets : List ℕ → List Pair → ℕ → List ℕ
carry_offsets s pairs size = offsets_after s size (offsets_of (facility_count s) pairs)

-- "It answers how many were handed out and whether all pending offsets are 0."
unfoldable pub carry_asked : List ℕ → List Pair → ℕ → ℕ → Answer (ℕ × Bool)
carry_asked s pairs size room =
    answer (carry_refusal s pairs size room) (length (carry_pairs s pairs size), eqb (high (carry_offsets s pairs size)) 0)

unfoldable pub carry_record : List ℕ → List Pair → ℕ → ℕ → List Pair
carry_record s pairs size room = lent_after (carry_refusal s pairs size room) (with_offsets pairs (carry_offsets s pairs size)) pairs

-- "Output past the pairs written stays."
unfoldable pub carry_output : List ℕ → List Pair → ℕ → List ℕ → List ℕ
carry_output s pairs size output =
    let numbers : List ℕ = flat (carry_pairs s pairs size) in
    lent_after (carry_refusal s pairs size (length output)) (numbers ++ drop (length numbers) output) output
