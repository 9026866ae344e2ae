-- Paper 01, "The whole walk (demand 3)": a list of calls, and what it is to tell. `Demand3`, at the end, is the claim; proofs/Demand proves it.
use Rattle.std.specs.Prelude.{ℕ, ◌+◌, ◌*◌, ◌-◌, ◌≤◌, ◌<◌, min, ◌≡◌, ◌↔◌, Bool, true, false, List, [], ◌∷◌, ◌++◌, length, get_or, take, drop, Result}
use Rattle.lxt_format.specs.Basics.{Answer, given, refused}
use Rattle.lxt_format.specs.Walk.{asks, full_list, flat}
use Rattle.lxt_format.specs.Answers.{says, carry_says}
use Rattle.lxt_format.specs.Questions.{start_asked, start_record, carry_asked, carry_record, carry_output}
use Rattle.lxt_format.specs.Batches.{changes_asked, changes_record, changes_output, changes_buffer}
use Rattle.lxt_format.specs.declared.Pair.{Pair}
use Rattle.lxt_format.specs.declared.Handed.{Handed as HandedOut}
use Rattle.lxt_format.specs.declared.refusal.Refusal.{Refusal}
use Rattle.lxt_chains.specs.Pending.{pair_of, first_of}

-- ---- the calls

-- What `lxt_record::start` promises: its answer, and the record after it
abbrev pub Starts : (s asked : List ℕ) (before : List Pair) (answer : Result (Unit {0}) Refusal) (after : List Pair) → Type 0
Starts s asked before answer after = (says answer ≡ start_asked s asked (length before)) × (after ≡ start_record s asked before)

-- What `lxt_record::carry_on` promises: its answer, and the output buffer and the record after it
abbrev pub Carries : (s : List ℕ) (pairs : List Pair) (size : ℕ) (buffer : List ℕ) (answer : Result HandedOut Refusal) (output : List ℕ) (left : List Pair) → Type 0
Carries s pairs size buffer answer output left =
    (carry_says answer ≡ carry_asked s pairs size (length buffer))
    × ((output ≡ carry_output s pairs size buffer) × (left ≡ carry_record s pairs size (length buffer)))

-- What carrying on by rows is to promise, when there is such a call: its answer, and the rows, the bits and the record after it
abbrev pub CarriesRows : (s : List ℕ) (pairs : List Pair) (size : ℕ) (rows : List (List ℕ)) (bits : List ℕ) (answer : Result HandedOut Refusal) (rows' : List (List ℕ)) (bits' : List ℕ) (left : List Pair) → Type 0
CarriesRows s pairs size rows bits answer rows' bits' left =
    (carry_says answer ≡ changes_asked s pairs size (length rows) (length bits))
    × ((rows' ≡ changes_output s pairs size rows (length bits))
    × ((bits' ≡ changes_buffer s pairs size (length rows) bits) × (left ≡ changes_record s pairs size (length rows) (length bits))))

-- "The calls are one start that is not refused": it was lent the record `before`, and left the record `started`
pub record Started (s asked : List ℕ) (before started : List Pair) : Type 0 where
  pub answer : Result (Unit {0}) Refusal
  pub promised : Starts s asked before answer started
  pub not_refused : says answer ≡ given tt

-- a carry-on call: its size, its output buffer before, its answer, and the output buffer and the record as it left them
pub record Made : Type 0 where
  pub size : ℕ
  pub buffer : List ℕ
  pub answer : Result HandedOut Refusal
  pub output : List ℕ
  pub left : List Pair

-- a call on the record `pairs` that keeps its promise
abbrev pub Carried : List ℕ → List Pair → Made → Type 0
Carried s pairs m = Carries s pairs m.size m.buffer m.answer m.output m.left

-- "then any list of carry-on calls, an empty one too. Each carry-on call gets the start's file, the whole record as the call before left it,
-- and an output buffer of any length." The calls lead from one record to another
pub data Kept (s : List ℕ) : List Pair → List Made → List Pair → Type 0 where
  none : {pairs : List Pair} → Kept s pairs [] pairs
  call : {pairs end : List Pair} {m : Made} {calls : List Made} → Carried s pairs m → Kept s m.left calls end → Kept s pairs (m ∷ calls) end

-- ---- what each of them tells

-- "Such a call of size s is refused exactly where that buffer is shorter than 2s numbers, with 21." It changes nothing lent.
pub record Refused (pairs : List Pair) (m : Made) : Type 0 where
  pub short : length m.buffer < 2 * m.size
  pub number : carry_says m.answer ≡ refused 21
  pub same_output : m.output ≡ m.buffer
  pub same_record : m.left ≡ pairs

-- "Where e pairs were handed out before it and the full list has L, a call of size s that is not refused counts the smaller of s and L - e. It
-- hands out that many pairs, the next of the full list after its first e, as the first numbers in its buffer when it returns, and answers done
-- exactly when e plus its count is L." The rest of the buffer is as it was.
pub record Handed (full : List Pair) (e : ℕ) (m : Made) (count : ℕ) : Type 0 where
  pub room : 2 * m.size ≤ length m.buffer
  pub done : Bool
  pub answers : carry_says m.answer ≡ given (count, done)
  pub counts : count ≡ min m.size (length full - e)
  pub hands_out : m.output ≡ flat (take count (drop e full)) ++ drop (2 * count) m.buffer
  pub ends : (done ≡ true) ↔ (e + count ≡ length full)

-- every call is refused or hands out; e and e' pairs are handed out before and after all of them, of which the first gets the record `pairs`
pub data Told (full : List Pair) : ℕ → List Pair → List Made → ℕ → Type 0 where
  none : {e : ℕ} {pairs : List Pair} → Told full e pairs [] e
  refusal : {e e' : ℕ} {pairs : List Pair} {m : Made} {calls : List Made}
      → Refused pairs m → Told full e m.left calls e' → Told full e pairs (m ∷ calls) e'
  handing : {e e' count : ℕ} {pairs : List Pair} {m : Made} {calls : List Made}
      → Handed full e m count → Told full (e + count) m.left calls e' → Told full e pairs (m ∷ calls) e'

-- ---- what all of them tell

-- the numbers that a call hands out, which stand first in its buffer
unfoldable pub handed_by : Answer (ℕ × Bool) → List ℕ → List ℕ
handed_by (given a) output = take (2 * a.0) output
handed_by (refused k) output = []

-- the output of all calls, joined
unfoldable pub output_of : List Made → List ℕ
output_of [] = []
output_of (m ∷ calls) = handed_by (carry_says m.answer) m.output ++ output_of calls

-- "the sum of the sizes of the calls not refused"
unfoldable pub size_by : Answer (ℕ × Bool) → ℕ → ℕ
size_by (given a) size = size
size_by (refused k) size = 0

unfoldable pub sizes_of : List Made → ℕ
sizes_of [] = 0
sizes_of (m ∷ calls) = size_by (carry_says m.answer) m.size + sizes_of calls

-- pair i of a record
abbrev pub pair_at : List Pair → ℕ → Pair
pair_at pairs i = get_or pairs i (pair_of 0 0)

-- "At the end the pending offset of each root asked for is that of its first pair in the full list not yet handed out, or 0; all else in the
-- record is as the start left it."
pub record Ended (s asked : List ℕ) (handed : ℕ) (started end : List Pair) : Type 0 where
  pub pending : (f : ℕ) → asks s asked f ≡ true → (pair_at end f).offset ≡ first_of f (drop handed (full_list s asked))
  pub numbers : (i : ℕ) → (pair_at end i).number ≡ (pair_at started i).number
  pub others : (i : ℕ) → asks s asked i ≡ false → pair_at end i ≡ pair_at started i
  pub same_length : length end ≡ length started

-- "This is a single claim about the list of calls": each call, the joined output, which is the first k of the full list with k "the sum of the
-- sizes of the calls not refused, or the full list's length if that is less", the record at the end, and of the full list "All these pairs stand by
-- falling offset; in an accepted file no two offsets are equal."
pub record Walked (s asked : List ℕ) (started : List Pair) (calls : List Made) (end : List Pair) : Type 0 where
  pub handed : ℕ
  pub counted : handed ≡ min (sizes_of calls) (length (full_list s asked))
  pub each : Told (full_list s asked) 0 started calls handed
  pub joined : output_of calls ≡ flat (take handed (full_list s asked))
  pub ended : Ended s asked handed started end
  pub falls : (i j : ℕ) → i < j → j < length (full_list s asked) → (pair_at (full_list s asked) j).offset < (pair_at (full_list s asked) i).offset

-- DEMAND 3: after a start that is not refused, any list of carry-on calls that keep their promises tells the full list
abbrev pub Demand3 : Type 0
Demand3 =
    (s asked : List ℕ) (before started : List Pair) (calls : List Made) (end : List Pair)
    → Started s asked before started → Kept s started calls end → Walked s asked started calls end
