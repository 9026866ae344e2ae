-- What the two calls of `lxt_print::printing` promise, and what any list of calls is to print. The claim is `PrintedTrace`, and `printed_trace` (proofs/Printed) its proof.
use Rattle.std.specs.Prelude.{ℕ, ◌+◌, ◌*◌, ◌≤◌, min, ◌≡◌, Bool, true, false, ◌||◌, List, [], ◌∷◌, ◌++◌, length, take, drop, leb, eqb}
use Rattle.lxt_format.specs.Limits.{longest_name, most_facilities, longest_printed}
use Rattle.lxt_format.specs.Columns.{onto}
use Rattle.lxt_print.specs.Lines.{printed}
use Rattle.lxt_print.specs.Left.{left_text, Sound}
use Rattle.lxt_print.specs.declared.printing.Printing.{Printing}
use Rattle.lxt_print.specs.declared.printing.Filled.{Filled}

-- ---- the calls

-- the memory that `begin` asks: for a name, for the nodes of a tree, and for a line
pub record Lent (name nodes line : List ℕ) : Type 0 where
  pub name_room : longest_name ≤ length name
  pub tree_room : 2 * most_facilities ≤ length nodes
  pub line_room : 2 * longest_printed + 4200 ≤ length line

-- What `begin` promises: all that is printed of the file is left
pub record Begins (s : List ℕ) (p : Printing) (name nodes line : List ℕ) : Type 0 where
  pub sound : Sound s p name nodes line
  pub all_left_lem : left_text s p nodes line ≡ printed s

-- What `fill` promises of a buffer `out`: it puts as many bytes as there is room for or as are left, those that are left first; it says
-- that it is done exactly where these are the last; and what is left after it are the others
pub record Fills (s : List ℕ) (p : Printing) (nodes line out : List ℕ) (a : Filled) (name' nodes' line' out' : List ℕ) : Type 0 where
  pub counts : a.size ≡ min (length out) (length (left_text s p nodes line))
  pub puts : out' ≡ onto (take a.size (left_text s p nodes line)) out
  pub ends : a.done ≡ eqb a.size (length (left_text s p nodes line))
  pub leaves : left_text s a.left nodes' line' ≡ drop a.size (left_text s p nodes line)
  pub sound : Sound s a.left name' nodes' line'

-- what one call leaves to the next: the state, and the memory lent with it
pub record Held : Type 0 where
  pub state : Printing
  pub name : List ℕ
  pub nodes : List ℕ
  pub line : List ℕ

-- a call of `fill`: its buffer before, its answer, and its buffer and the memory after
pub record Made : Type 0 where
  pub buffer : List ℕ
  pub answer : Filled
  pub output : List ℕ
  pub name : List ℕ
  pub nodes : List ℕ
  pub line : List ℕ

-- what it leaves
abbrev pub held_after : Made → Held
held_after m = record { state = m.answer.left; name = m.name; nodes = m.nodes; line = m.line }

-- a call that keeps its promise
abbrev pub Keeps : List ℕ → Held → Made → Type 0
Keeps s h m = Fills s h.state h.nodes h.line m.buffer m.answer m.name m.nodes m.line m.output

-- any list of calls, an empty one too, each from what the call before left, and with a buffer of any length
pub data Kept (s : List ℕ) : Held → List Made → Type 0 where
  none : {h : Held} → Kept s h []
  call : {h : Held} {m : Made} {calls : List Made} → Keeps s h m → Kept s (held_after m) calls → Kept s h (m ∷ calls)

-- ---- what they print

-- the room of all buffers
unfoldable pub room_of : List Made → ℕ
room_of [] = 0
room_of (m ∷ calls) = length m.buffer + room_of calls

-- the output of all calls, joined: what each puts stands first in its buffer
unfoldable pub output_of : List Made → List ℕ
output_of [] = []
output_of (m ∷ calls) = take m.answer.size m.output ++ output_of calls

-- whether a call says that it is done
unfoldable pub done_by : List Made → Bool
done_by [] = false
done_by (m ∷ calls) = m.answer.done || done_by calls

-- calls print a text: as much of it as there is room for; one of them says that it is done exactly where there is room for all, and then all
-- of it is printed
pub record Prints (text : List ℕ) (calls : List Made) : Type 0 where
  pub joined : output_of calls ≡ take (room_of calls) text
  pub done : done_by calls ≡ leb (length text) (room_of calls)
  pub whole : done_by calls ≡ true → output_of calls ≡ text

-- THE PRINTED TRACE: any list of calls of `fill` after a `begin` prints what is to be printed of the file, whatever the room of each
abbrev pub PrintedTrace : Type 0
PrintedTrace =
    (s : List ℕ) (h : Held) (calls : List Made) → Begins s h.state h.name h.nodes h.line → Kept s h calls → Prints (printed s) calls
