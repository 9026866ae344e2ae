-- What is left to print, by the state that a call leaves to the next (`Printing` and `Rest` in src/printing.rt) and the memory lent with it:
-- the name before the next one, the nodes of the tree of pending offsets, and the line that was put last.
use Rattle.std.specs.Prelude.{ℕ, ◌+◌, ◌*◌, ◌-◌, ◌≤◌, ◌<◌, ◌≡◌, Option, Some, None, IfSome, OnSome, List, [], ◌++◌, length, take, drop}
use Rattle.std.proofs.Math.Seq.{slice}
use Rattle.lxt_format.specs.Basics.{range, joined}
use Rattle.lxt_format.specs.Sections.{facility_count}
use Rattle.lxt_format.specs.declared.Pair.{Pair}
use Rattle.lxt_print.specs.Lines.{facility_line, change_line, done_line, accepted_text}
use Rattle.lxt_print.specs.Placing.{Opened, NamesAt}
use Rattle.lxt_print.specs.Stepping.{left, Waiting, Timed}
use Rattle.lxt_print.specs.declared.printing.Rest.{Rest}
use Rattle.lxt_print.specs.declared.printing.Printing.{Printing}

-- the nodes of the tree, which stand first in the memory lent for them
abbrev pub tree_of : Rest → List ℕ → List ℕ
tree_of r nodes = take (2 * r.leaves) nodes

-- the changes that the tree has left
abbrev pub changes_left : List ℕ → Rest → List ℕ → List Pair
changes_left s r nodes = left s r.leaves (tree_of r nodes)

-- the lines that are not put yet: those of the facilities left and of the changes left, and how many changes are printed in all
unfoldable pub lines_left : List ℕ → Rest → List ℕ → List ℕ
lines_left s r nodes =
    joined (facility_line s) (range r.facility (facility_count s - r.facility))
    ++ joined (change_line s) (changes_left s r nodes)
    ++ done_line (r.count + length (changes_left s r nodes))

-- none where the last line is put
abbrev pub rest_left : List ℕ → Option Rest → List ℕ → List ℕ
rest_left s None nodes = []
rest_left s (Some r) nodes = lines_left s r nodes

-- all that is left to print: the rest of the line that was put last, then those lines
unfoldable pub left_text : List ℕ → Printing → List ℕ → List ℕ → List ℕ
left_text s p nodes line = slice p.at p.size line ++ rest_left s p.rest nodes

-- lines are left of an accepted file, and the memory holds what the next one is made from
pub record Going (s : List ℕ) (r : Rest) (name nodes : List ℕ) : Type 0 where
  pub opened : Opened s r.tables
  pub names : NamesAt s r.tables r.facility r.names name
  pub waiting : Waiting s r.tables r.leaves (tree_of r nodes)
  pub timed : Timed s (drop r.leaves (tree_of r nodes)) r.entry
  pub few : r.count + length (changes_left s r nodes) < 4294967296

-- room for the longest line of a file
abbrev pub Roomy : List ℕ → List ℕ → Type 0
Roomy s line = 2 * length s + 4200 ≤ length line

-- a state that a call may go on from
pub record Sound (s : List ℕ) (p : Printing) (name nodes line : List ℕ) : Type 0 where
  pub going : IfSome p.rest (λ r. Going s r name nodes)
  pub room : OnSome p.rest (Roomy s line)
  pub start : p.at ≤ p.size
  pub fits : p.size ≤ length line

-- all lines of an accepted file are left
pub record AllLines (s : List ℕ) (r : Rest) (name nodes : List ℕ) : Type 0 where
  pub going : Going s r name nodes
  pub whole : lines_left s r nodes ≡ accepted_text s

-- a line was put: what is left is the same, the line being a part of it that is not empty
pub record NextLine (s : List ℕ) (r : Rest) (nodes : List ℕ) (p : Printing) (name' nodes' line' : List ℕ) : Type 0 where
  pub sound : Sound s p name' nodes' line'
  pub same : left_text s p nodes' line' ≡ lines_left s r nodes
  pub less : length (rest_left s p.rest nodes') < length (lines_left s r nodes)
