-- Paper 02, Ask 7: how many changes a lookup visits. The claims on that number, and its examples.
use Rattle.std.specs.Prelude.{ℕ, ◌-◌, ◌/◌, ◌≤◌, ◌≡◌, refl, List, [], ◌∷◌, ◌++◌, map, length, replicate, ℤ, pos, negsuc}
use Rattle.lxt_format.specs.Limits.{least_time, greatest_time}
use Rattle.lxt_format.specs.Basics.{given, refused}
use Rattle.lxt_format.specs.Sections.{end_of, changes_from}
use Rattle.lxt_format.specs.Geometry.{sync_of}
use Rattle.lxt_format.specs.Changes.{chain_of}
use Rattle.lxt_format.specs.Values.{change_at, visited_at}
use Rattle.lxt_format.specs.Judge.{file_refusal}
use Rattle.lxt_format.specs.Answers.{Shown, bits_of, text_of, nothing, LookedUp}
use Rattle.lxt_format.specs.Questions.{value_asked, value_buffer}
use Rattle.lxt_format.specs.Everything.{everything}
use Rattle.lxt_format.specs.Traces.{spelled, trace, requested}
use Rattle.lxt_format.specs.Examples.{Row, row, Holds}
use Rattle.lxt_format.specs.ZeroDeltas as Zero
use Rattle.lxt_format.specs.ZeroDeltas.{tabled}
use Rattle.lxt_format.specs.WideTimes as Wide
use Rattle.lxt_format.specs.WideTimes.{long_tabled_as, item}

-- ---- claims, proved in VisitedLaws

-- "It is at most (T - C) / 2": the count of every answer, whatever the bytes, the question and the room. A refused one has 0.
abbrev pub VisitedMost : Type 0
VisitedMost = (s : List ℕ) (f : ℕ) (t : ℤ) (room : ℕ) → (value_asked s f t room).visited ≤ (end_of s - changes_from s) / 2

-- where no change is answered, all changes of the root are visited, whether or not entry 0 is after t already
abbrev pub NoneAnswered : Type 0
NoneAnswered = (s : List ℕ) (f : ℕ) (t : ℤ) → change_at s f t ≡ 0 → visited_at s f t ≡ length (chain_of s (sync_of s f))

-- ---- examples

-- what is answered, and what a lent buffer of so many bytes holds afterwards
abbrev said : List ℕ → ℕ → ℤ → ℕ → LookedUp × List ℕ
said s f t room = (value_asked s f t room, value_buffer s f t (replicate room 0xFF))

-- a value of symbols, in a buffer of as many bytes
abbrev symbols : List ℕ → ℕ → LookedUp × List ℕ
symbols bits visited = (record { value = given (bits_of (length bits)); visited = visited }, bits)

-- a value without symbols
abbrev plain : Shown → ℕ → LookedUp × List ℕ
plain value visited = (record { value = given value; visited = visited }, [])

-- refused: no count, and nothing lent has changed
abbrev no : ℕ → ℕ → LookedUp × List ℕ
no number room = (record { value = refused number; visited = 0 }, replicate room 0xFF)

-- how many changes of facility 0 are visited at these times
abbrev counts : List ℕ → List ℤ → List ℕ
counts s times = map (λ t. (value_asked s 0 t 1).visited) times

-- three changes of 2 bytes fill all of C to T, 56 to 62: the tables stand before them, and all are at time 0
unfoldable pub filled : List ℕ
unfolding spelled
filled =
    spelled 4 0x01380004
    -- 4: names, 16: geometry, 32: sync, 36: times
    ++ spelled 12 0x000000010000000200006100
    ++ spelled 16 0
    ++ spelled 4 60
    ++ spelled 20 0x0000000100000000000000000000000400000000
    -- 56, 58, 60: all 1, all 0, all 1
    ++ spelled 2 0x0436
    ++ spelled 2 0x0300
    ++ spelled 2 0x0400
    -- 62: END
    ++ spelled 1 0x00
    ++ item 56 0x01
    ++ item 32 0x02
    ++ item 4 0x03
    ++ item 16 0x04
    ++ item 36 0x06
    ++ spelled 1 0xB4

pub visits : List Row
visits =
    -- the worked examples of Ask 7
    row 1 (said requested 0 (pos 9) 3) (symbols (spelled 3 0x5A5A5A) 2)
    ∷ row 2 (said requested 0 (pos 10) 3) (symbols (spelled 3 0x303131) 2)
    ∷ row 3 (said requested 0 (pos 29) 3) (symbols (spelled 3 0x303131) 2)
    ∷ row 4 (said requested 0 (pos 30) 3) (symbols (spelled 3 0x5A5831) 1)
    ∷ row 5 (said requested 3 (pos 30) 3) (symbols (spelled 3 0x5A5831) 1)
    ∷ row 6 (said requested 1 (pos 19) 0) (plain nothing 1)
    ∷ row 7 (said requested 2 (pos 20) 0) (plain (text_of 9 2) 1)
    ∷ row 8 (said requested 4 (pos 30) 32) (symbols (replicate 32 0x5A) 0)
    ∷ row 9 (said requested 5 (pos 0) 3) (no 18 3)
    ∷ row 10 (said requested 0 (pos 0) 2) (no 21 2)
    -- an alias counts its root's changes where none is answered too; a refused file
    ∷ row 11 (said requested 3 (negsuc 0) 3) (symbols (spelled 3 0x5A5A5A) 2)
    ∷ row 12 (said (requested ++ spelled 1 0x00) 0 (pos 30) 3) (no 3 3)
    -- the small trace: before both changes, at the older, between them, at the newer and after it
    ∷ row 13 (counts trace (least_time ∷ negsuc 0 ∷ pos 0 ∷ pos 4 ∷ pos 5 ∷ greatest_time ∷ [])) (2 ∷ 2 ∷ 2 ∷ 2 ∷ 1 ∷ 1 ∷ [])
    -- both changes at 5, in 2-A: both are after 4, and at 5 the newer is answered; at 1 and at 5, in 2-B
    ∷ row 14 (counts Zero.example_a (pos 4 ∷ pos 5 ∷ [])) (2 ∷ 1 ∷ [])
    ∷ row 14 (counts Zero.example_b (pos 0 ∷ pos 1 ∷ pos 4 ∷ pos 5 ∷ [])) (2 ∷ 2 ∷ 2 ∷ 1 ∷ [])
    -- changes at -5 and 5, in 1-A, and at the least time and -1, in 1-E
    ∷ row 15 (counts Wide.example_a (negsuc 5 ∷ negsuc 4 ∷ pos 4 ∷ pos 5 ∷ [])) (2 ∷ 2 ∷ 2 ∷ 1 ∷ [])
    ∷ row 15 (counts Wide.example_e (least_time ∷ negsuc 1 ∷ negsuc 0 ∷ greatest_time ∷ [])) (2 ∷ 2 ∷ 1 ∷ 1 ∷ [])
    -- (T - C) / 2 is reached
    ∷ row 16 (file_refusal filled) 0
    ∷ row 16 (end_of filled - changes_from filled) 6
    ∷ row 16 (counts filled (least_time ∷ negsuc 0 ∷ pos 0 ∷ [])) (3 ∷ 3 ∷ 1 ∷ [])
    ∷ []

pub visits_hold : Holds visits
unfolding everything trace requested spelled tabled long_tabled_as filled visits
visits_hold =
    (refl, (refl, (refl, (refl, (refl, (refl, (refl, (refl, (refl, (refl, (refl, (refl, (refl, (refl, (refl, (refl, (refl, (refl, (refl, (refl, tt))))))))))))))))))))
