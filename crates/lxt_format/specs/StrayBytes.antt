-- Stray bytes, counted: bytes at each kind of place, sections that are skipped, and what is no stray byte.
use Rattle.std.specs.Prelude.{ℕ, ◌+◌, ◌-◌, refl, List, [], ◌∷◌, ◌++◌, map, length, set, replicate, eqb, if◌then◌else◌}
use Rattle.lxt_format.specs.Basics.{given, refused, range}
use Rattle.lxt_format.specs.Stray.{stray_asked}
use Rattle.lxt_format.specs.Everything.{everything}
use Rattle.lxt_format.specs.Traces.{spelled, with32, trace, name_memory, last_byte, facilities_named, mixed}
use Rattle.lxt_format.specs.Examples.{Row, row, Holds}
use Rattle.lxt_format.specs.WideTimes.{item}

-- the small trace with bytes put in at the places 0 to 6, before its older change, after it, and after its newer change, its names, geometry, sync entry
-- and times, all offsets moved; with these items nearest END
unfoldable pub spaced : (ℕ → List ℕ) → List ℕ → List ℕ
unfolding spelled
spaced put items =
    let older : ℕ = 4 + length (put 0) in
    let newer : ℕ = older + 2 + length (put 1) in
    let names : ℕ = newer + 2 + length (put 2) in
    let geometry : ℕ = names + 12 + length (put 3) in
    let sync : ℕ = geometry + 16 + length (put 4) in
    let times : ℕ = sync + 4 + length (put 5) in
    spelled 4 0x01380004
    ++ put 0
    ++ (0x04 ∷ (older - 2) ∷ [])
    ++ put 1
    ++ (0x03 ∷ (newer - older - 2) ∷ [])
    ++ put 2
    ++ spelled 12 0x000000010000000200006100
    ++ put 3
    ++ spelled 16 0
    ++ put 4
    ++ spelled 4 newer
    ++ put 5
    ++ spelled 28 0x00000002000000000000000500000004000000020000000000000005
    ++ put 6
    ++ spelled 1 0x00
    ++ items
    ++ item 4 0x01
    ++ item sync 0x02
    ++ item names 0x03
    ++ item geometry 0x04
    ++ item times 0x06
    ++ spelled 1 0xB4

-- bytes at one place
abbrev only : ℕ → List ℕ → ℕ → List ℕ
only k bytes place = if eqb place k then bytes else []

-- bytes from offset 68 up to END, and items that may name them
abbrev last : List ℕ → List ℕ → List ℕ
last bytes items = spaced (only 6 bytes) items

pub strays : List Row
strays =
    -- the 95-byte trace has none; one byte at each kind of place, and two at all of them
    row 1 (stray_asked trace) (given 0)
    ∷ row 1 (spaced (λ place. []) []) trace
    ∷ row 1 (map (λ place. stray_asked (spaced (only place (0xFF ∷ [])) [])) (range 0 7)) (replicate 7 (given 1))
    ∷ row 1 (stray_asked (spaced (λ place. 0x00 ∷ 0x00 ∷ []) [])) (given 14)
    -- a change that no root reaches
    ∷ row 1 (stray_asked (spaced (only 1 (0x03 ∷ 0x00 ∷ [])) [])) (given 2)
    -- before C: mixed has an unused byte there, and sections that are skipped in others
    ∷ row 1 (stray_asked mixed) (given 1)
    -- after the names, of one facility and of none
    ∷ row 2 (map (λ k. stray_asked (facilities_named 1 2 (spelled 4 0x00006100 ++ replicate k 0x61))) (range 0 3)) (given 0 ∷ given 1 ∷ given 2 ∷ [])
    ∷ row 2 (map (λ k. stray_asked (facilities_named 0 0 (replicate k 0x61))) (range 0 3)) (given 0 ∷ given 1 ∷ given 2 ∷ [])
    -- tags 14 and 08: absent, present, taken back nearer END, below 4, over END
    ∷ row 3 (stray_asked (last (replicate 8 1) [])) (given 8)
    ∷ row 3 (stray_asked (last (replicate 8 1) (item 68 0x14))) (given 0)
    ∷ row 3 (stray_asked (last (replicate 8 1) (item 68 0x08))) (given 0)
    ∷ row 3 (stray_asked (last (replicate 8 1) (item 0 0x14 ++ item 68 0x14))) (given 8)
    ∷ row 3 (stray_asked (last (replicate 8 1) (item 3 0x14))) (given 8)
    ∷ row 3 (stray_asked (last (replicate 8 1) (item 69 0x08))) (given 8)
    ∷ row 3 (stray_asked (last (replicate 7 1) (item 68 0x14))) (given 7)
    -- tag 13: a count of none, of one, of one too many, of far too many, and half a count
    ∷ row 4 (stray_asked (last (spelled 4 0) (item 68 0x13))) (given 0)
    ∷ row 4 (stray_asked (last (spelled 4 1 ++ replicate 16 7) (item 68 0x13))) (given 0)
    ∷ row 4 (stray_asked (last (spelled 4 1 ++ replicate 17 7) (item 68 0x13))) (given 1)
    ∷ row 4 (stray_asked (last (spelled 4 1 ++ replicate 15 7) (item 68 0x13))) (given 19)
    ∷ row 4 (stray_asked (last (spelled 4 0xFFFFFFFF ++ replicate 16 7) (item 68 0x13))) (given 20)
    ∷ row 4 (stray_asked (last (spelled 3 0) (item 68 0x13))) (given 3)
    -- tags 05 and 07, each its own byte, and both the same
    ∷ row 5 (stray_asked (last (spelled 2 0x0101) (item 68 0x05 ++ item 69 0x07))) (given 0)
    ∷ row 5 (stray_asked (last (spelled 2 0x0101) (item 68 0x05 ++ item 68 0x07))) (given 1)
    -- bodies that share bytes, lie in each other or over changes
    ∷ row 5 (stray_asked (last (replicate 11 1) (item 68 0x14 ++ item 71 0x08))) (given 0)
    ∷ row 5 (stray_asked (last (replicate 12 1) (item 68 0x14 ++ item 71 0x08))) (given 1)
    ∷ row 5 (stray_asked (last (replicate 9 1) (item 68 0x14 ++ item 70 0x05))) (given 1)
    ∷ row 5 (stray_asked (last [] (item 4 0x14 ++ item 20 0x08 ++ item 37 0x05))) (given 0)
    ∷ row 5 (stray_asked (spaced (only 1 (replicate 7 1)) (item 4 0x14))) (given 1)
    -- a refused file has none to count
    ∷ row 6 (stray_asked (set trace last_byte 0)) (refused 3)
    ∷ row 6 (stray_asked (with32 trace name_memory 1)) (refused 10)
    ∷ []

pub strays_hold : Holds strays
unfolding everything trace mixed spelled spaced strays
strays_hold =
    (refl, (refl, (refl, (refl, (refl, (refl, (refl, (refl, (refl, (refl, (refl, (refl, (refl, (refl, (refl, (refl, (refl, (refl, (refl, (refl, (refl, (refl, (refl, (refl, (refl, (refl, (refl, (refl, (refl, (refl, tt))))))))))))))))))))))))))))))
