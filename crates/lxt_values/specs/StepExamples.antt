-- Paper 02, Ask 3: the steps of its worked examples 3-A to 3-H.
use Rattle.std.specs.Prelude.{ℕ, ◌+◌, ◌*◌, ◌/◌, refl, List, [], ◌∷◌, map, length, replicate}
use Rattle.lxt_format.specs.Basics.{range}
use Rattle.lxt_format.specs.Everything.{everything}
use Rattle.lxt_format.specs.Examples.{Row, row, Holds}
use Rattle.lxt_format.specs.Traces.{spelled}
use Rattle.lxt_values.specs.Steps.{symbols_of_byte, step_symbols, after_steps}

-- the steps of `width` symbols of 1 bit: the place of the first symbol that each writes, and what it writes
abbrev steps_of : List ℕ → ℕ → List (ℕ × List ℕ)
steps_of bytes width = map (λ k. (8 * k, step_symbols bytes 1 width 0 k)) (range 0 ((width + 7) / 8))

-- what a buffer of question marks, with room for two more, holds after k of them
abbrev held_after : List ℕ → ℕ → ℕ → List ℕ
held_after bytes width k = after_steps bytes 1 width 0 k (replicate (width + 2) 0x3F)

-- 512 bytes A5
bytes512 : List ℕ
bytes512 = replicate 512 0xA5

-- A to H are 0xA to 0x11
pub steps : List Row
steps =
    row 0xA (steps_of (0xFE ∷ 0x60 ∷ []) 11) ((0, spelled 8 0x3131313131313130) ∷ (8, spelled 3 0x303131) ∷ [])
    ∷ row 0xA (held_after (0xFE ∷ 0x60 ∷ []) 11 0) (replicate 13 0x3F)
    ∷ row 0xA (held_after (0xFE ∷ 0x60 ∷ []) 11 1) (spelled 13 0x31313131313131303F3F3F3F3F)
    ∷ row 0xA (held_after (0xFE ∷ 0x60 ∷ []) 11 2) (spelled 13 0x31313131313131303031313F3F)
    ∷ row 0xB (steps_of (0x80 ∷ []) 1) ((0, spelled 1 0x31) ∷ [])
    ∷ row 0xC (steps_of (0xA5 ∷ []) 8) ((0, spelled 8 0x3130313030313031) ∷ [])
    ∷ row 0xD (steps_of (0xA5 ∷ 0x80 ∷ []) 9) ((0, spelled 8 0x3130313030313031) ∷ (8, spelled 1 0x31) ∷ [])
    ∷ row 0xE (steps_of (0 ∷ 0 ∷ 0xFF ∷ 0xFF ∷ []) 32)
    ((0, replicate 8 0x30) ∷ (8, replicate 8 0x30) ∷ (16, replicate 8 0x31) ∷ (24, replicate 8 0x31) ∷ [])
    ∷ row 0xF (steps_of (0xFF ∷ []) 3) ((0, spelled 3 0x313131) ∷ [])
    ∷ row 0xF (held_after (0xFF ∷ []) 3 1) (spelled 5 0x3131313F3F)
    ∷ row 0x10 (length (steps_of bytes512 4095)) 512
    ∷ row 0x10 (step_symbols bytes512 1 4095 0 511) (spelled 7 0x31303130303130)
    ∷ row 0x11 (length (steps_of bytes512 4096)) 512
    ∷ row 0x11 (step_symbols bytes512 1 4096 0 511) (spelled 8 0x3130313030313031)
    -- a byte of 2 and of 4 bits a symbol, of which those left are written
    ∷ row 2 (map (step_symbols (0x1B ∷ 0xB0 ∷ []) 2 6 0) (0 ∷ 1 ∷ [])) (spelled 4 0x30315A58 ∷ spelled 2 0x5A58 ∷ [])
    ∷ row 4 (map (step_symbols (0x45 ∷ 0x8F ∷ []) 4 3 0) (0 ∷ 1 ∷ [])) (spelled 2 0x4855 ∷ spelled 1 0x2D ∷ [])
    ∷ []

pub steps_hold : Holds steps
unfolding everything symbols_of_byte step_symbols after_steps spelled bytes512 steps
steps_hold =
    (refl, (refl, (refl, (refl, (refl, (refl, (refl, (refl, (refl, (refl, (refl, (refl, (refl, (refl, (refl, (refl, tt))))))))))))))))
