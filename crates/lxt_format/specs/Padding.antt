-- Paper 02, Ask 6: what is accepted, and what judging and reading a change say of its padding.
use Rattle.std.specs.Prelude.{ℕ, ◌+◌, ◌-◌, refl, Bool, true, false, List, [], ◌∷◌, ◌++◌, length, set, replicate, pos}
use Rattle.lxt_format.specs.Basics.{Answer, given, refused}
use Rattle.lxt_format.specs.Judge.{file_refusal, judge}
use Rattle.lxt_format.specs.Answers.{Timed, bits_of}
use Rattle.lxt_format.specs.Questions.{change_asked, change_buffer, value_buffer, start_record, carry_asked, carry_output}
use Rattle.lxt_format.specs.Everything.{everything}
use Rattle.lxt_format.specs.Traces.{spelled, with32, mixed, data5, data8, data29, sync_of_mixed, msb_of_mixed, flags_of_mixed}
use Rattle.lxt_format.specs.Examples.{Row, row, Holds, pair}
use Rattle.lxt_format.specs.declared.Summary.{Summary}
use Rattle.lxt_format.specs.declared.Pair.{Pair}

-- a file with one facility of bits of that width and one change, at 4, of that command byte and that data: its previous offset is 0, its time 7
one_change : ℕ → ℕ → List ℕ → List ℕ
unfolding spelled
one_change width command bytes =
    let names : ℕ = 6 + length bytes in
    spelled 4 0x01380004
    ++ (command ∷ 2 ∷ bytes)
    ++ spelled 12 0x000000010000000200006100
    -- geometry, sync and times
    ++ spelled 4 0
    ++ spelled 4 (width - 1)
    ++ spelled 8 0
    ++ spelled 4 4
    ++ spelled 20 0x0000000100000000000000090000000400000007
    -- END
    ++ spelled 1 0x00
    ++ spelled 5 0x0000000401
    ++ spelled 4 (names + 28)
    ++ spelled 1 0x02
    ++ spelled 4 names
    ++ spelled 1 0x03
    ++ spelled 4 (names + 12)
    ++ spelled 1 0x04
    ++ spelled 4 (names + 32)
    ++ spelled 1 0x06
    ++ spelled 1 0xB4

-- judging's answer on padding
abbrev judged_clean : Answer Summary → Answer Bool
judged_clean (given a) = given a.clean
judged_clean (refused k) = refused k

-- of a file with a change of facility 0 at o: judging's answer on padding, the answer of reading the change, and its symbols
abbrev said : List ℕ → ℕ → ℕ → Answer Bool × (Timed × List ℕ)
said s width o = (judged_clean (judge s), (change_asked s 0 o width, change_buffer s 0 o (replicate width 0xFF)))

-- a change of bits that was read
abbrev was : ℕ → ℕ → Bool → Timed
was time width clean = record { time = pos time; value = given (bits_of width); clean = clean }

-- the change is accepted with these symbols, and its padding was clean or was not
abbrev accepted : List ℕ → Bool → Answer Bool × (Timed × List ℕ)
accepted symbols clean = (given clean, (was 7 (length symbols) clean, symbols))

-- the file is refused, and so is the question: it changes nothing lent
abbrev refused_as : ℕ → ℕ → Answer Bool × (Timed × List ℕ)
refused_as refusal width = (refused refusal, (record { time = pos 0; value = refused refusal; clean = false }, replicate width 0xFF))

-- the trace `mixed` with rubbish in the change at 5, the older of the two of facility 0
older_dirty : List ℕ
unfolding mixed
older_dirty = set mixed data5 0xB5

-- the trace `mixed` whose facility 1 has 3 bits: its change at 8 has the data byte x
second_root : ℕ → List ℕ
unfolding mixed spelled
second_root x = set (with32 (with32 mixed (flags_of_mixed 1) 0) (msb_of_mixed 1) 2) data8 x

-- the record of a walk of a file with six facilities that asks for facility 0
abbrev started : List ℕ → List Pair
started s = start_record s (1 ∷ 0 ∷ 0 ∷ 0 ∷ 0 ∷ 0 ∷ []) (replicate 6 (pair 9 9))

-- rows 0xA to 0x14 are the examples 6-A to 6-K
pub padding : List Row
padding =
    row 0xA (one_change 3 0x00 (0x60 ∷ [])) (spelled 86 0x01380004000260000000010000000200006100000000000000000200000000000000000000000400000001000000000000000900000004000000070000000004010000002302000000070300000013040000002706b4)
    ∷ row 0xA (said (one_change 3 0x00 (0x60 ∷ [])) 3 4) (accepted (spelled 3 0x303131) true)
    ∷ row 0xB (said (one_change 3 0x00 (0x7F ∷ [])) 3 4) (accepted (spelled 3 0x303131) false)
    ∷ row 0xC (said (one_change 1 0x00 (0x01 ∷ [])) 1 4) (accepted (spelled 1 0x30) false)
    ∷ row 0xD (said (one_change 8 0x00 (0x01 ∷ [])) 8 4) (accepted (spelled 8 0x3030303030303031) true)
    ∷ row 0xE (said (one_change 3 0x01 (0xB4 ∷ [])) 3 4) (accepted (spelled 3 0x5A5831) true)
    ∷ row 0xF (said (one_change 3 0x01 (0xB7 ∷ [])) 3 4) (accepted (spelled 3 0x5A5831) false)
    ∷ row 0x10 (said (one_change 3 0x02 (0x01 ∷ 0x20 ∷ [])) 3 4) (accepted (spelled 3 0x30315A) true)
    ∷ row 0x11 (said (one_change 3 0x02 (0x01 ∷ 0x2F ∷ [])) 3 4) (accepted (spelled 3 0x30315A) false)
    ∷ row 0x12 (said (one_change 3 0x02 (0x01 ∷ 0x9F ∷ [])) 3 4) (refused_as 16 3)
    ∷ row 0x13 (said (one_change 3 0x07 []) 3 4) (accepted (spelled 3 0x484848) true)
    ∷ row 0x14 (said (one_change 3 0x40 (0x60 ∷ [])) 3 4) (refused_as 16 3)
    -- each unused bit counts, and no bit in use
    ∷ row 1 (said (one_change 9 0x00 (0xFF ∷ 0xC0 ∷ [])) 9 4) (accepted (replicate 9 0x31) false)
    ∷ row 1 (said (one_change 9 0x00 (0xFF ∷ 0x80 ∷ [])) 9 4) (accepted (replicate 9 0x31) true)
    ∷ row 1 (said (one_change 4 0x02 (0x88 ∷ 0x88 ∷ [])) 4 4) (accepted (replicate 4 0x2D) true)
    ∷ row 1 (said (one_change 4 0x02 (0x88 ∷ 0x89 ∷ [])) 4 4) (refused_as 16 4)
    ∷ row 1 (said (one_change 3 0x02 (0x9F ∷ 0x2F ∷ [])) 3 4) (refused_as 16 3)
    -- a code above 8 and a previous offset below C, in one change
    ∷ row 1 (file_refusal (set (one_change 3 0x02 (0x01 ∷ 0x9F ∷ [])) 5 1)) 16
    ∷ row 1 (file_refusal (set (one_change 3 0x02 (0x01 ∷ 0x2F ∷ [])) 5 1)) 15
    -- "every change reachable from a root": the older of two, and that of another root
    ∷ row 2 (said mixed 3 29) (given true, (was 10 3 true, spelled 3 0x48552D))
    ∷ row 2 (said older_dirty 3 29) (given false, (was 10 3 true, spelled 3 0x48552D))
    ∷ row 2 (said older_dirty 3 5) (given false, (was 10 3 false, spelled 3 0x5A5831))
    ∷ row 2 (said (second_root 0x20) 3 29) (given true, (was 10 3 true, spelled 3 0x48552D))
    ∷ row 2 (said (second_root 0x21) 3 29) (given false, (was 10 3 true, spelled 3 0x48552D))
    -- and only those: no root leads to the change at 5 any more
    ∷ row 2 (said (with32 older_dirty (sync_of_mixed 0) 0) 3 29) (given true, (record { time = pos 0; value = refused 19; clean = false }, replicate 3 0xFF))
    -- the value at a time and the walk, over rubbish
    ∷ row 3 (value_buffer (set older_dirty data29 0x8F) 4 (pos 10) (replicate 3 0xFF)) (spelled 3 0x48552D)
    ∷ row 3 (carry_asked older_dirty (started older_dirty) 9 18) (given (2, true))
    ∷ row 3 (carry_output older_dirty (started older_dirty) 9 (replicate 18 0xFF)) (0 ∷ 29 ∷ 0 ∷ 5 ∷ replicate 14 0xFF)
    -- later checks are reached: two roots share the change at 5, with rubbish
    ∷ row 4 (file_refusal (set (with32 (second_root 0x20) (sync_of_mixed 1) 5) data5 0xB5)) 17
    ∷ []

pub padding_holds : Holds padding
unfolding everything mixed spelled one_change older_dirty second_root padding
padding_holds =
    (refl, (refl, (refl, (refl, (refl, (refl, (refl, (refl, (refl, (refl, (refl, (refl, (refl, (refl, (refl, (refl, (refl, (refl, (refl, (refl, (refl, (refl, (refl, (refl, (refl, (refl, (refl, (refl, (refl, tt)))))))))))))))))))))))))))))
