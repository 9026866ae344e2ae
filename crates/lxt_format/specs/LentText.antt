-- Paper 02, Ask 11: a lent text in place of "not driven". The claims on that question, and its examples.
use Rattle.std.specs.Prelude.{ℕ, ◌+◌, ◌≤◌, ◌≡◌, refl, List, [], ◌∷◌, ◌++◌, length, ℤ, pos, negsuc}
use Rattle.lxt_format.specs.Limits.{least_time, greatest_time}
use Rattle.lxt_format.specs.Basics.{Answer, given, refused, answer}
use Rattle.lxt_format.specs.Sections.{end_of}
use Rattle.lxt_format.specs.Geometry.{facts_of}
use Rattle.lxt_format.specs.Values.{TextSource, in_file, lent_text, other_kind}
use Rattle.lxt_format.specs.Judge.{file_refusal}
use Rattle.lxt_format.specs.Answers.{Shown, bits_of, real_of, text_of, nothing}
use Rattle.lxt_format.specs.Questions.{facility_refusal, value_asked, text_asked, text_part, place_by}
use Rattle.lxt_format.specs.Everything.{everything}
use Rattle.lxt_format.specs.Traces.{spelled, requested}
use Rattle.lxt_format.specs.Examples.{Row, row, Holds}
use Rattle.lxt_format.specs.WideTimes.{item}
use Rattle.lxt_format.specs.declared.Kind.TheVariants.{Text}

-- ---- claims, proved in LentTextLaws

-- the length that the second answer gives
unfoldable pub size_said : Answer TextSource → ℕ
size_said (given (in_file start size)) = size
size_said (given (lent_text size)) = size
size_said (given other_kind) = 0
size_said (refused n) = 0

-- both answers agree: the part is as long as the second answer says, whatever the bytes, the question and the lent text
abbrev pub BothAgree : Type 0
BothAgree = (s : List ℕ) (f : ℕ) (t : ℤ) (lent : List ℕ) → length (text_part s f t lent) ≡ size_said (text_asked s f t (length lent))

-- where the zero behind a part of the file ends; 0 where the answer is none
unfoldable pub zero_end : Answer TextSource → ℕ
zero_end (given (in_file start size)) = start + size + 1
zero_end (given (lent_text size)) = 0
zero_end (given other_kind) = 0
zero_end (refused n) = 0

-- a part of the file lies before T, with its zero, and so in the file
abbrev pub PartInside : Type 0
PartInside = (s : List ℕ) (f : ℕ) (t : ℤ) (lent : ℕ) → (zero_end (text_asked s f t lent) ≤ end_of s) × (zero_end (text_asked s f t lent) ≤ length s)

-- "The old question stays": what it answers of a text facility, with the lent text in place of "not driven"
unfoldable pub with_default : ℕ → Answer Shown → Answer TextSource
with_default lent (given (text_of start size)) = given (in_file start size)
with_default lent (given nothing) = given (lent_text lent)
with_default lent (given (bits_of width)) = given other_kind
with_default lent (given (real_of x b)) = given other_kind
with_default lent (refused n) = refused n

-- of a text facility both questions answer the same but for that, and have the same refusals, whatever the room
abbrev pub OfTexts : Type 0
OfTexts = (s : List ℕ) (f : ℕ) (t : ℤ) (room lent : ℕ) → (facts_of s f).kind ≡ Text → text_asked s f t lent ≡ with_default lent (value_asked s f t room).value

-- of any other facility it is "another kind", driven or not
abbrev pub OfOtherKinds : Type 0
OfOtherKinds = (s : List ℕ) (f : ℕ) (t : ℤ) (lent : ℕ) → ((facts_of s f).kind ≡ Text → ⊥) → text_asked s f t lent ≡ answer (facility_refusal s f) other_kind

-- ---- examples

-- both answers
abbrev said : List ℕ → ℕ → ℤ → List ℕ → Answer TextSource × List ℕ
said s f t lent = (text_asked s f t (length lent), text_part s f t lent)

-- a part of the file, from that offset on
abbrev of_file : ℕ → List ℕ → Answer TextSource × List ℕ
of_file start part = (given (in_file start (length part)), part)

abbrev of_lent : List ℕ → Answer TextSource × List ℕ
of_lent text = (given (lent_text (length text)), text)

abbrev another : Answer TextSource × List ℕ
another = (given other_kind, [])

abbrev no : ℕ → Answer TextSource × List ℕ
no number = (refused number, [])

-- "none" and "hi"
abbrev none : List ℕ
none = 0x6E ∷ 0x6F ∷ 0x6E ∷ 0x65 ∷ []

abbrev hi : List ℕ
hi = 0x68 ∷ 0x69 ∷ []

-- Facilities 0 s text, 1 b alias of 0, 2 u text without changes. T = 122, C = 4. Each line of a section begins at the offset that its comment names.
unfoldable pub texts : List ℕ
unfolding spelled
texts =
    spelled 4 0x01380004
    -- 4: facility 0, ""
    ++ spelled 3 0x000200
    -- 7: facility 0, "none"
    ++ spelled 7 0x00016E6F6E6500
    -- 14: names
    ++ spelled 8 0x0000000300000006
    ++ spelled 12 0x000073000000620000007500
    -- 34: geometry
    ++ spelled 16 0x00000000000000000000000000000004
    ++ spelled 16 0x00000000000000000000000000000008
    ++ spelled 16 0x00000000000000000000000000000004
    -- 82: sync
    ++ spelled 12 0x000000070000000000000000
    -- 94: times: 4 is at 10, 7 at 20
    ++ spelled 12 0x000000020000000A00000014
    ++ spelled 8 0x0000000400000003
    ++ spelled 8 0x0000000A0000000A
    -- 122: END
    ++ spelled 1 0x00
    ++ item 4 0x01
    ++ item 82 0x02
    ++ item 14 0x03
    ++ item 34 0x04
    ++ item 94 0x06
    ++ spelled 1 0xB4

pub lent_texts : List Row
lent_texts =
    -- the worked examples of Ask 11
    row 1 (said requested 2 (pos 19) none) (of_lent none)
    ∷ row 2 (said requested 2 (pos 20) none) (of_file 9 hi)
    ∷ row 3 (said requested 2 (pos 19) []) (of_lent [])
    ∷ row 4 (said requested 0 (pos 19) none) another
    ∷ row 5 (said requested 1 (pos 19) none) another
    ∷ row 6 (said requested 5 (pos 19) none) (no 18)
    ∷ row 7 (value_asked requested 2 (pos 19) 0) (record { value = given nothing; visited = 1 })
    -- another kind, driven or not: bits, a real, an alias of bits, an integer
    ∷ row 8 (said requested 0 (pos 9) none) another
    ∷ row 8 (said requested 1 (pos 20) none) another
    ∷ row 8 (said requested 3 (pos 30) none) another
    ∷ row 8 (said requested 4 (pos 30) none) another
    -- before the first change, at a driven text that is empty, and at one that has the lent text's bytes
    ∷ row 9 (file_refusal texts) 0
    ∷ row 9 (said texts 0 (pos 9) none) (of_lent none)
    ∷ row 9 (said texts 0 (pos 10) none) (of_file 6 [])
    ∷ row 9 (said texts 0 (pos 10) []) (of_file 6 [])
    ∷ row 9 (said texts 0 (pos 19) none) (of_file 6 [])
    ∷ row 9 (said texts 0 (pos 20) none) (of_file 9 none)
    -- an alias as its root; without any change, at any time
    ∷ row 10 (said texts 1 (pos 9) none) (of_lent none)
    ∷ row 10 (said texts 1 (pos 20) hi) (of_file 9 none)
    ∷ row 11 (said texts 2 least_time none) (of_lent none)
    ∷ row 11 (said texts 2 greatest_time none) (of_lent none)
    -- times from the least to the greatest; a lent text with zeros
    ∷ row 12 (said requested 2 least_time hi) (of_lent hi)
    ∷ row 12 (said requested 2 (negsuc 0) (0 ∷ 0x61 ∷ 0 ∷ [])) (of_lent (0 ∷ 0x61 ∷ 0 ∷ []))
    ∷ row 12 (said requested 2 greatest_time none) (of_file 9 hi)
    -- a refused file
    ∷ row 13 (said (requested ++ spelled 1 0x00) 2 (pos 19) none) (no 3)
    -- in memory: a part of the file in its block, from its start on; else where the lent text lies
    ∷ row 14 (place_by (1, 64) (2, 0) (text_asked requested 2 (pos 20) 4)) (1, 73)
    ∷ row 14 (place_by (1, 64) (2, 0) (text_asked requested 2 (pos 19) 4)) (2, 0)
    ∷ row 14 (place_by (1, 64) (2, 0) (text_asked requested 0 (pos 19) 4)) (2, 0)
    ∷ row 14 (place_by (1, 64) (2, 0) (text_asked requested 5 (pos 19) 4)) (2, 0)
    ∷ []

pub lent_texts_hold : Holds lent_texts
unfolding everything requested spelled texts lent_texts
lent_texts_hold =
    (refl, (refl, (refl, (refl, (refl, (refl, (refl, (refl, (refl, (refl, (refl, (refl, (refl, (refl, (refl, (refl, (refl, (refl, (refl, (refl, (refl, (refl, (refl, (refl, (refl, (refl, (refl, (refl, (refl, tt)))))))))))))))))))))))))))))
