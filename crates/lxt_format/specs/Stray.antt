-- Stray bytes: those of an accepted file that belong to no change and to no section. Every rule of paper 01 allows them; they are the sign of a file that
-- was saved over another.
use Rattle.std.specs.Prelude.{ℕ, ◌+◌, ◌*◌, ◌-◌, Bool, not, ◌&&◌, ◌||◌, List, [], ◌∷◌, length, ltb, leb, eqb, if◌then◌else◌}
use Rattle.std.proofs.Math.Seq.{slice}
use Rattle.lxt_format.specs.Basics.{Answer, answer, any, select, range}
use Rattle.lxt_format.specs.Bytes.{u32_at}
use Rattle.lxt_format.specs.Sections.{section_of, present, end_of, facility_count, body_size, inside}
use Rattle.lxt_format.specs.Names.{names_size}
use Rattle.lxt_format.specs.Judge.{all_changes, end_at, file_refusal}
use Rattle.lxt_format.specs.declared.Pair.{Pair}

-- the sections that have a body, read or skipped
abbrev pub body_tags : List ℕ
body_tags = 0x02 ∷ 0x03 ∷ 0x04 ∷ 0x05 ∷ 0x06 ∷ 0x07 ∷ 0x08 ∷ 0x09 ∷ 0x13 ∷ 0x14 ∷ []

-- all bytes of a section's body: of 03 the head and the names; by source 000, 08 and 14 have 8 bytes, and 13 has a count of 4 bytes, then 16 for each;
-- of the others those that refusal 8 asks
unfoldable pub whole_size : List ℕ → ℕ → ℕ
whole_size s tag =
    if eqb tag 0x03 then 8 + names_size (facility_count s) (slice (section_of s 0x03 + 8) (end_of s) s)
    else if eqb tag 0x08 || eqb tag 0x14 then 8
    else if eqb tag 0x13 then 4 + 16 * u32_at s (section_of s 0x13)
    else body_size s tag

-- the byte at o lies in the body of a section that is present and wholly inside
unfoldable pub in_body : List ℕ → ℕ → ℕ → Bool
in_body s o tag =
    present s tag
    && (inside (end_of s) (section_of s tag) (whole_size s tag)
    && (leb (section_of s tag) o && ltb o (section_of s tag + whole_size s tag)))

-- it lies in a change
unfoldable pub in_change : List ℕ → ℕ → Pair → Bool
in_change s o p = leb p.offset o && ltb o (end_at s p)

-- it lies in no change on the chain of a root and in no body
unfoldable pub stray_at : List ℕ → ℕ → Bool
stray_at s o = not (any (in_change s o) (all_changes s)) && not (any (in_body s o) body_tags)

-- how many such bytes there are from offset 4 up to T
unfoldable pub stray_bytes : List ℕ → ℕ
stray_bytes s = length (select (stray_at s) (range 4 (end_of s - 4)))

-- the question: the file's refusal, or how many there are
unfoldable pub stray_asked : List ℕ → Answer ℕ
stray_asked s = answer (file_refusal s) (stray_bytes s)
