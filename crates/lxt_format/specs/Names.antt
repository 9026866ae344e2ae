-- Paper 01, "Names, facilities, times": the names, refusal 10.
use Rattle.std.specs.Prelude.{ℕ, zero, suc, ◌+◌, Bool, false, ◌&&◌, List, [], ◌∷◌, ◌++◌, length, get_or, take, drop, ltb, leb, if◌then◌else◌}
use Rattle.std.proofs.Math.Option.{Option, none, some}
use Rattle.std.proofs.Math.Seq.{slice}
use Rattle.lxt_format.specs.Limits.{longest_name}
use Rattle.lxt_format.specs.Bytes.{u16_at, u32_at, to_zero}
use Rattle.lxt_format.specs.Sections.{section_of, end_of, facility_count}

-- one name in front of those after it
abbrev pub named : List ℕ → Option (List (List ℕ)) → Option (List (List ℕ))
named name none = none
named name (some names) = some (name ∷ names)

-- "A name is a 2-byte prefix length and a zero-terminated suffix; the prefix is taken from the name before (the first: from an empty
-- name)." The next n names in the bytes bs, after the name `before`; none where one of them breaks a rule:
-- 10: "prefix bytes not all before T, prefix longer than the name before, no zero before T, name too long"
unfoldable pub names_in : ℕ → List ℕ → List ℕ → Option (List (List ℕ))
names_in zero bs before = some []
names_in (suc n) bs before =
    let prefix : ℕ = u16_at bs 0 in
    let rest : List ℕ = drop 2 bs in
    let suffix : ℕ = to_zero rest in
    let name : List ℕ = take prefix before ++ take suffix rest in
    if leb 2 (length bs) && (leb prefix (length before) && (ltb suffix (length rest) && leb (length name) longest_name))
    then named name (names_in n (drop (suc suffix) rest) name)
    else none

-- "The sum of all lengths, each plus one, is at most M."
unfoldable pub memory_of : List (List ℕ) → ℕ
memory_of [] = 0
memory_of (name ∷ names) = length name + 1 + memory_of names

abbrev pub within_memory : ℕ → Option (List (List ℕ)) → Bool
within_memory M none = false
within_memory M (some names) = leb (memory_of names) M

-- "count n, memory M (4 bytes each), then n names": the names lie between the head and T
unfoldable pub name_table : List ℕ → Option (List (List ℕ))
name_table s = names_in (facility_count s) (slice (section_of s 0x03 + 8) (end_of s) s) []

-- 10, with "M too small"
unfoldable pub names_allowed : List ℕ → Bool
names_allowed s = within_memory (u32_at s (section_of s 0x03 + 4)) (name_table s)

-- the bytes that n names take in the bytes bs: each has its 2 prefix bytes, its suffix and a zero
unfoldable pub names_size : ℕ → List ℕ → ℕ
names_size zero bs = 0
names_size (suc n) bs =
    let size : ℕ = 2 + to_zero (drop 2 bs) + 1 in
    size + names_size n (drop size bs)

-- the name of facility f, expanded
abbrev pub name_among : ℕ → Option (List (List ℕ)) → List ℕ
name_among f none = []
name_among f (some names) = get_or names f []

unfoldable pub name_of : List ℕ → ℕ → List ℕ
name_of s f = name_among f (name_table s)
