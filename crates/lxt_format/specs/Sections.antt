-- Paper 01, "Frame and section list": refusals 1 to 9.
use Rattle.std.specs.Prelude.{ℕ, zero, suc, ◌+◌, ◌*◌, ◌-◌, Bool, true, false, not, ◌&&◌, ◌||◌, List, [], ◌∷◌, length, ℤ, pos, negsuc, ltb, leb, eqb, if◌then◌else◌}
use Rattle.lxt_format.specs.Limits.{shortest_file, longest_file, most_facilities}
use Rattle.lxt_format.specs.Basics.{range, all, any}
use Rattle.lxt_format.specs.Bytes.{byte_at, u16_at, u32_at, signed}

-- ---- the frame

unfoldable pub length_allowed : List ℕ → Bool
length_allowed s = leb shortest_file (length s) && leb (length s) longest_file

-- "Bytes 0 and 1 are 01 38; then a 16-bit version, accepted from 0 to 4"
unfoldable pub starts_right : List ℕ → Bool
starts_right s = eqb (byte_at s 0) 0x01 && (eqb (byte_at s 1) 0x38 && leb (u16_at s 2) 4)

-- "The last byte is B4."
unfoldable pub ends_right : List ℕ → Bool
ends_right s = eqb (byte_at s (length s - 1)) 0xB4

-- ---- the section list

-- "Each item is a tag byte with a 4-byte value just before it"
pub record Item : Type 0 where
  pub tag : ℕ
  pub value : ℕ

-- The section list: whether END was met, the items before it, the one nearest END first, and "T is the offset of that byte."
pub record Listing : Type 0 where
  pub listed : Bool
  pub items : List Item
  pub end : ℕ

-- "before END, a tag or its value would start below offset 4"
abbrev pub unlisted : Listing
unlisted = record { listed = false; items = []; end = 0 }

-- "The section list is read from the byte before B4 towards the front .. END is a single 00 byte without a value; the reading stops at the
-- first END tag met." From the tag at p on, with the items met so far; k bounds the items left, of which each takes 5 bytes.
unfoldable pub list_from : ℕ → List ℕ → ℕ → List Item → Listing
list_from zero s p met = unlisted
list_from (suc k) s p met =
    if ltb p 4 then unlisted
    else if eqb (byte_at s p) 0 then record { listed = true; items = met; end = p }
    else if ltb (p - 4) 4 then unlisted
    else list_from k s (p - 5) (record { tag = byte_at s p; value = u32_at s (p - 4) } ∷ met)

unfoldable pub listing_of : List ℕ → Listing
listing_of s = list_from (length s) s (length s - 2) []

-- "If a tag is met twice, the one nearer END counts."
unfoldable pub value_in : ℕ → List Item → ℕ
value_in tag [] = 0
value_in tag (i ∷ items) = if eqb i.tag tag then i.value else value_in tag items

-- The counting value of a tag: where its section starts. "A counting value of 0 means absent."
unfoldable pub section_of : List ℕ → ℕ → ℕ
section_of s tag = value_in tag (listing_of s).items

unfoldable pub present : List ℕ → ℕ → Bool
present s tag = not (eqb (section_of s tag) 0)

-- T of paper 01, and C, the value of tag 01
unfoldable pub end_of : List ℕ → ℕ
end_of s = (listing_of s).end

unfoldable pub changes_from : List ℕ → ℕ
changes_from s = section_of s 0x01

-- n, the count of facilities that heads the names
unfoldable pub facility_count : List ℕ → ℕ
facility_count s = u32_at s (section_of s 0x03)

-- ---- the table of times: of tag 06, or as paper 02, Ask 1, has it: "Read tag 09"

-- whether it is that of tag 09; refusals 6 and 7 leave one of the two
unfoldable pub wide_times : List ℕ → Bool
wide_times s = present s 0x09

-- where it starts
unfoldable pub times_at : List ℕ → ℕ
times_at s = if wide_times s then section_of s 0x09 else section_of s 0x06

-- the bytes of a time: in 06 "4 bytes each"; in 09 "first and last (8 bytes each ..) .. m time deltas of 8 bytes"
abbrev pub time_bytes : Bool → ℕ
time_bytes wide = if wide then 8 else 4

-- m, the count of time entries that heads it
unfoldable pub time_count : List ℕ → ℕ
time_count s = u32_at s (times_at s)

-- the bytes of a table of m entries: "count m (4 bytes), first and last .., m position deltas of 4 bytes, m time deltas"
abbrev pub times_size : Bool → ℕ → ℕ
times_size wide m = 4 + 2 * time_bytes wide + 4 * m + time_bytes wide * m

-- ---- refusals 5 to 9

-- 5: "counting tag 0A to 12 not 0"
unfoldable pub nothing_compressed : List ℕ → Bool
nothing_compressed s = not (any (present s) (range 0x0A 9))

-- 6, as Ask 1 has it: "both 06 and 09 count with values other than 0"
unfoldable pub times_once : List ℕ → Bool
times_once s = not (present s 0x06 && present s 0x09)

-- 7: "01, 02, 03, 04 or 06 absent", and with Ask 1 "refusal 7 wants one of them", 06 or 09
unfoldable pub sections_present : List ℕ → Bool
sections_present s = all (present s) (0x01 ∷ 0x02 ∷ 0x03 ∷ 0x04 ∷ []) && (present s 0x06 || present s 0x09)

-- "Bodies lie between offset 4 and T."
abbrev pub inside : ℕ → ℕ → ℕ → Bool
inside T start size = leb 4 start && leb (start + size) T

-- the bytes that refusal 8 asks of each section: "of 03 only the 8-byte head"; 02 has 4 bytes per facility, 04 has 16,
-- 05 and 07 have 1, the times have theirs
unfoldable pub body_size : List ℕ → ℕ → ℕ
body_size s tag =
    if eqb tag 0x02 then 4 * facility_count s
    else if eqb tag 0x03 then 8
    else if eqb tag 0x04 then 16 * facility_count s
    else if eqb tag 0x06 || eqb tag 0x09 then times_size (wide_times s) (time_count s)
    else 1

-- 8: "one of 02 to 07 that is present starts below 4, or its body passes T, or C is outside 4 to T"; Ask 1: "Refusal 8 covers the body of 09."
unfoldable pub body_inside : List ℕ → ℕ → Bool
body_inside s tag = not (present s tag) || inside (end_of s) (section_of s tag) (body_size s tag)

unfoldable pub bodies_inside : List ℕ → Bool
bodies_inside s = all (body_inside s) (range 0x02 6) && (body_inside s 0x09 && inside (end_of s) (changes_from s) 0)

-- 9: "n above 4,096"
unfoldable pub count_allowed : ℕ → Bool
count_allowed n = leb n most_facilities

-- ---- the two sections of one byte

-- "timescale: 1 signed byte; outside -21 to 2, or absent: -9"
unfoldable pub timescale_allowed : ℤ → Bool
timescale_allowed (pos k) = leb k 2
timescale_allowed (negsuc k) = leb (k + 1) 21

unfoldable pub timescale_of : List ℕ → ℤ
timescale_of s =
    let scale : ℤ = signed 8 (byte_at s (section_of s 0x05)) in
    if present s 0x05 && timescale_allowed scale then scale else negsuc 8

-- "initial value: 1 byte; above 8, or absent: X". The code of X is 3.
unfoldable pub initial_of : List ℕ → ℕ
initial_of s =
    let code : ℕ = byte_at s (section_of s 0x07) in
    if present s 0x07 && leb code 8 then code else 3
