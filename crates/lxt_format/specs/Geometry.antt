-- Paper 01, "Names, facilities, times": geometry, aliases and roots, refusals 11 and 12.
use Rattle.std.specs.Prelude.{ℕ, zero, suc, ◌+◌, ◌*◌, ◌/◌, ◌%◌, Bool, not, ◌&&◌, ◌||◌, List, pos, nat_abs, ◌-ℤ◌, ltb, leb, eqb, if◌then◌else◌}
use Rattle.lxt_format.specs.Limits.{widest_facility}
use Rattle.lxt_format.specs.Basics.{range, all, select}
use Rattle.lxt_format.specs.Bytes.{u32_at, signed}
use Rattle.lxt_format.specs.Sections.{section_of, facility_count}
use Rattle.lxt_format.specs.declared.Kind.{Kind}
use Rattle.lxt_format.specs.declared.Kind.TheVariants.{Bits, Integer, Real, Text}
use Rattle.lxt_format.specs.declared.Facts.{Facts}

-- "Geometry holds rows, msb, lsb, flags", 16 bytes per facility
unfoldable pub rows_of : List ℕ → ℕ → ℕ
rows_of s f = u32_at s (section_of s 0x04 + 16 * f)

unfoldable pub msb_of : List ℕ → ℕ → ℕ
msb_of s f = u32_at s (section_of s 0x04 + 16 * f + 4)

unfoldable pub lsb_of : List ℕ → ℕ → ℕ
lsb_of s f = u32_at s (section_of s 0x04 + 16 * f + 8)

unfoldable pub flags_of : List ℕ → ℕ → ℕ
flags_of s f = u32_at s (section_of s 0x04 + 16 * f + 12)

-- "Flag bit 3 means alias of facility number rows"
unfoldable pub is_alias : List ℕ → ℕ → Bool
is_alias s f = eqb (flags_of s f / 8 % 2) 1

-- "flags is 0 (bits), 1 (integer), 2 (real) or 4 (text)"
unfoldable pub flags_allowed : ℕ → Bool
flags_allowed flags = eqb flags 0 || (eqb flags 1 || (eqb flags 2 || eqb flags 4))

unfoldable pub kind_of_flags : ℕ → Kind
kind_of_flags flags = if eqb flags 1 then Integer else if eqb flags 2 then Real else if eqb flags 4 then Text else Bits

-- "Bits have width |msb - lsb| + 1"; "msb and lsb are signed"
unfoldable pub width_between : ℕ → ℕ → ℕ
width_between msb lsb = nat_abs (signed 32 msb -ℤ signed 32 lsb) + 1

-- 11: "rows, flags or width", of a facility that is no alias. "Otherwise rows is 0"
unfoldable pub geometry_allowed : List ℕ → ℕ → Bool
geometry_allowed s f =
    is_alias s f
    || (eqb (rows_of s f) 0
    && (flags_allowed (flags_of s f)
    && (not (eqb (flags_of s f) 0) || leb (width_between (msb_of s f) (lsb_of s f)) widest_facility)))

unfoldable pub geometries_allowed : List ℕ → Bool
geometries_allowed s = all (geometry_allowed s) (range 0 (facility_count s))

-- "a facility's facts are its width and its kind, with msb and lsb beside them. Bits have width |msb - lsb| + 1; an integer has 32, 31 and 0;
-- reals and texts have 0, 0 and 0."
unfoldable pub facts_by : Kind → ℕ → ℕ → Facts
facts_by Bits msb lsb = record { width = width_between msb lsb; msb = signed 32 msb; lsb = signed 32 lsb; kind = Bits }
facts_by Integer msb lsb = record { width = 32; msb = pos 31; lsb = pos 0; kind = Integer }
facts_by Real msb lsb = record { width = 0; msb = pos 0; lsb = pos 0; kind = Real }
facts_by Text msb lsb = record { width = 0; msb = pos 0; lsb = pos 0; kind = Text }

-- the facts that a root's own entry gives
unfoldable pub own_facts : List ℕ → ℕ → Facts
own_facts s f = facts_by (kind_of_flags (flags_of s f)) (msb_of s f) (lsb_of s f)

-- ---- aliases

-- "An alias must reach, by aliases with targets below n, a facility that is none: its root. A root's root is itself." From facility f on, by at
-- most k facilities; n where there is no root. A way that meets a facility twice never ends, so n facilities are enough.
unfoldable pub root_within : ℕ → List ℕ → ℕ → ℕ
root_within zero s f = facility_count s
root_within (suc k) s f =
    if leb (facility_count s) f then facility_count s
    else if is_alias s f then root_within k s (rows_of s f)
    else f

unfoldable pub root_of : List ℕ → ℕ → ℕ
root_of s f = root_within (facility_count s) s f

-- 12: "alias target or cycle"
unfoldable pub aliases_allowed : List ℕ → Bool
aliases_allowed s = all (λ f. ltb (root_of s f) (facility_count s)) (range 0 (facility_count s))

-- the facilities that are roots, in order
unfoldable pub roots_of : List ℕ → List ℕ
roots_of s = select (λ f. not (is_alias s f)) (range 0 (facility_count s))

-- "An alias answers its root's facts."
unfoldable pub facts_of : List ℕ → ℕ → Facts
facts_of s f = own_facts s (root_of s f)

-- "sync: 4 bytes per facility": where a facility's chain starts
unfoldable pub sync_of : List ℕ → ℕ → ℕ
sync_of s f = u32_at s (section_of s 0x02 + 4 * f)
