-- A written file passes refusals 1 to 9, and its timescale and initial symbol are read back.
use Prim.Native.Nat.{ℕ, ◌+◌, ◌*◌, ◌-◌, ◌≤◌, ◌<◌}
use mathlib.Core.Path.{◌≡◌, refl, sym}
use mathlib.Core.Bool.{true, false, not}
use mathlib.Core.List.{List}
use lib.ListN.{length}
use lib.IntN.{ℤ, pos, negsuc}
use native.Mathlib.Omega.{arith}
use borrow.Author.Tests.{eq-eqb, ne_eqb, le-leb, lt-ltb, le-ltb, leb-true}
use Rattle.lxt_format.specs.Limits.{longest_file}
use Rattle.lxt_format.specs.Basics.{range, all}
use Rattle.lxt_format.specs.BasicsLaws.{both_and, or_true}
use Rattle.lxt_format.specs.Bytes.{byte_at, u16_at, u32_at, signed}
use Rattle.lxt_format.specs.BytesLaws.{u16_bytes}
use Rattle.lxt_format.specs.Sections.{length_allowed, starts_right, ends_right, section_of, present, end_of, changes_from}
use Rattle.lxt_format.specs.Sections.{facility_count, wide_times, times_at, time_count, nothing_compressed, times_once, sections_present}
use Rattle.lxt_format.specs.Sections.{body_size, body_inside, bodies_inside, count_allowed, timescale_allowed, timescale_of, initial_of}
use Rattle.lxt_written.specs.Input.{Trace}
use Rattle.lxt_written.specs.WrittenChanges.{laid}
use Rattle.lxt_written.specs.WrittenFile.{names_body, geometry_body, sync_body, entries_of, times_body, signed_byte}
use Rattle.lxt_written.specs.Stands.{stands_front}
use Rattle.lxt_written.specs.WrittenLaws.{geometry_long, sync_long, times_long, names_long}
use Rattle.lxt_round_trip.proofs.TableLaws.{stands_word}
use Rattle.lxt_round_trip.proofs.ListLaws.{any_none}
use Rattle.lxt_round_trip.proofs.AllowedLaws.{Kept}
use Rattle.lxt_round_trip.proofs.SectionLaws.{Shape}
use Rattle.lxt_round_trip.proofs.BodyLaws.{Bodies}

-- ---- 1, 2, 3

module _ (t : Trace) (s : List ℕ) (h : Shape t s) where
  -- 1: the length
  pub length_allowed_lem : length s ≤ longest_file → length_allowed s ≡ true
  unfolding length_allowed
  length_allowed_lem short = let a : 6 ≤ length s = omega (arith, h.long) in both_and _ _ (le-leb 6 (length s) a) (le-leb (length s) longest_file short)

  -- 2: the header
  pub starts_right_lem : starts_right s ≡ true
  unfolding starts_right
  starts_right_lem =
      let a : byte_at s 0 ≡ 0x01 = h.head.same 0 (omega arith) in
      let b : byte_at s 1 ≡ 0x38 = h.head.same 1 (omega arith) in
      let c : byte_at s 2 ≡ 0 = h.head.same 2 (omega arith) in
      let d : byte_at s 3 ≡ 4 = h.head.same 3 (omega arith) in
      let v : u16_at s 2 ≤ 4 = omega (arith, u16_bytes s 2) in
      both_and _ _ (eq-eqb (byte_at s 0) 0x01 a) (both_and _ _ (eq-eqb (byte_at s 1) 0x38 b) (le-leb (u16_at s 2) 4 v))

  -- 3: the last byte
  pub ends_right_lem : ends_right s ≡ true
  unfolding ends_right
  ends_right_lem = eq-eqb (byte_at s (length s - 1)) 0xB4 h.last

-- ---- what heads the names and the times

module _ (t : Trace) (s : List ℕ) (b : Bodies t s) (short : length s ≤ longest_file) where
  -- the times are those of tag 06
  pub not_wide : wide_times s ≡ false
  unfolding wide_times present
  not_wide = rw (b.others 0x09 (omega arith))

  -- they start where tag 06 says
  pub times_start : times_at s ≡ section_of s 0x06
  unfolding times_at
  times_start = rw not_wide

  -- there are fewer entries than bytes
  entries_few : 12 + 4 * length (entries_of (laid t)) + 4 * length (entries_of (laid t)) ≤ longest_file
  entries_few = let l = times_long t in omega (arith, b.times.within)

  -- m is the count of entries
  pub time_count_lem : time_count s ≡ length (entries_of (laid t))
  unfolding time_count times_body
  time_count_lem =
      let few = entries_few in
      let e : section_of s 0x06 + 4 * 0 ≡ section_of s 0x06 = omega arith in
      let at : u32_at s (section_of s 0x06 + 4 * 0) ≡ length (entries_of (laid t)) =
      stands_word _ s (section_of s 0x06) (stands_front s (section_of s 0x06) _ _ b.times) 0 (omega arith) (omega arith) in
      rw times_start (rw e at at)

  module _ (k : Kept t) where
    -- n is the count of facilities
    pub count_read : facility_count s ≡ length t.facilities
    unfolding facility_count names_body
    count_read =
        let e : section_of s 0x03 + 4 * 0 ≡ section_of s 0x03 = omega arith in
        let at : u32_at s (section_of s 0x03 + 4 * 0) ≡ length t.facilities =
        stands_word _ s (section_of s 0x03) (stands_front s (section_of s 0x03) _ _ b.names) 0 (omega arith) (omega (arith, k.count)) in
        rw e at at

    -- 9: n
    pub count_allowed_lem : count_allowed (facility_count s) ≡ true
    unfolding count_allowed
    count_allowed_lem = rw count_read (le-leb _ _ k.count)

-- ---- 5, 6, 7

-- a section that starts somewhere is there
pub there : (s : List ℕ) (tag : ℕ) → 0 < section_of s tag → present s tag ≡ true
unfolding present
there s tag h = let n : section_of s tag ≡ 0 → ⊥ = λ e. omega arith in simp (ne_eqb (section_of s tag) 0 n)

-- one that starts at 0 is not
missing : (s : List ℕ) (tag : ℕ) → section_of s tag ≡ 0 → present s tag ≡ false
unfolding present
missing s tag h = rw h

module _ (t : Trace) (s : List ℕ) (b : Bodies t s) where
  -- 5: no compressed section
  pub nothing_compressed_lem : nothing_compressed s ≡ true
  unfolding nothing_compressed
  nothing_compressed_lem = rw (any_none (present s) 0x0A 9 (λ tag a l. missing s tag (b.others tag (omega arith))))

  -- the sections 01 to 07 are there
  sections_low : (4 ≤ section_of s 0x01) × (4 ≤ section_of s 0x02) × (4 ≤ section_of s 0x03) × (4 ≤ section_of s 0x04)
      × (4 ≤ section_of s 0x05) × (4 ≤ section_of s 0x06) × (4 ≤ section_of s 0x07)
  sections_low = omega arith

  -- 6: one table of times
  pub times_once_lem : times_once s ≡ true
  unfolding times_once
  times_once_lem = rw (there s 0x06 (omega (arith, sections_low)), missing s 0x09 (b.others 0x09 (omega arith)))

  -- 7: the sections that must be there
  pub sections_present_lem : sections_present s ≡ true
  unfolding sections_present all
  sections_present_lem =
      let l = sections_low in
      rw (there s 0x01 (omega arith), there s 0x02 (omega arith), there s 0x03 (omega arith), there s 0x04 (omega arith), there s 0x06 (omega arith))

-- ---- 8

-- a body that lies between offset 4 and T
body_within : (s : List ℕ) (tag size : ℕ) → body_size s tag ≡ size → 4 ≤ section_of s tag → section_of s tag + size ≤ end_of s → body_inside s tag ≡ true
unfolding body_inside
body_within s tag size e a b = rw e (or_true (not (present s tag)) (both_and _ _ (le-leb 4 _ a) (le-leb _ (end_of s) b)))

-- one that is not there
body_missing : (s : List ℕ) (tag : ℕ) → section_of s tag ≡ 0 → body_inside s tag ≡ true
unfolding body_inside
body_missing s tag h = rw (missing s tag h)

module _ (t : Trace) (s : List ℕ) (b : Bodies t s) (short : length s ≤ longest_file) (k : Kept t) where
  -- the bytes that refusal 8 asks are those that are written
  pub times_size_lem : body_size s 0x06 ≡ length (times_body t)
  unfolding body_size
  times_size_lem = rw (not_wide t s b short, time_count_lem t s b short) (omega (arith, times_long t))

  -- of 02
  pub sync_size : body_size s 0x02 ≡ length (sync_body t)
  unfolding body_size
  sync_size = rw (count_read t s b short k) (sym (sync_long t))

  -- of 04
  pub geometry_size : body_size s 0x04 ≡ length (geometry_body t)
  unfolding body_size
  geometry_size = rw (count_read t s b short k) (sym (geometry_long t))

  -- of 03, 05 and 07
  pub small_size : (body_size s 0x03 ≡ 8) × (body_size s 0x05 ≡ 1) × (body_size s 0x07 ≡ 1)
  unfolding body_size
  small_size = (refl, refl, refl)

  -- 8: every body lies between offset 4 and T
  pub bodies_inside_lem : bodies_inside s ≡ true
  unfolding bodies_inside all range changes_from
  bodies_inside_lem =
      let l = sections_low t s b in
      let n = names_long t in
      let z = small_size in
      let two = body_within s 0x02 (length (sync_body t)) sync_size (omega arith) (omega arith) in
      let three = body_within s 0x03 8 z.0 (omega arith) (omega arith) in
      let four = body_within s 0x04 (length (geometry_body t)) geometry_size (omega arith) (omega arith) in
      let five = body_within s 0x05 1 z.1 (omega arith) (omega arith) in
      let six = body_within s 0x06 (length (times_body t)) times_size_lem (omega arith) (omega arith) in
      let seven = body_within s 0x07 1 z.2 (omega arith) (omega arith) in
      let nine = body_missing s 0x09 (b.others 0x09 (omega arith)) in
      let first = le-leb 4 (section_of s 0x01) l.0 in
      let last = le-leb (section_of s 0x01 + 0) (end_of s) (omega arith) in
      rw (two, three, four, five, six, seven, nine, first, last)

-- ---- the sections of one byte

-- a timescale in its byte is read as it was
scale_read : (z : ℤ) → timescale_allowed z ≡ true → signed 8 (signed_byte z) ≡ z
unfolding timescale_allowed signed signed_byte
scale_read (pos k) h = let l : k < 128 = omega (arith, leb-true k 2 h) in rw (lt-ltb k 128 l)
scale_read (negsuc k) h =
    let l : k + 1 ≤ 21 = leb-true (k + 1) 21 h in
    let e : 255 - (255 - k) ≡ k = omega arith in
    rw (le-ltb (255 - k) 128 (omega arith), e)

module _ (t : Trace) (s : List ℕ) (b : Bodies t s) (k : Kept t) where
  -- the timescale is read as it was given
  pub timescale_read : timescale_of s ≡ t.timescale
  unfolding timescale_of
  timescale_read =
      let e = scale_read t.timescale k.timescale in
      rw (b.timescale, e, there s 0x05 (omega (arith, sections_low t s b)), k.timescale)

  -- the initial symbol is read as it was given
  pub initial_read : initial_of s ≡ t.initial
  unfolding initial_of
  initial_read = rw (b.initial, there s 0x07 (omega (arith, sections_low t s b)), le-leb t.initial 8 k.initial)
