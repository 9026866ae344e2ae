-- What a file keeps that has times of 32 bits alone: the proof of the claim of ShortTimes.
use Prim.Native.Nat.{ℕ, zero, suc, ◌+◌, ◌*◌, ◌≤◌, ◌<◌}
use Rattle.std.specs.Prelude.{◌≡◌, Bool, true, false, ◌&&◌, get_or, drop, pos, ◌+ℤ◌, leb, eqb}
use Rattle.std.proofs.Math.Path.{refl}
use Rattle.std.proofs.Common.{sym, le-leb, lt-ltb}
use Rattle.std.proofs.Math.Bool.{and-false, and-true, or-false}
use mathlib.Core.List.{List, [], ◌∷◌, map}
use Rattle.std.specs.Int.Signed.{le_z, non_neg}
use native.Mathlib.Omega.{arith}
use Rattle.std.proofs.Math.Decide.{dec_le}
use Rattle.std.proofs.lemmas.Bool.{lt-leb}
use Rattle.lxt_format.specs.Basics.{◌unless◌, ◌or_else◌, range, all}
use Rattle.lxt_format.specs.BasicsLaws.{on_test}
use Rattle.lxt_format.specs.Bytes.{number_at, u32_at, numbers_at, signed}
use Rattle.lxt_format.specs.BytesLaws.{AreBytes, u32_lt}
use Rattle.lxt_format.specs.Sections.{length_allowed, starts_right, ends_right, listing_of, nothing_compressed, section_of, present, wide_times, times_at, time_count, times_once, sections_present, body_size, body_inside, bodies_inside}
use Rattle.lxt_format.specs.Times.{time_of_bytes, first_time, last_time, positions_at, position_deltas, time_delta_bytes, time_deltas, sums_by, positions_of, times_of, in_range, table_allowed, times_allowed, time_from, time_of}
use Rattle.lxt_format.specs.BiasedTimes.{bias}
use Rattle.lxt_format.specs.Values.{latest_at}
use Rattle.lxt_format.specs.Judge.{tables_refusal_by, tables_refusal, file_refusal}
use Rattle.lxt_format.specs.ShortTimes.{short_sections_present, short_count, short_size, short_bodies_inside, short_positions, short_times, short_table_allowed, short_times_allowed, short_time_of, short_latest_at, short_tables_refusal, short_refusal, KeepsShortRefusals, KeepsShortTimes}

-- ---- lists of times that are not negative

-- a number of 32 bits is no negative time
short_time : (x : ℕ) → x < 4294967296 → time_of_bytes x ≡ pos x
unfolding signed
short_time x h = let l : x < bias = omega arith in rw (lt-ltb x bias l)

short_numbers : (n : ℕ) (s : List ℕ) → AreBytes s → (o : ℕ) → map time_of_bytes (numbers_at 4 n s o) ≡ map pos (numbers_at 4 n s o)
unfolding numbers_at
short_numbers zero s b o = refl
short_numbers (suc n) s b o =
    let ih = short_numbers n s b (o + 4) in
    let here : time_of_bytes (number_at 4 s o) ≡ pos (number_at 4 s o) = short_time (number_at 4 s o) (unfold u32_at in u32_lt s b o) in
    rw (here, ih)

short_sums : (a : ℕ) (ds : List ℕ) → sums_by ◌+ℤ◌ (pos a) (map pos ds) ≡ map pos (sums_by ◌+◌ a ds)
unfolding sums_by
short_sums a [] = refl
short_sums a (d ∷ ds) = rw (short_sums (a + d) ds)

none_negative : (ds : List ℕ) → all non_neg (map pos ds) ≡ true
unfolding all
none_negative [] = refl
none_negative (d ∷ ds) = none_negative ds

none_negative_later : (ds : List ℕ) → all non_neg (drop 1 (map pos ds)) ≡ true
unfolding all
none_negative_later [] = refl
none_negative_later (d ∷ ds) = none_negative ds

-- times up to a last one of 32 bits do not leave the range
range_follows : (first last : ℕ) → last < bias → (ts : List ℕ)
    → (all in_range (map pos ts) && all (λ t. le_z (pos first) t && le_z t (pos last)) (map pos ts)) ≡ all (λ t. leb first t && leb t last) ts
unfolding all
range_follows first last h [] = refl
range_follows first last h (t ∷ ts) =
    let ih = range_follows first last h ts in
    elim (dec_le t last) [
      | yes l ↦ (let g : t ≤ 9223372036854775807 = omega arith in
          rw (le-leb t 9223372036854775807 g, le-leb t last l, ← ih) (on_test (leb first t) (λ q. rw q) (λ q. simp (q, and-false))))
      | no n ↦ (let l : last < t = omega arith in simp (lt-leb t last l, and-false))
    ]

-- the time of a change among them
short_from : (x : ℕ) (ps ts : List ℕ) (o : ℕ) → time_from (pos x) ps (map pos ts) o ≡ pos (time_from x ps ts o)
unfolding time_from
short_from x [] ts o = refl
short_from x (p ∷ ps) [] o = refl
short_from x (p ∷ ps) (t ∷ ts) o =
    let taken : time_from (pos t) ps (map pos ts) o ≡ pos (time_from t ps ts o) = short_from t ps ts o in
    let passed : time_from (pos x) ps (map pos ts) o ≡ pos (time_from x ps ts o) = short_from x ps ts o in
    on_test (leb p o) (λ q. rw q taken) (λ q. rw q passed)

short_at : (ts : List ℕ) → get_or (map pos ts) 0 (pos 0) ≡ pos (get_or ts 0 0)
short_at [] = refl
short_at (t ∷ ts) = refl

-- ---- a file without tag 09

five : (a b c d e : Bool) → ((a && (b && (c && (d && true)))) && e) ≡ (a && (b && (c && (d && (e && true)))))
five false b c d e = refl
five true false c d e = refl
five true true false d e = refl
five true true true false e = refl
five true true true true e = sym (and-true e)

module _ (s : List ℕ) (bytes : AreBytes s) (absent : present s 0x09 ≡ false) where
  narrow : wide_times s ≡ false
  unfolding wide_times
  narrow = absent

  start_is : times_at s ≡ section_of s 0x06
  unfolding times_at
  start_is = rw narrow

  count_is : time_count s ≡ short_count s
  unfolding time_count short_count
  count_is = rw start_is

  positions_are : positions_of s ≡ short_positions s
  unfolding positions_of position_deltas positions_at short_positions
  positions_are = let e : section_of s 0x06 + 4 + 2 * 4 ≡ section_of s 0x06 + 12 = omega arith in rw (count_is, start_is, narrow, e)

  times_are : (time_deltas s ≡ map pos (time_delta_bytes s)) × (times_of s ≡ map pos (short_times s))
  unfolding times_of time_deltas time_delta_bytes positions_at short_times
  times_are =
      let e : section_of s 0x06 + 4 + 2 * 4 + 4 * short_count s ≡ section_of s 0x06 + 12 + 4 * short_count s = omega arith in
      let ds : List ℕ = numbers_at 4 (short_count s) s (section_of s 0x06 + 12 + 4 * short_count s) in
      let all_short = short_numbers (short_count s) s bytes (section_of s 0x06 + 12 + 4 * short_count s) in
      (rw (count_is, start_is, narrow, e) all_short, rw (count_is, start_is, narrow, e, all_short) (short_sums 0 ds))

  ends_are : (first_time s ≡ pos (u32_at s (section_of s 0x06 + 4))) × (last_time s ≡ pos (u32_at s (section_of s 0x06 + 8)))
  unfolding first_time last_time u32_at
  ends_are =
      let e : section_of s 0x06 + 4 + 4 ≡ section_of s 0x06 + 8 = omega arith in (
        rw (start_is, narrow) (short_time (number_at 4 s (section_of s 0x06 + 4)) (unfold u32_at in u32_lt s bytes (section_of s 0x06 + 4))),
        rw (start_is, narrow, e) (short_time (number_at 4 s (section_of s 0x06 + 8)) (unfold u32_at in u32_lt s bytes (section_of s 0x06 + 8))),
      )

  table_is : table_allowed s ≡ short_table_allowed s
  unfolding table_allowed short_table_allowed
  table_is =
      let first : ℕ = u32_at s (section_of s 0x06 + 4) in
      let last : ℕ = u32_at s (section_of s 0x06 + 8) in
      let small : last < bias = omega (arith, u32_lt s bytes (section_of s 0x06 + 8)) in
      rw (positions_are, times_are.0, times_are.1, ends_are.0, ends_are.1, none_negative_later (time_delta_bytes s), range_follows first last small (short_times s))

  times_kept : (o : ℕ) → time_of s o ≡ pos (short_time_of s o)
  unfolding time_of short_time_of
  times_kept o = rw (positions_are, times_are.1, short_at (short_times s)) (short_from (get_or (short_times s) 0 0) (short_positions s) (short_times s) o)

  latest_kept : (t : ℕ) (os : List ℕ) → latest_at s (pos t) os ≡ short_latest_at s t os
  unfolding latest_at short_latest_at
  latest_kept t [] = refl
  latest_kept t (o ∷ os) = rw (times_kept o, latest_kept t os)

  bodies_kept : bodies_inside s ≡ short_bodies_inside s
  unfolding bodies_inside body_inside body_size short_bodies_inside short_size all range
  bodies_kept =
      let e : 4 + 2 * 4 + 4 * short_count s + 4 * short_count s ≡ 12 + 8 * short_count s = omega arith in
      rw (absent, narrow, count_is, e)

  sections_kept : sections_present s ≡ short_sections_present s
  unfolding sections_present short_sections_present all
  sections_kept = rw (absent, or-false (present s 0x06)) (five (present s 0x01) (present s 0x02) (present s 0x03) (present s 0x04) (present s 0x06))

  tables_kept : tables_refusal s ≡ short_tables_refusal s
  unfolding tables_refusal short_tables_refusal times_once times_allowed short_times_allowed
  tables_kept = rw (absent, and-false (present s 0x06), sections_kept, bodies_kept, count_is, table_is)

pub keeps_short_times : KeepsShortTimes
keeps_short_times s bytes absent = (times_kept s bytes absent, latest_kept s bytes absent)

-- ---- where tag 09 is there

-- a check that both make, before others that agree where the refusal is not 6
both_make : (a : ℕ) {old new : ℕ} → ((old ≡ 6 → ⊥) → new ≡ old) → ((a or_else old) ≡ 6 → ⊥) → (a or_else new) ≡ (a or_else old)
both_make a k n = on_test (eqb a 0) (λ q. rw q (k (rw q at n))) (λ q. rw q)

-- only the checks before 6 give another number
refused_before : (s : List ℕ) → present s 0x09 ≡ true → (short_tables_refusal s ≡ 6 → ⊥) → tables_refusal s ≡ short_tables_refusal s
unfolding tables_refusal short_tables_refusal tables_refusal_by
refused_before s there =
    let from1 = both_make (1 unless length_allowed s) in
    let from2 = both_make (2 unless starts_right s) in
    let from3 = both_make (3 unless ends_right s) in
    let from4 = both_make (4 unless (listing_of s).listed) in
    let from5 = both_make (5 unless nothing_compressed s) in
    from1 (from2 (from3 (from4 (from5 (λ n. absurd (n (rw there)))))))

short_tables : (s : List ℕ) → AreBytes s → (short_tables_refusal s ≡ 6 → ⊥) → tables_refusal s ≡ short_tables_refusal s
short_tables s bytes n = on_test (present s 0x09) (λ there. refused_before s there n) (λ absent. tables_kept s bytes absent)

pub keeps_short_refusals : KeepsShortRefusals
unfolding file_refusal short_refusal
keeps_short_refusals s bytes n =
    let e : tables_refusal s ≡ short_tables_refusal s = short_tables s bytes (λ z. n (rw z)) in
    (rw e, e)
