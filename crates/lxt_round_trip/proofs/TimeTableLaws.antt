-- The time table of a written file: refusal 13, and the time of each change.
use Prim.Native.Nat.{ℕ, ◌+◌, ◌*◌, ◌-◌, ◌≤◌, ◌<◌}
use mathlib.Core.Path.{◌≡◌, refl, ap, ◌∙◌}
use mathlib.Core.Bool.{true, not, ◌&&◌}
use mathlib.Core.List.{List, [], ◌∷◌, ◌++◌, map, reverse}
use lib.ListN.{length, get_or, drop, length-map}
use lib.IntN.{pos}
use lib.Signed.{le_z, non_neg}
use lib.Dec.{ltb, leb, eqb}
use native.Mathlib.Omega.{arith}
use borrow.Author.Tests.{le-leb, lt-ltb, leb-true, eqb-true, eqb-false}
use Rattle.lxt_format.specs.Limits.{longest_file}
use Rattle.lxt_format.specs.Basics.{all}
use Rattle.lxt_format.specs.BasicsLaws.{on_test, and_both, both_and}
use Rattle.lxt_format.specs.Bytes.{number_at, u32_at}
use Rattle.lxt_format.specs.Sections.{section_of, end_of}
use Rattle.lxt_format.specs.Geometry.{sync_of}
use Rattle.lxt_format.specs.Times.{time_of_bytes, first_time, last_time, positions_at, position_deltas, time_delta_bytes, time_deltas}
use Rattle.lxt_format.specs.Times.{positions_of, times_of, in_range, table_allowed, times_allowed, time_of}
use Rattle.lxt_chains.specs.Pending.{Each}
use Rattle.lxt_chains.proofs.Lists.{each_map, each_both, each_drop, all_each}
use Rattle.lxt_written.specs.Input.{Facility, Change, Trace}
use Rattle.lxt_written.specs.WrittenChanges.{last_of, pair_of, laid}
use Rattle.lxt_written.specs.WrittenFile.{words, entries_of, deltas_from, first_time_of, last_time_of, times_body}
use Rattle.lxt_written.specs.Writing.{value_of_allowed, changes_allowed}
use Rattle.lxt_written.specs.Stands.{Stands, stands_front, stands_back}
use Rattle.lxt_round_trip.specs.Steps.{ChangeTyped}
use Rattle.lxt_written.specs.TableSizes.{length_words}
use Rattle.lxt_written.specs.WrittenLaws.{length_deltas}
use Rattle.lxt_round_trip.proofs.TableLaws.{stands_word, stands_words}
use Rattle.lxt_round_trip.proofs.ListLaws.{each_at, each_image, each_source, any_none, get_d_below}
use Rattle.lxt_round_trip.proofs.AllowedLaws.{Kept}
use Rattle.lxt_round_trip.proofs.LaidLaws.{laid_order, laid_within, laid_times}
use Rattle.lxt_round_trip.proofs.BodyLaws.{Bodies}
use Rattle.lxt_round_trip.proofs.FrameLaws.{not_wide, times_start, time_count_lem}
use Rattle.lxt_round_trip.proofs.GeometryReadLaws.{roots_all}
use Rattle.lxt_round_trip.proofs.SyncReadLaws.{sync_read}
use Rattle.lxt_round_trip.proofs.TimesReadLaws.{NeverFall, end, next, above_first, below_last, sums_back, small_time, deltas_small}
use Rattle.lxt_round_trip.proofs.TimesReadLaws.{small_times, times_back, each_entry, no_entry, entry_offsets, entry_times, entry_told}

-- ---- the times of the changes

-- "changes in file order with times .. that never fall"
changes_rise : (facilities : List Facility) (time : ℕ) (cs : List Change) → changes_allowed facilities time cs ≡ true → NeverFall time (map (λ c. c.time) cs)
unfolding changes_allowed
changes_rise facilities time [] h = end
changes_rise facilities time (c ∷ cs) h =
    let rest = changes_allowed facilities c.time cs in
    let a = and_both (leb time c.time) (value_of_allowed facilities c.facility c.value && rest) h in
    let b = and_both (value_of_allowed facilities c.facility c.value) rest a.1 in
    next (leb-true time c.time a.0) (changes_rise facilities c.time cs b.1)

-- what the entries are of: where they are, and their times
abbrev offsets_for : Trace → List ℕ
offsets_for t = map (λ l. l.offset) (entries_of (laid t))

abbrev times_for : Trace → List ℕ
times_for t = map (λ l. l.time) (entries_of (laid t))

-- what holds of each time that was given holds of each entry's
entries_times : (t : Trace) {P : ℕ → Type 0} → Each P (map (λ c. c.time) t.changes) → Each P (times_for t)
entries_times t {P} h =
    each_image (λ l. l.time) (λ l p. p) (each_entry (each_source {P = P} (λ l. l.time) (laid t) (rw (laid_times t) h)))

module _ (t : Trace) (k : Kept t) (typed : Each ChangeTyped t.changes) where
  -- the times that were given never fall
  times_rise : NeverFall 0 (map (λ c. c.time) t.changes)
  times_rise = changes_rise t.facilities 0 t.changes k.changes

  -- each has 4 bytes
  times_small : Each (λ x. x < 4294967296) (map (λ c. c.time) t.changes)
  times_small = each_image (λ c. c.time) (λ c h. h.time) typed

  -- the times of the entries never fall
  for_rise : NeverFall 0 (times_for t)
  for_rise = entry_times 0 (laid t) (rw (laid_times t) times_rise)

  -- the first time has 4 bytes
  first_small : first_time_of t < 4294967296
  unfolding first_time_of
  first_small = get_d_below 4294967296 (omega arith) times_small 0

  -- and so has the last
  last_small : last_time_of t < 4294967296
  unfolding last_time_of
  last_small = get_d_below 4294967296 (omega arith) times_small (length t.changes - 1)

  -- none is before the first or after the last
  between : Each (λ x. (first_time_of t ≤ x) × (x ≤ last_time_of t)) (times_for t)
  unfolding first_time_of last_time_of
  between =
      let n = length-map t.changes (λ c. c.time) in
      entries_times t (each_both (above_first times_rise) (rw n at (below_last times_rise)))

-- ---- the table in the file

-- the three numbers that head it
abbrev head_for : Trace → List ℕ
head_for t = length (entries_of (laid t)) ∷ first_time_of t ∷ last_time_of t ∷ []

-- a number of 4 bytes
number_word : (s : List ℕ) (o : ℕ) {x : ℕ} → u32_at s o ≡ x → number_at 4 s o ≡ x
unfolding u32_at
number_word s o h = h

module _ (t : Trace) (s : List ℕ) (b : Bodies t s) (short : length s ≤ longest_file) where
  -- its columns stand one after the other
  columns : record {
    head : Stands s (section_of s 0x06) (words (head_for t));
    positions : Stands s (section_of s 0x06 + 12) (words (deltas_from 0 (offsets_for t)));
    times : Stands s (section_of s 0x06 + 12 + 4 * length (entries_of (laid t))) (words (deltas_from 0 (times_for t)));
  }
  unfolding times_body
  columns =
      let o : ℕ = section_of s 0x06 in
      let ps : List ℕ = words (deltas_from 0 (offsets_for t)) in
      let ts : List ℕ = words (deltas_from 0 (times_for t)) in
      let h : length (words (head_for t)) ≡ 12 = length_words (head_for t) in
      let n : length ps ≡ 4 * length (entries_of (laid t)) =
      length_words (deltas_from 0 (offsets_for t)) ∙ ap (λ m. 4 * m) (length_deltas 0 (offsets_for t) ∙ length-map (entries_of (laid t)) (λ l. l.offset)) in
      let after : Stands s (o + 12) (ps ++ ts) = rw h at (stands_back s o (words (head_for t)) (ps ++ ts) b.times) in
      record {
        head = stands_front s o (words (head_for t)) (ps ++ ts) b.times;
        positions = stands_front s (o + 12) ps ts after;
        times = rw n at (stands_back s (o + 12) ps ts after);
      }

  -- the positions follow the head
  positions_start : positions_at s ≡ section_of s 0x06 + 12
  unfolding positions_at
  positions_start = rw (not_wide t s b short, times_start t s b short) (omega arith)

  -- the offset of each entry is at least 4 and below T
  offsets_within : Each (λ p. (4 ≤ p) × (p < end_of s)) (offsets_for t)
  offsets_within = each_image (λ l. l.offset) (λ l h. omega (arith, b.end)) (each_entry (laid_within t))

  -- so each has 4 bytes
  offsets_small : Each (λ p. p < 4294967296) (offsets_for t)
  offsets_small = each_map (λ p h. omega (arith, b.end_inside)) offsets_within

  -- the positions are the offsets of the entries
  positions_read : positions_of s ≡ offsets_for t
  unfolding positions_of position_deltas
  positions_read =
      let n : length (deltas_from 0 (offsets_for t)) ≡ length (entries_of (laid t)) = length_deltas 0 (offsets_for t) ∙ length-map (entries_of (laid t)) (λ l. l.offset) in
      let read = stands_words (deltas_from 0 (offsets_for t)) s (section_of s 0x06 + 12) columns.positions (deltas_small 0 offsets_small) in
      rw (time_count_lem t s b short, positions_start, ← n, read) (sums_back (entry_offsets (laid_order t)))

  module _ (k : Kept t) (typed : Each ChangeTyped t.changes) where
    -- the times of the entries have 4 bytes
    for_small : Each (λ x. x < 4294967296) (times_for t)
    for_small = entries_times t (times_small t k typed)

    -- the time deltas are those that were written
    deltas_read : time_deltas s ≡ map pos (deltas_from 0 (times_for t))
    unfolding time_deltas time_delta_bytes
    deltas_read =
        let n : length (deltas_from 0 (times_for t)) ≡ length (entries_of (laid t)) = length_deltas 0 (times_for t) ∙ length-map (entries_of (laid t)) (λ l. l.time) in
        let small = deltas_small 0 for_small in
        let read = stands_words (deltas_from 0 (times_for t)) s (section_of s 0x06 + 12 + 4 * length (entries_of (laid t))) columns.times small in
        rw (not_wide t s b short, time_count_lem t s b short, positions_start) (ap (map time_of_bytes) (rw n at read) ∙ small_times small)

    -- the times are those of the entries
    times_read : times_of s ≡ map pos (times_for t)
    unfolding times_of
    times_read = rw deltas_read (times_back (for_rise t k typed))

    -- the first time is read
    first_read : first_time s ≡ pos (first_time_of t)
    unfolding first_time
    first_read =
        let l = first_small t k typed in
        let read : number_at 4 s (section_of s 0x06 + 4) ≡ first_time_of t = number_word s (section_of s 0x06 + 4) (stands_word (head_for t) s (section_of s 0x06) columns.head 1 (omega arith) l) in
        rw (not_wide t s b short, times_start t s b short, read) (small_time (first_time_of t) l)

    -- the last time is read
    last_read : last_time s ≡ pos (last_time_of t)
    unfolding last_time
    last_read =
        let l = last_small t k typed in
        let e : section_of s 0x06 + 4 + 4 ≡ section_of s 0x06 + 8 = omega arith in
        let read : number_at 4 s (section_of s 0x06 + 8) ≡ last_time_of t = number_word s (section_of s 0x06 + 8) (stands_word (head_for t) s (section_of s 0x06) columns.head 2 (omega arith) l) in
        rw (not_wide t s b short, times_start t s b short, e, read) (small_time (last_time_of t) l)

    -- the time of each change is that which was given
    pub times_told : Each (λ l. time_of s l.offset ≡ pos l.time) (laid t)
    unfolding time_of
    times_told = rw (positions_read, times_read) (entry_told (laid_order t))

    -- ---- 13

    -- where there is an entry
    table_allowed_lem : 0 < length (entries_of (laid t)) → table_allowed s ≡ true
    unfolding table_allowed
    table_allowed_lem some =
        let n = length-map (entries_of (laid t)) (λ l. l.offset) in
        let first : 4 ≤ get_or (offsets_for t) 0 0 = (each_at 0 offsets_within 0 (omega arith)).0 in
        let low : leb 4 (get_or (offsets_for t) 0 0) ≡ true = le-leb 4 (get_or (offsets_for t) 0 0) first in
        let below : all (λ p. ltb p (end_of s)) (offsets_for t) ≡ true = all_each (λ p. ltb p (end_of s)) (each_map (λ p h. lt-ltb p (end_of s) h.1) offsets_within) in
        let rising : all non_neg (drop 1 (map pos (deltas_from 0 (times_for t)))) ≡ true =
        all_each non_neg (each_drop 1 (each_image pos (λ x h. refl) (deltas_small 0 for_small))) in
        let ranged : all in_range (map pos (times_for t)) ≡ true = all_each in_range (each_image pos (λ x h. le-leb x 9223372036854775807 (omega arith)) for_small) in
        let in_between : all (λ z. le_z (pos (first_time_of t)) z && le_z z (pos (last_time_of t))) (map pos (times_for t)) ≡ true =
        all_each _ (each_image pos (λ x h. both_and _ _ (le-leb (first_time_of t) x h.0) (le-leb x (last_time_of t) h.1)) (between t k typed)) in
        rw (positions_read, times_read, deltas_read, first_read, last_read, low, below, rising, ranged) in_between

    -- where there is none no facility has a change
    none_newest : length (entries_of (laid t)) ≡ 0 → (f : ℕ) → last_of f (reverse (map pair_of (laid t))) ≡ 0
    unfolding last_of
    none_newest h f = rw (no_entry (laid t) h)

    -- so the table is allowed
    pub times_allowed_lem : times_allowed s ≡ true
    unfolding times_allowed
    times_allowed_lem =
        rw (time_count_lem t s b short)
        (on_test (eqb (length (entries_of (laid t))) 0)
        (λ e. let z = eqb-true (length (entries_of (laid t))) 0 e in
        rw (
          e,
          roots_all t s b short k,
          any_none (λ f. not (eqb (sync_of s f) 0)) 0 (length t.facilities) (λ f a l.
              rw (sync_read t s b short f (omega arith), none_newest z f)),
        ))
        (λ e. rw e (table_allowed_lem (omega (arith, eqb-false (length (entries_of (laid t))) 0 e)))))
