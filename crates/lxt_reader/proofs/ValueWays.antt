-- A law for each way out of the questions on values.
use Prim.Native.Nat.{ℕ, ◌≤◌, ◌<◌}
use mathlib.Core.Path.{◌≡◌, refl, sym, ◌∙◌}
use mathlib.Core.Bool.{Bool, false}
use mathlib.Core.List.{List}
use lib.IntN.{ℤ, pos}
use lib.Signed.{mag}
use mir.Syntax.{w64}
use mir.Val.{to_z, of_z}
use mir.ValLaws.{to_z-of_z}
use lib.ListN.{length}
use native.Mathlib.Omega.{arith}
use borrow.Author.Tests.{ne_eqb, le-leb, lt-leb, eqb-false}
use Rattle.lxt_format.specs.Basics.{given, refused, answer}
use Rattle.lxt_format.specs.BasicsLaws.{stops, was_refused}
use Rattle.lxt_format.specs.Geometry.{root_of, facts_of}
use Rattle.lxt_format.specs.Times.{time_of}
use Rattle.lxt_format.specs.BiasedTimes.{bias}
use Rattle.lxt_format.specs.Changes.{signal, chain_of, clean_at}
use Rattle.lxt_format.specs.Changes.{Sound}
use Rattle.lxt_format.specs.Values.{Content, content_by, content_of, latest_at, change_at, visited_in, visited_at, content_at}
use Rattle.lxt_format.specs.Answers.{refusal_number, Shown, shown, Timed, timed_says, LookedUp, lookup_says}
use Rattle.lxt_format.specs.Questions.{holding_bits, facility_refusal, change_refusal, reading_refusal, change_asked, change_buffer, value_refusal, value_asked, value_buffer}
use Rattle.lxt_format.specs.Judge.{signal_by, signal_of, fault_from}
use Rattle.lxt_format.proofs.VisitedLaws.{visited_most}
use Rattle.lxt_values.specs.Reals.{order_places}
use Rattle.lxt_values.specs.Times as Ti
use Rattle.lxt_values.specs.Times.{Readable, found_at}
use Rattle.lxt_values.proofs.TimeLaws.{found_is}
use Rattle.lxt_format.proofs.ValuesLaws.{latest_change_sound}
use Rattle.lxt_values.proofs.SoundChains.{chain_readable}
use Rattle.lxt_tables.proofs.TablesLaws.{Known, tables_known, entry_allowed, root_in, root_plain, width_most, has_real_lem, real_order}
use Rattle.lxt_changes.specs.Padding.{Inside}
use Rattle.lxt_changes.proofs.PaddingLaws.{sound_inside}
use Rattle.lxt_format.specs.Limits.{widest_facility}
use Rattle.std.specs.Prelude.{Err, Option, Some}
use Rattle.lxt_format.specs.declared.refusal.Refusal.{Refusal}
use Rattle.lxt_format.specs.declared.refusal.Refusal.TheVariants.{Room}
use Rattle.lxt_reader.specs.Changing.{chain_at}
use Rattle.lxt_reader.proofs.AskWays.{below_of, file_of}
use Rattle.lxt_reader.proofs.ChangeWays.{Chained, Looked}
use Rattle.lxt_reader.specs.declared.changes.Chain.{Chain}
use Rattle.lxt_values.specs.Value.{content_from, Readies, Shows}
use Rattle.lxt_values.proofs.StartLaws.{content_at_lem}

-- ---- a chain that was asked about

module _ (s : List ℕ) (f : ℕ) (c : Chain) (l : Chained s f c) where
  pub tables_are : Known s c.tables
  tables_are = tables_known s c.tables l.tables (file_of s f l.fine)

  pub times_there : Ti.Times s c.tables.times c.tables.time_count c.tables.wide_times
  times_there =
      let k = tables_are in
      record { start = k.times; count = k.time_count_lem; form = k.wide; inside = k.times_at_lem.inside; end = omega (arith, k.end_high); allowed = k.passed.times }

  pub chain_there : Readable s (chain_of s c.start)
  unfolding fault_from
  chain_there =
      let k = tables_are in
      chain_readable s _ c.start l.fault (omega (arith, k.end_high, k.end))

  pub readies : (o room : ℕ) → Sound s (signal_by s c.facts) o → c.facts.width ≤ room
      → Readies s c.tables.end c.tables.order c.facts.kind c.facts.width o room
  unfolding facts_of
  readies o room sound enough =
      let k = tables_are in
      let below = below_of s f l.fine in
      let r = root_in s k.passed f below in
      let p = root_plain s k.passed f below in
      record {
        sound = sound;
        limit = k.end;
        within = omega (arith, k.end_high);
        short = k.long;
        ordered = λ q. real_order s (root_of s f) r p (rw l.facts at q) c.tables k;
        places = λ q.
            let real = rw l.facts at q in
            rw (real_order s (root_of s f) r p real c.tables k) (order_places s (has_real_lem s (root_of s f) r p real) k.passed.real_test_lem);
        enough = enough;
      }

  pub content_is : (o : ℕ) → content_by s c.facts.kind c.facts.width o ≡ content_of s (root_of s f) o
  unfolding content_of facts_of
  content_is o = rw l.facts

  -- the padding of a sound change lies in the file
  pub padding_asks : (o : ℕ) → Sound s (signal_by s c.facts) o → (c.facts.width ≤ widest_facility) × Inside s c.facts.kind c.facts.width o
  unfolding facts_of
  padding_asks o sound =
      let k = tables_are in
      let r = root_in s k.passed f (below_of s f l.fine) in
      let p = root_plain s k.passed f (below_of s f l.fine) in
      (rw l.facts (width_most s (root_of s f) (entry_allowed s k.passed (root_of s f) r) p), sound_inside s _ _ c.facts.kind c.facts.width o (omega (arith, k.end_high, k.end)) sound)

  pub clean_is : (o : ℕ) → clean_at s (signal 0 0 c.facts.kind c.facts.width) o ≡ clean_at s (signal_of s (root_of s f)) o
  unfolding clean_at facts_of
  clean_is o = rw l.facts

-- ---- a change's time and value

module _ (s : List ℕ) (f o : ℕ) (buffer : List ℕ) where
  says : (refusal : ℕ) → reading_refusal s f o (length buffer) ≡ refusal → (refusal ≡ 0 → ⊥)
      → (record { time = pos 0; value = refused refusal; clean = false } ≡ change_asked s f o (length buffer)) × (buffer ≡ change_buffer s f o buffer)
  unfolding change_asked change_buffer
  says refusal e n = (sym (rw e (simp (ne_eqb refusal 0 n))), sym (rw e (simp (ne_eqb refusal 0 n))))

  pub change_refused : (e : Refusal) → refused (refusal_number e) ≡ answer (change_refusal s f o) (chain_at s f)
      → (timed_says (Err e) ≡ change_asked s f o (length buffer)) × (buffer ≡ change_buffer s f o buffer)
  unfolding reading_refusal
  change_refused e h =
      let w = was_refused (change_refusal s f o) (refusal_number e) (chain_at s f) h in
      says (refusal_number e) (stops (change_refusal s f o) _ w.1 ∙ sym w.0) (λ z. w.1 (sym w.0 ∙ z))

  module _ (c : Chain) (w : Looked s f o c) where
    pub change_short : length buffer < c.facts.width → (timed_says (Err Room) ≡ change_asked s f o (length buffer)) × (buffer ≡ change_buffer s f o buffer)
    unfolding reading_refusal
    change_short short =
        let g : length buffer < (facts_of s f).width = rw w.chain.facts at short in
        says 21 (rw (w.fine, lt-leb _ _ g)) (eqb-false 21 0 refl)

    pub change_given : c.facts.width ≤ length buffer → (time : ℤ) → mag time < bias → time ≡ time_of s o → (v : Shown) (after : List ℕ)
        → v ≡ shown (content_by s c.facts.kind c.facts.width o) → after ≡ holding_bits (content_by s c.facts.kind c.facts.width o) buffer
        → (z : Bool) → z ≡ clean_at s (signal 0 0 c.facts.kind c.facts.width) o
        → (◌≡◌ {A = Timed} (record { time = to_z w64 (of_z w64 time); value = given v; clean = z }) (change_asked s f o (length buffer))) × (after ≡ change_buffer s f o buffer)
    unfolding reading_refusal change_asked change_buffer
    change_given room time ft et v after ev ea z ez =
        let g : (facts_of s f).width ≤ length buffer = rw w.chain.facts at room in
        let i = content_is s f c w.chain o in
        let j = ez ∙ clean_is s f c w.chain o in
        (rw (to_z-of_z w64 time (record { sfits = ft }), w.fine, le-leb _ _ g, et, ev, i, j), ea ∙ rw (w.fine, le-leb _ _ g, i))

-- ---- the latest change at a time

module _ (s : List ℕ) (f : ℕ) (t : ℤ) (c : Chain) (w : Chained s f c) where
  module _ (o : Option ℕ) (visited : ℕ) (found : (o ≡ found_at (latest_at s t (chain_of s c.start))) × (visited ≡ visited_in s t (chain_of s c.start))) where
    pub change_is : o ≡ found_at (change_at s (root_of s f) t)
    unfolding change_at
    change_is = found.0 ∙ rw w.start

    pub visited_is : visited ≡ visited_at s (root_of s f) t
    unfolding visited_at
    visited_is = found.1 ∙ rw w.start

    -- at most (T - C) / 2 fits 32 bits
    pub visited_fits : visited < 4294967296
    visited_fits =
        let k = tables_are s f c w in
        omega (arith, visited_is, visited_most s f t w.fine, k.end_high, k.end, k.long)

    pub latest_fine : (p : ℕ) → o ≡ Some p → Sound s (signal_by s c.facts) p
    unfolding fault_from facts_of
    latest_fine p e =
        let there = found_is (sym found.0 ∙ e) in
        rw (there.0, w.facts) (latest_change_sound s _ c.start w.fault t there.1)

-- ---- the value at a time

module _ (s : List ℕ) (f : ℕ) (t : ℤ) (buffer : List ℕ) where
  tells : (refusal : ℕ) → value_refusal s f (length buffer) ≡ refusal → (refusal ≡ 0 → ⊥)
      → (record { value = refused refusal; visited = 0 } ≡ value_asked s f t (length buffer)) × (buffer ≡ value_buffer s f t buffer)
  unfolding value_asked value_buffer
  tells refusal e n = (sym (rw e (simp (ne_eqb refusal 0 n))), sym (rw e (simp (ne_eqb refusal 0 n))))

  pub value_refused : (e : Refusal) → refused (refusal_number e) ≡ answer (facility_refusal s f) (chain_at s f)
      → (lookup_says (Err e) ≡ value_asked s f t (length buffer)) × (buffer ≡ value_buffer s f t buffer)
  unfolding value_refusal
  value_refused e h =
      let w = was_refused (facility_refusal s f) (refusal_number e) (chain_at s f) h in
      tells (refusal_number e) (stops (facility_refusal s f) _ w.1 ∙ sym w.0) (λ z. w.1 (sym w.0 ∙ z))

  module _ (c : Chain) (w : Chained s f c) where
    pub value_short : length buffer < c.facts.width → (lookup_says (Err Room) ≡ value_asked s f t (length buffer)) × (buffer ≡ value_buffer s f t buffer)
    unfolding value_refusal
    value_short short =
        let g : length buffer < (facts_of s f).width = rw w.facts at short in
        tells 21 (rw (w.fine, lt-leb _ _ g)) (eqb-false 21 0 refl)

    module _ (room : c.facts.width ≤ length buffer) (o : Option ℕ) (visited : ℕ) (found : (o ≡ found_at (latest_at s t (chain_of s c.start))) × (visited ≡ visited_in s t (chain_of s c.start))) where
      at_change : o ≡ found_at (change_at s (root_of s f) t)
      at_change = change_is s f t c w o visited found

      value_is : (content : Content) → content ≡ content_at s (root_of s f) t → (v : Shown) (after : List ℕ)
          → v ≡ shown content → after ≡ holding_bits content buffer
          → (◌≡◌ {A = LookedUp} (record { value = given v; visited = visited }) (value_asked s f t (length buffer))) × (after ≡ value_buffer s f t buffer)
      unfolding value_refusal value_asked value_buffer
      value_is content ec v after ev ea =
          let g : (facts_of s f).width ≤ length buffer = rw w.facts at room in
          (rw (w.fine, le-leb _ _ g, ev, ec, visited_is s f t c w o visited found), ea ∙ rw (w.fine, le-leb _ _ g, ec))

      pub value_shows : Shows s c.tables.end c.tables.order c.facts.kind c.facts.width o (length buffer)
      value_shows =
          record {
            enough = room;
            ready = λ p e. readies s f c w p (length buffer) (latest_fine s f t c w o visited found p e) room;
          }

      pub value_given : (v : Shown) (after : List ℕ) → v ≡ shown (content_from s c.tables.initial c.facts.kind c.facts.width o)
          → after ≡ holding_bits (content_from s c.tables.initial c.facts.kind c.facts.width o) buffer
          → (◌≡◌ {A = LookedUp} (record { value = given v; visited = visited }) (value_asked s f t (length buffer))) × (after ≡ value_buffer s f t buffer)
      unfolding facts_of
      value_given v after ev ea =
          let k = tables_are s f c w in
          let is : content_from s c.tables.initial c.facts.kind c.facts.width o ≡ content_at s (root_of s f) t =
          rw (k.initial, w.facts) (content_at_lem s (root_of s f) t o at_change) in
          value_is (content_from s c.tables.initial c.facts.kind c.facts.width o) is v after ev ea
