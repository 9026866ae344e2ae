-- The places of a file that refusals 1 to 9 pass, and a law for each way out of the functions that join the checks.
use Prim.Native.Nat.{ℕ, ◌+◌, ◌≤◌, ◌<◌}
use mathlib.Core.Path.{◌≡◌, refl, sym, ◌∙◌, ap}
use mathlib.Core.Bool.{Bool, true, false, not, and-false}
use mathlib.Core.List.{List, map}
use lib.ListN.{length, get_or, take, drop, replicate}
use lib.IntN.{ℤ}
use lib.Dec.{ltb, leb, eqb, lit<, lit≤}
use native.Mathlib.Omega.{arith}
use native.Mathlib.Decide.{ℕ_discrete}
use native.Mathlib.Nat.{add_assoc}
use mir.Syntax.{w8}
use mir.Val.{SFits, to_z, of_z}
use mir.ValLaws.{to_z-of_z}
use borrow.Author.Tests.{ne_eqb, leb-true, eqb-false}
use Rattle.lxt_format.specs.Limits.{shortest_file, longest_file, most_facilities}
use Rattle.std.specs.Prelude.{if◌then◌else◌, Some, None, Result, Err}
use Rattle.std.proofs.lemmas.Option.{none-some, same_Some}
use Rattle.lxt_format.specs.Basics.{◌unless◌, ◌or_else◌, Answer, given, refused, answer, range, all, any}
use Rattle.lxt_format.specs.BasicsLaws.{on_test, and_both, neither, kept, was_given, was_refused, passed_on, refuses}
use Rattle.lxt_format.specs.Answers.{refusal_number, says}
use Rattle.lxt_format.specs.declared.refusal.Refusal.{Refusal}
use Rattle.lxt_format.specs.Bytes.{u32_at}
use Rattle.lxt_format.specs.Sections.{length_allowed, starts_right, ends_right, listing_of, nothing_compressed, times_once, present, sections_present, body_size, bodies_inside, inside, count_allowed, section_of, end_of, facility_count, time_count, timescale_of, initial_of}
use Rattle.lxt_format.specs.SectionsLaws.{Located, located as all_located, body_inside_lem}
use Rattle.lxt_format.specs.Names.{name_table, names_allowed}
use Rattle.lxt_format.specs.Geometry.{roots_of, sync_of, geometries_allowed, aliases_allowed}
use Rattle.lxt_format.specs.Times.{table_allowed, times_allowed}
use Rattle.lxt_format.specs.Reals.{test_pattern, place_of, test_bytes, is_reordering, byte_order, has_real, real_test_allowed}
use Rattle.lxt_format.specs.Judge.{tables_refusal_by, tables_refusal}
use Rattle.lxt_format.specs.Stray.{whole_size}
use Rattle.lxt_sections.specs.Stage.{frame_refusal, counted_refusal, sections_refusal, sections_of, located}
use Rattle.lxt_sections.specs.declared.Sections.{Sections}
use Rattle.lxt_tables.specs.Stage.{after_names, tables_with, tables_of, tables_read}
use Rattle.lxt_tables.specs.Asked.{OneByte, Placed}
use Rattle.lxt_tables.specs.Steps.{end_of_names, name_table_end, middle_refusal}
use Rattle.lxt_tables.specs.declared.Tables.{Tables}

-- ---- what refusals 1 to 9 give

-- the rules that the places of the tables rest on
record Bounds (s : List ℕ) : Type 0 where
  places : Located s
  bodies : bodies_inside s ≡ true
  few : facility_count s ≤ most_facilities
  long : length s ≤ longest_file
  once : times_once s ≡ true

bounds : (s : List ℕ) → sections_refusal s ≡ 0 → Bounds s
unfolding sections_refusal frame_refusal counted_refusal length_allowed count_allowed
bounds s h =
    let frame = neither (frame_refusal s) _ h in
    let c4 = neither (4 unless (listing_of s).listed) _ frame.1 in
    let c5 = neither (5 unless nothing_compressed s) _ c4.1 in
    let c6 = neither (6 unless times_once s) _ c5.1 in
    let c7 = neither (7 unless sections_present s) _ c6.1 in
    let c8 = neither (8 unless bodies_inside s) _ c7.1 in
    let size = kept 1 (length_allowed s) (lit< tt) (neither (1 unless length_allowed s) (2 unless starts_right s or_else 3 unless ends_right s) frame.0).0 in
    let six = leb-true _ _ (and_both _ _ size).0 in
    let b = kept 8 (bodies_inside s) (lit< tt) c8.0 in
    record {
      places = all_located s six (kept 4 _ (lit< tt) c4.0) (kept 7 _ (lit< tt) c7.0) b;
      bodies = b;
      few = leb-true _ _ (kept 9 (count_allowed (facility_count s)) (lit< tt) c8.1);
      long = leb-true _ _ (and_both (leb shortest_file (length s)) (leb (length s) longest_file) size).1;
      once = kept 6 (times_once s) (lit< tt) c6.0;
    }

-- one of the two tables of times is absent
pub times_once_lem : (s : List ℕ) → sections_refusal s ≡ 0 → times_once s ≡ true
times_once_lem s h = (bounds s h).once

-- the body of a section of one byte lies before END
one_byte : (s : List ℕ) (tag at : ℕ) → Bounds s → 0x02 ≤ tag → tag < 0x08 → body_size s tag ≡ 1 → at ≡ section_of s tag → OneByte s tag at
unfolding present
one_byte s tag at b low high size e =
    record {
      start = e;
      inside = λ n. (let there : eqb (section_of s tag) 0 ≡ false = ne_eqb _ 0 (λ z. n (e ∙ z)) in
          let i = body_inside_lem s tag b.bodies low high (rw there) in
          omega (arith, b.places.end_high));
    }

module _ (s : List ℕ) (p : Sections) (z : sections_refusal s ≡ 0) (e : p ≡ sections_of s) where
  pub placed : Placed s p
  unfolding sections_of body_size
  placed =
      let b = bounds s z in
      let l = b.places in
      rw e record {
        passed = z;
        places = refl;
        few = b.few;
        end_fits = omega (arith, l, b.long);
        geometry = record { start = refl; count = refl; inside = omega (arith, l) };
        sync = record { start = refl; count = refl; inside = omega (arith, l) };
        times = record { start = refl; count = refl; form = refl; limit = refl; low = l.end_low; high = omega (arith, l); inside = omega (arith, l) };
        names = l.names_high;
        timescale = one_byte s 0x05 (section_of s 0x05) b (lit≤ tt) (lit< tt) refl refl;
        initial = one_byte s 0x07 (section_of s 0x07) b (lit≤ tt) (lit< tt) refl refl;
      }

-- where locating gave them
pub located_passed : (s : List ℕ) (p : Sections) → given p ≡ located s → sections_refusal s ≡ 0
located_passed s p h = (was_given (sections_refusal s) (sections_of s) p h).0

pub placed_given : (s : List ℕ) (p : Sections) → given p ≡ located s → Placed s p
placed_given s p h = let w = was_given (sections_refusal s) (sections_of s) p h in placed s p w.0 w.1

-- ---- refusals 10 and 13

module _ (s : List ℕ) (p : Sections) (w : Placed s p) where
  pub names_are : (m : ℕ) → m ≡ u32_at s (p.names + 4) → end_of_names s (p.names + 8) p.end p.facilities m ≡ name_table_end s
  unfolding end_of_names name_table_end names_allowed name_table sections_of whole_size
  names_are m em = rw (em, w.places) (rw add_assoc)

  pub no_times : p.time_count ≡ 0 → (b : Bool) → b ≡ any (λ f. not (eqb (sync_of s f) 0)) (roots_of s) → not b ≡ times_allowed s
  unfolding times_allowed
  no_times z b eb = let m : time_count s ≡ 0 = sym w.times.count ∙ z in rw (m, eb)

  pub some_times : (p.time_count ≡ 0 → ⊥) → (b : Bool) → b ≡ table_allowed s → b ≡ times_allowed s
  unfolding times_allowed
  some_times n b eb = eb ∙ (let m : time_count s ≡ 0 → ⊥ = λ z. n (w.times.count ∙ z) in simp (ne_eqb (time_count s) 0 m))

-- ---- refusals 11 to 13

module _ (s : List ℕ) (a : Bool) (ea : a ≡ geometries_allowed s) where
  pub eleven : a ≡ false → refused 11 ≡ answer (middle_refusal s) (tt {0})
  unfolding middle_refusal
  eleven h = rw (← ea, h)

  module _ (ha : a ≡ true) (b : Bool) (eb : b ≡ aliases_allowed s) where
    pub twelve : b ≡ false → refused 12 ≡ answer (middle_refusal s) (tt {0})
    unfolding middle_refusal
    twelve h = rw (← ea, ha, ← eb, h)

    module _ (hb : b ≡ true) (d : Bool) (ed : d ≡ times_allowed s) where
      pub thirteen : d ≡ false → refused 13 ≡ answer (middle_refusal s) (tt {0})
      unfolding middle_refusal
      thirteen h = rw (← ea, ha, ← eb, hb, ← ed, h)

      pub none_refused : d ≡ true → given (tt {0}) ≡ answer (middle_refusal s) (tt {0})
      unfolding middle_refusal
      none_refused h = rw (← ea, ha, ← eb, hb, ← ed, h)

pub middle_passed : (s : List ℕ) {u : Unit {0}} → given u ≡ answer (middle_refusal s) (tt {0}) → middle_refusal s ≡ 0
middle_passed s {u} h = (was_given (middle_refusal s) (tt {0}) u h).0

-- ---- what passes

module _ (s : List ℕ) (p : Sections) (w : Placed s p) where
  -- the timescale is read back from its bits
  pub passed_is : (k : ℕ) → k ≡ after_names s → (t : ℤ) → SFits w8 t → t ≡ timescale_of s → (i : ℕ) → i ≡ initial_of s → (order : List ℕ)
      → record {
        wide_times = p.wide_times;
        facilities = p.facilities;
        time_count = p.time_count;
        end = p.end;
        changes = p.changes;
        sync = p.sync;
        names = p.names;
        names_end = k;
        geometry = p.geometry;
        times = p.times;
        timescale = to_z w8 (of_z w8 t);
        initial = i;
        order = order;
      } ≡ tables_with s order
  unfolding tables_with sections_of
  passed_is k ek t ft et i ei order = rw (ek, to_z-of_z w8 t ft, et, ei, w.places)

  -- ---- refusal 14

  abbrev orders : Answer (List ℕ)
  orders = answer (14 unless real_test_allowed s) (if has_real s then byte_order s else replicate 8 0)

  module _ (a : Bool) (ea : a ≡ has_real s) where
    pub no_real : a ≡ false → given (replicate 8 0) ≡ orders
    unfolding real_test_allowed
    no_real h = rw (← ea, h)

    module _ (ha : a ≡ true) (b : Bool) (eb : b ≡ inside p.end p.real_test 8) where
      inside_is : b ≡ inside (end_of s) (section_of s 0x08) 8
      unfolding sections_of
      inside_is = eb ∙ rw w.places

      pub test_outside : b ≡ false → refused 14 ≡ orders
      unfolding real_test_allowed
      test_outside h = rw (← ea, ha) (simp (sym inside_is ∙ h, and-false))

      module _ (hb : b ≡ true) where
        pub test_readable : p.real_test + 8 ≤ length s
        test_readable =
            let i = and_both (leb 4 p.real_test) (leb (p.real_test + 8) p.end) (sym eb ∙ hb) in
            omega (arith, leb-true (p.real_test + 8) p.end i.1, w.times.high)

        test_there : present s 0x08 ≡ true
        unfolding present
        test_there =
            let i = and_both (leb 4 (section_of s 0x08)) (leb (section_of s 0x08 + 8) (end_of s)) (sym inside_is ∙ hb) in
            let l : 4 ≤ section_of s 0x08 = leb-true 4 (section_of s 0x08) i.0 in
            let n : section_of s 0x08 ≡ 0 → ⊥ = omega arith in
            simp (ne_eqb (section_of s 0x08) 0 n)

        module _ (order : List ℕ) (eo : order ≡ map (λ x. place_of x (take 8 (drop p.real_test s))) test_pattern) (d : Bool)
            (ed : d ≡ all (λ i. ltb (get_or order i 0) 8) (range 0 8)) where
          order_is : order ≡ byte_order s
          unfolding byte_order test_bytes sections_of
          order_is = eo ∙ rw w.places

          reordering_is : d ≡ is_reordering (test_bytes s)
          unfolding is_reordering byte_order all range
          reordering_is = ed ∙ rw order_is

          pub test_wrong : d ≡ false → refused 14 ≡ orders
          unfolding real_test_allowed
          test_wrong h = rw (← ea, ha, test_there, ← inside_is, hb, ← reordering_is, h)

          pub test_right : d ≡ true → given order ≡ orders
          unfolding real_test_allowed
          test_right h = rw (← ea, ha, test_there, ← inside_is, hb, ← reordering_is, h, order_is)

-- ---- refusals 1 to 14

right_2 : (a b r : ℕ) → ((a or_else b) or_else r) ≡ (a or_else b or_else r)
right_2 a b r = elim (ℕ_discrete a 0) [ yes z ↦ rw z | no n ↦ simp (ne_eqb a 0 n) ]

right_3 : (a b c r : ℕ) → ((a or_else b or_else c) or_else r) ≡ (a or_else b or_else c or_else r)
right_3 a b c r = elim (ℕ_discrete a 0) [ yes z ↦ rw z (right_2 b c r) | no n ↦ simp (ne_eqb a 0 n) ]

right_4 : (a b c d r : ℕ) → ((a or_else b or_else c or_else d) or_else r) ≡ (a or_else b or_else c or_else d or_else r)
right_4 a b c d r = elim (ℕ_discrete a 0) [ yes z ↦ rw z (right_3 b c d r) | no n ↦ simp (ne_eqb a 0 n) ]

right_5 : (a b c d e r : ℕ) → ((a or_else b or_else c or_else d or_else e) or_else r) ≡ (a or_else b or_else c or_else d or_else e or_else r)
right_5 a b c d e r = elim (ℕ_discrete a 0) [ yes z ↦ rw z (right_4 b c d e r) | no n ↦ simp (ne_eqb a 0 n) ]

-- the refusals in four parts
regroup : (a b c d e f g h i j k l m n : ℕ)
    → (((a or_else b or_else c) or_else d or_else e or_else f or_else g or_else (h or_else i)) or_else j or_else (k or_else l or_else m) or_else n)
    ≡ (a or_else b or_else c or_else d or_else e or_else f or_else g or_else h or_else i or_else j or_else k or_else l or_else m or_else n)
regroup a b c d e f g h i j k l m n =
    let rest : ℕ = j or_else (k or_else l or_else m) or_else n in
    right_2 (a or_else b or_else c) (d or_else e or_else f or_else g or_else (h or_else i)) rest
    ∙ right_3 a b c ((d or_else e or_else f or_else g or_else (h or_else i)) or_else rest)
    ∙ ap (λ (x : ℕ). a or_else b or_else c or_else x)
    (right_5 d e f g (h or_else i) rest
    ∙ ap (λ (x : ℕ). d or_else e or_else f or_else g or_else x)
    (right_2 h i rest ∙ ap (λ (x : ℕ). h or_else i or_else j or_else x) (right_3 k l m n)))

pub in_parts : (s : List ℕ)
    → tables_refusal s ≡ (sections_refusal s or_else 10 unless names_allowed s or_else middle_refusal s or_else 14 unless real_test_allowed s)
unfolding tables_refusal tables_refusal_by sections_refusal frame_refusal counted_refusal middle_refusal
in_parts s =
    sym (regroup (1 unless length_allowed s) (2 unless starts_right s) (3 unless ends_right s) (4 unless (listing_of s).listed) (5 unless nothing_compressed s)
    (6 unless times_once s) (7 unless sections_present s) (8 unless bodies_inside s) (9 unless count_allowed (facility_count s))
    (10 unless names_allowed s) (11 unless geometries_allowed s) (12 unless aliases_allowed s) (13 unless times_allowed s) (14 unless real_test_allowed s))

-- where the end of the names was found they are allowed, and it is the offset after them
pub not_named : (s : List ℕ) → None ≡ name_table_end s → names_allowed s ≡ false
unfolding name_table_end
not_named s h = on_test (names_allowed s) (λ e. absurd (none-some _ (rw e at h))) (λ e. e)

pub all_named : (s : List ℕ) (k : ℕ) → Some k ≡ name_table_end s → (names_allowed s ≡ true) × (k ≡ after_names s)
unfolding name_table_end
all_named s k h = on_test (names_allowed s) (λ e. (e, same_Some k (after_names s) (rw e at h))) (λ e. absurd (none-some k (sym (rw e at h))))

-- a refusal of 1 to 9 is that of the file
pub located_bad : (s : List ℕ) (n : ℕ) → refused n ≡ located s → refused n ≡ tables_read s
located_bad s n h = rw (in_parts s) (passed_on (sections_refusal s) _ n (sections_of s) (tables_of s) h)

-- so is one that is given in place of the sections
pub given_bad : (s : List ℕ) (r : Result Sections Refusal) (e : Refusal) → r ≡ Err e → says r ≡ located s → refused (refusal_number e) ≡ tables_read s
given_bad s r e h g = located_bad s (refusal_number e) (ap says (sym h) ∙ g)

module _ (s : List ℕ) (z : sections_refusal s ≡ 0) where
  pub names_bad : names_allowed s ≡ false → refused 10 ≡ tables_read s
  names_bad n = rw (in_parts s, z, n)

  module _ (a : names_allowed s ≡ true) where
    from_names : tables_refusal s ≡ (middle_refusal s or_else 14 unless real_test_allowed s)
    from_names = in_parts s ∙ rw (z, a)

    -- the refusal of 11 to 13 is that of the file
    pub middle_bad : (n : ℕ) → refused n ≡ answer (middle_refusal s) (tt {0}) → refused n ≡ tables_read s
    middle_bad n h = rw from_names (passed_on (middle_refusal s) _ n (tt {0}) (tables_of s) h)

    module _ (m : middle_refusal s ≡ 0) where
      pub last_bad : (n : ℕ) → refused n ≡ answer (14 unless real_test_allowed s) (if has_real s then byte_order s else replicate 8 0) → refused n ≡ tables_read s
      last_bad n h = let w = was_refused (14 unless real_test_allowed s) n _ h in rw (from_names, m) (refuses _ n (tables_of s) (sym w.0) (λ y. w.1 (sym w.0 ∙ y)))

      pub all_right : (order : List ℕ) → given order ≡ answer (14 unless real_test_allowed s) (if has_real s then byte_order s else replicate 8 0)
          → given (tables_with s order) ≡ tables_read s
      unfolding tables_of
      all_right order h = let w = was_given (14 unless real_test_allowed s) _ order h in rw (from_names, m, w.0, w.1)
