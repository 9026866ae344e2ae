-- Laws of the whole input: when it is allowed, and the sizes of its file.
use Prim.Native.Nat.{ℕ, zero, suc, ◌+◌, ◌≤◌, ◌<◌}
use native.Mathlib.Omega.{arith}
use mathlib.Core.Path.{◌≡◌, refl, sym, ap, ◌∙◌}
use mathlib.Core.Bool.{Bool, true, false, ◌&&◌, true≢false, and-false}
use mathlib.Core.List.{List, [], ◌∷◌, ◌++◌, map}
use lib.ListN.{length, get_or, take, replicate, length-append, length-map, length-replicate}
use lib.Seq.{length-take-le}
use lib.IntN.{ℤ}
use lib.Dec.{leb}
use borrow.Author.Tests.{leb-true, le-leb, lt-leb}
use Rattle.lxt_format.specs.Limits.{longest_file, most_facilities}
use Rattle.lxt_format.specs.Basics.{all, joined}
use Rattle.lxt_format.specs.BasicsLaws.{on_test, and_both, both_and}
use Rattle.lxt_format.specs.Sections.{timescale_allowed}
use Rattle.lxt_format.specs.declared.Pair.{Pair}
use Rattle.lxt_written.specs.Input.{Change, Trace, facility_of, change_of, trace_of, facility_row_allowed, change_row_allowed, rows_allowed}
use Rattle.lxt_written.specs.WrittenChanges.{numbered, pair_of, lay_at, lay_from, laid, changes_bytes}
use Rattle.lxt_written.specs.WrittenFile.{header, names_of, entries_of, any_real, sections_of, list_bytes, places_of, file_of}
use Rattle.lxt_written.specs.Writing.{name_allowed, facts_for, facility_allowed, value_of_allowed, changes_allowed, trace_allowed, input_allowed}
use Rattle.lxt_layout.specs.declared.Sizes.{Sizes}
use Rattle.lxt_layout.specs.declared.Places.{Places}
use Rattle.lxt_layout.specs.Layout.{Bounded, PlacesFor, Measures}
use Rattle.lxt_layout.proofs.WholeLaws.{file_long}
use Rattle.lxt_facilities.specs.Rows.{facilities_allowed, FacilitiesFound}
use Rattle.lxt_facilities.specs.declared.names.Measured.{Measured as Facilities}
use Rattle.lxt_writer.specs.declared.changes.Measured.{Measured as Changes}
use Rattle.lxt_writer.specs.Changes.{nameless, Widths, lay_rows, end_from, sound_from, Fresh, ChangesFound}
use Rattle.lxt_writer.specs.Plan.{PlanFound}

-- ---- a table of zeros

-- its first n numbers are one with no change yet
pub zeros_fresh : (n size : ℕ) → n ≤ size → Fresh (take n (replicate {A = ℕ} size 0)) n
zeros_fresh n size h = record { long = long n size h; none = λ f. none n size f }
  where
    long : (n size : ℕ) → n ≤ size → length (take n (replicate {A = ℕ} size 0)) ≡ n
    long n size h = length-take-le n (replicate size 0) (rw (length-replicate {A = ℕ} size 0) h)

    none : (n size f : ℕ) → get_or (take n (replicate {A = ℕ} size 0)) f 0 ≡ 0
    none zero size f = refl
    none (suc n) zero f = refl
    none (suc n) (suc size) zero = refl
    none (suc n) (suc size) (suc f) = none n size f

-- ---- names do not matter for the changes

module _ (names : List ℕ) where
  -- a facility has the same kind and width with and without its name
  facility_same : (rows : List (List ℕ)) (f : ℕ)
      → ((numbered (map (facility_of names) rows) f).kind ≡ (numbered (nameless rows) f).kind)
      × (facts_for (numbered (map (facility_of names) rows) f) ≡ facts_for (numbered (nameless rows) f))
  unfolding facility_of facts_for
  facility_same [] f = (refl, refl)
  facility_same (row ∷ rows) zero = (refl, refl)
  facility_same (row ∷ rows) (suc f) = facility_same rows f

  module _ (rows : List (List ℕ)) where
    -- so its changes are laid, and its values allowed, as without
    laid_same : (o : ℕ) (before : List Pair) (c : Change) → lay_at (map (facility_of names) rows) o before c ≡ lay_at (nameless rows) o before c
    unfolding lay_at
    laid_same o before c = rw (facility_same rows c.facility).0

    lay_nameless : (o : ℕ) (before : List Pair) (cs : List Change) → lay_from (map (facility_of names) rows) o before cs ≡ lay_from (nameless rows) o before cs
    unfolding lay_from
    lay_nameless o before [] = refl
    lay_nameless o before (c ∷ cs) = rw (laid_same o before c) (ap (λ l. lay_at (nameless rows) o before c ∷ l) (lay_nameless (o + length (lay_at (nameless rows) o before c).bytes) (pair_of (lay_at (nameless rows) o before c) ∷ before) cs))

    value_same : (f : ℕ) (value : List ℕ) → value_of_allowed (map (facility_of names) rows) f value ≡ value_of_allowed (nameless rows) f value
    unfolding value_of_allowed
    value_same f value =
        let s = facility_same rows f in
        rw (length-map rows (facility_of names), length-map rows (facility_of []), s.0, s.1)

    allowed_nameless : (time : ℕ) (cs : List Change) → changes_allowed (map (facility_of names) rows) time cs ≡ changes_allowed (nameless rows) time cs
    unfolding changes_allowed
    allowed_nameless time [] = refl
    allowed_nameless time (c ∷ cs) = rw (value_same c.facility c.value, allowed_nameless c.time cs)

-- ---- facilities

-- two tests of all are one of both
both_all : {A : Type 0} {B : Type 0} (p : A → Bool) (q : B → Bool) (g : A → B) (xs : List A) → all (λ x. p x && q (g x)) xs ≡ (all p xs && all q (map g xs))
unfolding all
both_all p q g [] = refl
both_all p q g (x ∷ xs) = rw (both_all p q g xs) (apart (p x) (q (g x)) (all p xs) (all q (map g xs)))
  where
    apart : (a b c d : Bool) → ((a && b) && (c && d)) ≡ ((a && c) && (b && d))
    apart true true c d = refl
    apart true false true d = refl
    apart true false false d = refl
    apart false b c d = refl

-- no facility that is allowed is too wide
pub widths_of_lem : (names : List ℕ) (rows : List (List ℕ)) → facilities_allowed names rows ≡ true → Widths rows
unfolding facilities_allowed facility_allowed all facility_of facts_for
widths_of_lem names [] h f k = absurd (omega arith)
widths_of_lem names (row ∷ rows) h zero k =
    let r = (and_both (facility_row_allowed names row && facility_allowed (facility_of names row)) _ h).0 in
    let a = (and_both (facility_row_allowed names row) (facility_allowed (facility_of names row)) r).1 in
    leb-true _ _ (and_both (name_allowed (facility_of names row).name) _ a).1
widths_of_lem names (row ∷ rows) h (suc f) k =
    widths_of_lem names rows (and_both (facility_row_allowed names row && facility_allowed (facility_of names row)) _ h).1 f (omega arith)

-- ---- the whole input

module _ (facilities : List (List ℕ)) (names : List ℕ) (changes : List (List ℕ)) (values : List ℕ) (initial : ℕ) (timescale : ℤ) where
  abbrev trace : Trace
  trace = trace_of facilities names changes values initial timescale

  -- the first part of the checks, which is the first to be made
  abbrev values_allowed : Bool
  values_allowed = leb (length facilities) most_facilities && (timescale_allowed timescale && leb initial 8)

  -- it has the number of facilities
  count_of : values_allowed ≡ true → length facilities ≤ most_facilities
  count_of y = leb-true _ _ (and_both (leb (length facilities) most_facilities) (timescale_allowed timescale && leb initial 8) y).0

  -- the changes are allowed, their length aside
  abbrev changes_sound : Bool
  changes_sound = all (change_row_allowed values) changes && changes_allowed (nameless facilities) 0 (map (change_of values) changes)

  -- in the order of the checks
  input_parts : input_allowed facilities names changes values initial timescale
      ≡ (values_allowed && (facilities_allowed names facilities && (changes_sound && leb (length (file_of trace)) longest_file)))
  unfolding input_allowed rows_allowed trace_allowed facilities_allowed
  input_parts =
      rw (
        length-map facilities (facility_of names),
        allowed_nameless names facilities 0 (map (change_of values) changes),
        both_all (facility_row_allowed names) facility_allowed (facility_of names) facilities,
      )
      (order
      (all (facility_row_allowed names) facilities)
      (all (change_row_allowed values) changes)
      values_allowed
      (all facility_allowed (map (facility_of names) facilities))
      (changes_allowed (nameless facilities) 0 (map (change_of values) changes))
      (leb (length (file_of trace)) longest_file))
    where
      order : (fr cr v fa ca l : Bool) → ((fr && cr) && ((v && (fa && ca)) && l)) ≡ (v && ((fr && fa) && ((cr && ca) && l)))
      order true true true true ca l = refl
      order true true true false ca l = refl
      order true true false fa ca l = refl
      order true false true true ca l = refl
      order true false true false ca l = refl
      order true false false fa ca l = refl
      order false cr true fa ca l = refl
      order false cr false fa ca l = refl

  -- the changes of the trace, by their rows
  pub laid_rows : laid trace ≡ lay_rows facilities values 4 [] changes
  unfolding laid
  laid_rows = lay_nameless names facilities 4 [] (map (change_of values) changes)

  -- they end where the changes of the file do
  pub changes_end_lem : end_from facilities values 4 [] changes ≡ 4 + length (changes_bytes trace)
  unfolding changes_bytes
  changes_end_lem = ap (λ ls. 4 + length (joined (λ l. l.bytes) ls)) (sym laid_rows)

  -- the file is longer than its changes
  file_longer : 4 + length (changes_bytes trace) ≤ length (file_of trace)
  unfolding file_of
  file_longer =
      let rest : List ℕ = joined (λ x. x.body) (sections_of trace) ++ (0x00 ∷ (list_bytes (places_of trace) ++ (0xB4 ∷ []))) in
      let a = length-append header (changes_bytes trace ++ rest) in
      let b = length-append (changes_bytes trace) rest in
      omega arith

  -- changes that are allowed, in a file that is short enough, end within the longest file
  sound_of : changes_sound ≡ true → length (file_of trace) ≤ longest_file → sound_from facilities values 4 [] 0 changes ≡ true
  unfolding sound_from
  sound_of y short =
      let c = and_both (all (change_row_allowed values) changes) (changes_allowed (nameless facilities) 0 (map (change_of values) changes)) y in
      let e = changes_end_lem in
      let l = file_longer in
      both_and (all (change_row_allowed values) changes) _ c.0
      (both_and (changes_allowed (nameless facilities) 0 (map (change_of values) changes)) _ c.1
      (le-leb (end_from facilities values 4 [] changes) longest_file (omega arith)))

  -- and where they do, they are allowed
  sound_parts : sound_from facilities values 4 [] 0 changes ≡ true → changes_sound ≡ true
  unfolding sound_from
  sound_parts y =
      let c = and_both (all (change_row_allowed values) changes) _ y in
      let d = and_both (changes_allowed (nameless facilities) 0 (map (change_of values) changes)) _ c.1 in
      both_and (all (change_row_allowed values) changes) (changes_allowed (nameless facilities) 0 (map (change_of values) changes)) c.0 d.0

  -- ---- where something is not allowed

  -- each of the three parts that are found first refuses the whole
  pub values_refused : (b : Bool) → b ≡ values_allowed → b ≡ false → input_allowed facilities names changes values initial timescale ≡ false
  values_refused b e n = input_parts ∙ rw (sym e ∙ n)

  pub facilities_refused : facilities_allowed names facilities ≡ false → input_allowed facilities names changes values initial timescale ≡ false
  facilities_refused n = input_parts ∙ rw n (and-false values_allowed)

  pub changes_refused : sound_from facilities values 4 [] 0 changes ≡ false → input_allowed facilities names changes values initial timescale ≡ false
  changes_refused n =
      on_test (input_allowed facilities names changes values initial timescale)
      (λ y.
      let all_of = rw input_parts at y in
      let later = (and_both values_allowed (facilities_allowed names facilities && (changes_sound && leb (length (file_of trace)) longest_file)) all_of).1 in
      let last = (and_both (facilities_allowed names facilities) (changes_sound && leb (length (file_of trace)) longest_file) later).1 in
      let both = and_both changes_sound (leb (length (file_of trace)) longest_file) last in
      let s = sound_of both.0 (leb-true _ _ both.1) in
      absurd (true≢false (sym s ∙ n)))
      (λ y. y)

  -- ---- where all is allowed but for the length of the file

  module _ (b : Bool) (vb : b ≡ values_allowed) (vn : b ≡ true) where
    pub count_small : length facilities ≤ most_facilities
    count_small = count_of (sym vb ∙ vn)

    module _ (f : Facilities) (fm : FacilitiesFound names facilities f) where
      pub widths_small : Widths facilities
      widths_small = widths_of_lem names facilities fm.sound

      module _ (c : Changes) (cm : ChangesFound facilities changes values c) where
        -- the sizes that are found
        abbrev sizes : Sizes
        sizes = record { facilities = length facilities; names = f.size; changes = c.end; entries = c.entries; real = f.real }

        -- they are small enough for the code's numbers, and those of the trace's file
        pub sizes_bounded : Bounded sizes
        sizes_bounded =
            let n = count_small in
            record {
              facilities = n;
              names = omega (arith, fm.size_most);
              changes = cm.end_most;
              entries = cm.entries_most;
            }

        sizes_measure : Measures trace sizes
        unfolding names_of any_real
        sizes_measure =
            record {
              facilities = sym (length-map facilities (facility_of names));
              names = fm.size;
              changes = cm.end ∙ changes_end_lem;
              entries = cm.entries ∙ ap (λ ls. length (entries_of ls)) (sym laid_rows);
              real = fm.real;
            }

        -- the input is allowed where the file is short enough
        module _ (p : Places) (pf : PlacesFor sizes p) where
          pub length_refused : longest_file < p.length → input_allowed facilities names changes values initial timescale ≡ false
          length_refused h =
              let l = file_long trace sizes p sizes_measure pf in
              let no = lt-leb (length (file_of trace)) longest_file (omega arith) in
              input_parts ∙ rw (sym vb ∙ vn, fm.sound, sound_parts cm.sound, no)

          pub plan_found : p.length ≤ longest_file
              → PlanFound facilities names changes values initial timescale (record { sizes = sizes; memory = f.memory })
          unfolding names_of
          plan_found h =
              let l = file_long trace sizes p sizes_measure pf in
              let fits = le-leb (length (file_of trace)) longest_file (omega arith) in
              record {
                allowed = input_parts ∙ rw (sym vb ∙ vn, fm.sound, sound_parts cm.sound, fits);
                sizes = sizes_measure;
                bounded = sizes_bounded;
                memory = fm.memory;
                memory_most = omega (arith, fm.memory_most);
              }

  -- ---- an input that is allowed

  module _ (y : input_allowed facilities names changes values initial timescale ≡ true) where
    -- each part is
    input_all : (values_allowed && (facilities_allowed names facilities && (changes_sound && leb (length (file_of trace)) longest_file))) ≡ true
    input_all = sym input_parts ∙ y

    input_later : (facilities_allowed names facilities && (changes_sound && leb (length (file_of trace)) longest_file)) ≡ true
    input_later = (and_both values_allowed _ input_all).1

    pub allowed_count : length facilities ≤ most_facilities
    allowed_count = count_of (and_both values_allowed _ input_all).0

    pub allowed_facilities : facilities_allowed names facilities ≡ true
    allowed_facilities = (and_both (facilities_allowed names facilities) _ input_later).0

    pub allowed_sound : sound_from facilities values 4 [] 0 changes ≡ true
    allowed_sound =
        let both = and_both changes_sound (leb (length (file_of trace)) longest_file) (and_both (facilities_allowed names facilities) _ input_later).1 in
        sound_of both.0 (leb-true _ _ both.1)
