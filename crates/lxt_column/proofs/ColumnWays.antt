-- A law for each way out of a column.
use Prim.Native.Nat.{ℕ, ◌≤◌, ◌<◌}
use mathlib.Core.Path.{◌≡◌, refl, sym, ◌∙◌, ap}
use mathlib.Core.Bool.{Bool, true, false, ◌&&◌}
use mathlib.Core.List.{List, map}
use lib.ListN.{length, replicate}
use lib.IntN.{ℤ}
use lib.Dec.{ltb, leb}
use borrow.Author.Tests.{le-leb, lt-leb, leb-true, eqb-false, ne_eqb}
use Rattle.lxt_format.specs.Limits.{longest_column}
use Rattle.lxt_format.specs.Basics.{◌unless◌, Answer, given, refused, all, first_fault}
use Rattle.lxt_format.specs.BasicsLaws.{stops, was_refused}
use Rattle.std.proofs.Common.{◌⊎◌, inl, inr}
use Rattle.lxt_format.specs.Columns.{onto}
use Rattle.lxt_format.specs.Sections.{facility_count}
use Rattle.lxt_format.specs.Judge.{file_refusal}
use Rattle.lxt_format.specs.Questions.{facility_refusal, widths_of, column_refusal, column_bits, column_records, column_visited, column_asked, column_buffer, column_output}
use Rattle.lxt_tables.specs.Stage.{Geometry, tables_of}
use Rattle.lxt_tables.specs.Asked.{Roots, Resolved}
use Rattle.lxt_tables.specs.declared.Tables.{Tables}
use Rattle.lxt_tables.proofs.TablesLaws.{tables_known}
use Rattle.lxt_tables.proofs.AliasLaws.{none_known}
use Rattle.lxt_chains.specs.Reading.{examined_of, examined}
use Rattle.lxt_chains.specs.declared.whole.Examined.{Examined}
use Rattle.lxt_chains.proofs.JudgedLaws.{accepted}
use Rattle.lxt_column.specs.Listing.{Listed}
use Rattle.lxt_column.proofs.ListLaws.{first_refusal}

module _ (s : List ℕ) (x : Examined) (h : given x ≡ examined s) where
  pub file_fine : file_refusal s ≡ 0
  file_fine = (accepted s x h).refusal

  pub tables_are : x.tables ≡ tables_of s
  tables_are = (accepted s x h).tables

-- ---- what the list and the roots ask

module _ (s asked : List ℕ) (fine : file_refusal s ≡ 0) (t : Tables) (e : t ≡ tables_of s) where
  pub list_known : (allowed : Bool) → allowed ≡ leb (length asked) longest_column → allowed ≡ true
      → (each : Bool) → each ≡ all (λ f. ltb f t.facilities) asked → each ≡ true → Listed s t asked
  list_known allowed ea l each ee h =
      let k = tables_known s t e fine in
      record {
        accepted = fine;
        tables = e;
        short = leb-true (length asked) longest_column (sym ea ∙ l);
        below = rw k.facilities at (sym ee ∙ h);
      }

module _ (s : List ℕ) (t : Tables) (fine : file_refusal s ≡ 0) (e : t ≡ tables_of s) where
  pub roots_ask : Geometry s t.geometry t.facilities × Roots s t.facilities 0 (replicate 4096 0xFFFF_FFFF)
  roots_ask =
      let k = tables_known s t e fine in
      (k.geometry_at, none_known s t.facilities k.few)

  -- every facility of an accepted file has a root
  pub roots_known : (allowed : Bool) (roots : List ℕ) → Resolved s t.facilities allowed roots → Resolved s t.facilities true roots
  roots_known allowed roots w =
      let k = tables_known s t e fine in
      let yes : allowed ≡ true = w.answer ∙ k.passed.aliases in
      rw yes at w

-- ---- what a refusal answers and leaves

-- the answer, the bits and the records
abbrev Says : List ℕ → ℤ → List ℕ → ℕ → List ℕ → List (List ℕ) → Answer ℕ → List ℕ → List (List ℕ) → Type 0
Says s time asked lent bits records a bits' records' =
    (a ≡ column_asked s time asked (length bits) (length records))
    × ((bits' ≡ column_buffer s time asked bits (length records)) × (records' ≡ column_output s time asked lent (length bits) records))

module _ (s : List ℕ) (time : ℤ) (asked : List ℕ) (lent : ℕ) (bits : List ℕ) (records : List (List ℕ)) where
  by_refusal : (k : ℕ) → column_refusal s asked (length bits) (length records) ≡ k → (k ≡ 0 → ⊥) → Says s time asked lent bits records (refused k) bits records
  unfolding column_asked column_buffer column_output
  by_refusal k e n = (sym (rw e (simp (ne_eqb k 0 n))), (sym (rw e (simp (ne_eqb k 0 n))), sym (rw e (simp (ne_eqb k 0 n)))))

  pub file_refused : (r : ℕ) → refused r ≡ examined s → Says s time asked lent bits records (refused r) bits records
  unfolding column_refusal
  file_refused r h =
      let w = was_refused (file_refusal s) r (examined_of s) h in
      rw w.0 (by_refusal (file_refusal s) (stops (file_refusal s) _ w.1) w.1)

  module _ (fine : file_refusal s ≡ 0) where
    -- whether the list is short enough
    module _ (allowed : Bool) (ea : allowed ≡ leb (length asked) longest_column) where
      pub too_long : allowed ≡ false → Says s time asked lent bits records (refused 35) bits records
      unfolding column_refusal
      too_long h =
          let long : leb (length asked) longest_column ≡ false = sym ea ∙ h in
          by_refusal 35 (rw (fine, long)) (eqb-false 35 0 refl)

      -- whether all numbers are those of facilities
      pub wrong_number : allowed ≡ true → (t : Tables) → t ≡ tables_of s → (each : Bool) → each ≡ all (λ f. ltb f t.facilities) asked → each ≡ false
          → Says s time asked lent bits records (refused 18) bits records
      unfolding column_refusal
      wrong_number l t e each ee h =
          let k = tables_known s t e fine in
          let none : all (λ f. ltb f (facility_count s)) asked ≡ false = rw k.facilities at (sym ee ∙ h) in
          let first : first_fault (map (facility_refusal s) asked) ≡ 18 = rw none at (first_refusal s fine asked) in
          let short : leb (length asked) longest_column ≡ true = sym ea ∙ l in
          by_refusal 18 (rw (fine, short, first)) (eqb-false 18 0 refl)

  -- once the list is known
  module _ (t : Tables) (w : Listed s t asked) where
    refusal_is : column_refusal s asked (length bits) (length records) ≡ (21 unless (leb (widths_of s asked) (length bits) && leb (length asked) (length records)))
    unfolding column_refusal
    refusal_is =
        let first : first_fault (map (facility_refusal s) asked) ≡ 0 = rw w.below at (first_refusal s w.accepted asked) in
        rw (w.accepted, le-leb (length asked) longest_column w.short, first)

    module _ (needed : ℕ) (en : needed ≡ widths_of s asked) where
      pub no_room : (length bits < needed) ⊎ ((needed ≤ length bits) × (length records < length asked)) → Says s time asked lent bits records (refused 21) bits records
      no_room h =
          by_refusal 21
          (elim h [
            | inl few ↦ let l : length bits < widths_of s asked = rw en at few in refusal_is ∙ rw (lt-leb (widths_of s asked) (length bits) l)
            | inr few ↦ refusal_is ∙ rw (lt-leb (length asked) (length records) few.1) (none (leb (widths_of s asked) (length bits)))
          ])
          (eqb-false 21 0 refl)
        where
          none : (b : Bool) → (21 unless (b && false)) ≡ 21
          none true = refl
          none false = refl

      module _ (wide : needed ≤ length bits) (long : length asked ≤ length records) where
        pub room_there : (widths_of s asked ≤ length bits) × (length asked ≤ length records)
        room_there = (rw en at wide, long)

        pub all_put : (visited : ℕ) (bits' : List ℕ) (records' : List (List ℕ))
            → (visited ≡ column_visited s time asked) × ((bits' ≡ onto (column_bits s time asked) bits) × (records' ≡ onto (column_records s time lent 0 asked) records))
            → Says s time asked lent bits records (given visited) bits' records'
        unfolding column_asked column_buffer column_output
        all_put visited bits' records' put =
            let room = room_there in
            let fine : column_refusal s asked (length bits) (length records) ≡ 0 =
            refusal_is ∙ rw (le-leb (widths_of s asked) (length bits) room.0, le-leb (length asked) (length records) room.1) in
            (rw fine (ap given put.0), (rw fine put.1.0, rw fine put.1.1))
