-- What a file keeps whose tables were read without a refusal, as facts that the crates above cite.
use Rattle.std.specs.Prelude.{if◌then◌else◌}
use Prim.Native.Nat.{ℕ, zero, suc, ◌+◌, ◌≤◌, ◌<◌}
use mathlib.Core.Path.{◌≡◌, refl, sym, ◌∙◌}
use mathlib.Core.Bool.{Bool, true, false, not}
use mathlib.Core.List.{List}
use lib.ListN.{length, replicate}
use lib.Dec.{eqb, lit≤}
use native.Mathlib.Omega.{arith}
use native.Mathlib.Decide.{ℕ_discrete}
use borrow.Author.Tests.{ne_eqb, not-true}
use Rattle.lxt_format.specs.Limits.{longest_file, most_facilities, widest_facility}
use Rattle.lxt_format.specs.Basics.{given, range, any, select}
use Rattle.lxt_format.specs.BasicsLaws.{on_test, all_range, neither, was_given}
use Rattle.lxt_format.specs.Sections.{section_of, end_of, changes_from, facility_count, wide_times, times_at, time_count, timescale_of, initial_of}
use Rattle.lxt_format.specs.Geometry.{is_alias, geometry_allowed, geometries_allowed, root_of, flags_of, kind_of_flags, facts_by, msb_of, lsb_of, own_facts, roots_of, sync_of}
use Rattle.lxt_format.proofs.GeometryLaws.{root_below, root_no_alias}
use Rattle.lxt_format.specs.Times.{times_allowed}
use Rattle.lxt_format.specs.Reals.{is_real, has_real, byte_order}
use Rattle.lxt_format.specs.Judge.{tables_refusal, file_refusal}
use Rattle.lxt_format.proofs.JudgeLaws.{Passed, passed, passed_located, passed_length, passed_count, accepted}
use Rattle.lxt_format.specs.declared.Kind.{Kind}
use Rattle.lxt_format.specs.declared.Kind.TheVariants.{Bits, Integer, Real, Text}
use Rattle.lxt_sections.specs.Stage.{sections_of}
use Rattle.lxt_sections.specs.declared.Sections.{Sections}
use Rattle.lxt_tables.specs.Stage.{Geometry, after_names, tables_with, tables_of, tables_read}
use Rattle.lxt_tables.specs.Asked.{Sync, Times, Placed}
use Rattle.lxt_tables.specs.declared.Tables.{Tables}
use Rattle.lxt_tables.proofs.FacilityLaws.{width_fits}
use Rattle.lxt_tables.proofs.WholeLaws.{placed, in_parts}

-- the tables of a file that refusals 1 to 14 pass
pub record Known (s : List ℕ) (t : Tables) : Type 0 where
  pub refusal : tables_refusal s ≡ 0
  pub passed : Passed s
  pub facilities : t.facilities ≡ facility_count s
  pub time_count_lem : t.time_count ≡ time_count s
  pub end : t.end ≡ end_of s
  pub changes : t.changes ≡ changes_from s
  pub sync : t.sync ≡ section_of s 0x02
  pub names : t.names ≡ section_of s 0x03
  pub names_end_lem : t.names_end ≡ after_names s
  pub geometry : t.geometry ≡ section_of s 0x04
  pub wide : t.wide_times ≡ wide_times s
  pub times : t.times ≡ times_at s
  pub timescale : t.timescale ≡ timescale_of s
  pub initial : t.initial ≡ initial_of s
  pub order : t.order ≡ (if has_real s then byte_order s else replicate 8 0)
  pub few : t.facilities ≤ most_facilities
  pub long : length s ≤ longest_file
  pub end_low : 4 ≤ t.end
  pub end_high : t.end + 2 ≤ length s
  pub changes_low : 4 ≤ t.changes
  pub changes_high : t.changes ≤ t.end
  pub names_high : t.names + 8 ≤ t.end
  pub geometry_at : Geometry s t.geometry t.facilities
  pub sync_at : Sync s t.sync t.facilities
  pub times_at_lem : Times s t.times t.time_count t.wide_times t.end

module _ (s : List ℕ) (t : Tables) (e : t ≡ tables_of s) where
  pub known : tables_refusal s ≡ 0 → Known s t
  unfolding tables_of tables_with
  known z =
      let p = passed s z in
      let l = passed_located s p in
      let long = passed_length s p in
      rw e record {
        refusal = z;
        passed = p;
        facilities = refl;
        time_count_lem = refl;
        end = refl;
        changes = refl;
        sync = refl;
        names = refl;
        names_end_lem = refl;
        geometry = refl;
        wide = refl;
        times = refl;
        timescale = refl;
        initial = refl;
        order = refl;
        few = passed_count s p;
        long = long.1;
        end_low = l.end_low;
        end_high = l.end_high;
        changes_low = l.changes_low;
        changes_high = l.changes_high;
        names_high = l.names_high;
        geometry_at = record { start = refl; count = refl; inside = omega (arith, l) };
        sync_at = record { start = refl; count = refl; inside = omega (arith, l) };
        times_at_lem = record { start = refl; count = refl; form = refl; limit = refl; low = l.end_low; high = omega (arith, l); inside = omega (arith, l) };
      }

  pub names_end_of : tables_refusal s ≡ 0 → t.names_end ≡ after_names s
  names_end_of z = (known z).names_end_lem

-- those that reading gave
pub known_given : (s : List ℕ) (t : Tables) → given t ≡ tables_read s → Known s t
known_given s t h = let w = was_given (tables_refusal s) (tables_of s) t h in known s t w.1 w.0

-- ---- the sections of a file whose tables pass

module _ (s : List ℕ) (p : Sections) (e : p ≡ sections_of s) where
  pub tables_placed : tables_refusal s ≡ 0 → Placed s p
  tables_placed z = placed s p (neither _ _ (sym (in_parts s) ∙ z)).0 e

-- ---- facilities

module _ (s : List ℕ) (p : Passed s) (f : ℕ) (h : f < facility_count s) where
  -- each entry keeps the rules of refusal 11
  pub entry_allowed : geometry_allowed s f ≡ true
  unfolding geometries_allowed
  entry_allowed = all_range (geometry_allowed s) 0 (facility_count s) p.geometries f (omega arith) (omega arith)

  -- each facility has a root
  pub root_in : root_of s f < facility_count s
  root_in = root_below s p.aliases f h

  pub root_plain : is_alias s (root_of s f) ≡ false
  root_plain = root_no_alias s f root_in

-- a root is no wider than a facility may be
module _ (s : List ℕ) (f : ℕ) (allowed : geometry_allowed s f ≡ true) (plain : is_alias s f ≡ false) where
  narrow : (k : Kind) → kind_of_flags (flags_of s f) ≡ k → (facts_by k (msb_of s f) (lsb_of s f)).width ≤ widest_facility
  unfolding facts_by
  narrow Bits e = width_fits s f (flags_of s f) refl Bits (sym e) refl (msb_of s f) refl (lsb_of s f) refl allowed plain
  narrow Integer e = lit≤ tt
  narrow Real e = lit≤ tt
  narrow Text e = lit≤ tt

  pub width_most : (own_facts s f).width ≤ widest_facility
  unfolding own_facts
  width_most = narrow (kind_of_flags (flags_of s f)) refl

-- ---- times

module _ (s : List ℕ) (p : Passed s) where
  -- without entries no root has a change
  pub no_changes : time_count s ≡ 0 → any (λ f. not (eqb (sync_of s f) 0)) (roots_of s) ≡ false
  unfolding times_allowed
  no_changes z = not-true (any (λ f. not (eqb (sync_of s f) 0)) (roots_of s)) (rw z at p.times)

-- the tables of an accepted file
pub tables_known : (s : List ℕ) (t : Tables) → t ≡ tables_of s → file_refusal s ≡ 0 → Known s t
tables_known s t e h = known s t e (accepted s h).tables

-- ---- the byte order of reals, where a root is real

-- a test that holds of one of those that are selected holds of some
any_root_lem : (q : ℕ → Bool) (p : ℕ → Bool) (i k f : ℕ) → i ≤ f → f < i + k → p f ≡ true → q f ≡ true → any q (select p (range i k)) ≡ true
unfolding any select range
any_root_lem q p i zero f a b h g = absurd (omega arith)
any_root_lem q p i (suc k) f a b h g =
    let more : suc i ≤ f → any q (select p (range (suc i) k)) ≡ true = λ l. any_root_lem q p (suc i) k f l (omega arith) h g in
    elim (ℕ_discrete f i) [
      | yes e ↦ (let hp : p i ≡ true = rw e at h in let hq : q i ≡ true = rw e at g in rw (hp, hq))
      | no n ↦ on_test (p i) (λ e. rw e (on_test (q i) (λ d. rw d) (λ d. rw d (more (omega arith))))) (λ e. rw e (more (omega arith)))
    ]

module _ (s : List ℕ) (r : ℕ) (below : r < facility_count s) (plain : is_alias s r ≡ false) (real-kind : (own_facts s r).kind ≡ Real) where
  -- the file has a real facility
  pub has_real_lem : has_real s ≡ true
  unfolding has_real roots_of is_real
  has_real_lem = any_root_lem (λ f. is_real (own_facts s f).kind) (λ f. not (is_alias s f)) 0 (facility_count s) r (omega arith) (omega arith) (rw plain) (rw real-kind)

  -- so the tables have the order that its real test gives
  pub real_order : (t : Tables) → Known s t → t.order ≡ byte_order s
  real_order t k = k.order ∙ rw has_real_lem
