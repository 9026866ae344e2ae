-- What "accepted" means, as facts that the layers above cite.
use Rattle.std.specs.Prelude.{ℕ, zero, suc, ◌+◌, ◌≤◌, ◌<◌, ◌≡◌, Bool, true, false, not, List, map, length}
use Rattle.std.proofs.Common.{sym, ◌∙◌, lit<, arith, leb-true}
use Rattle.std.proofs.lemmas.Bool.{false≢true}
use Rattle.std.proofs.Math.Decide.{ℕ_discrete}
use Rattle.lxt_format.specs.Limits.{shortest_file, longest_file, most_facilities}
use Rattle.lxt_format.specs.Basics.{range, select, first_fault}
use Rattle.lxt_format.specs.BasicsLaws.{on_test, and_both, kept, neither}
use Rattle.lxt_format.specs.Sections.{length_allowed, starts_right, ends_right, listing_of, nothing_compressed, times_once, sections_present, bodies_inside, count_allowed, facility_count}
use Rattle.lxt_format.specs.SectionsLaws.{Located, located}
use Rattle.lxt_format.specs.Names.{names_allowed}
use Rattle.lxt_format.specs.Geometry.{is_alias, geometries_allowed, aliases_allowed, roots_of, sync_of}
use Rattle.lxt_format.specs.Times.{times_allowed}
use Rattle.lxt_format.specs.Reals.{real_test_allowed}
use Rattle.lxt_format.specs.Changes.{previous_of, chain_fault, Sound}
use Rattle.lxt_format.proofs.ChangesLaws.{sound, chain_more}
use Rattle.lxt_format.specs.Judge.{tables_refusal_by, tables_refusal, signal_of, fault_from, chains_refusal, changes_apart, file_refusal}

-- what a file keeps that refusals 1 to 14 pass
pub record Passed (s : List ℕ) : Type 0 where
  pub length' : length_allowed s ≡ true
  pub starts : starts_right s ≡ true
  pub ends : ends_right s ≡ true
  pub listed : (listing_of s).listed ≡ true
  pub plain : nothing_compressed s ≡ true
  pub times_once_lem : times_once s ≡ true
  pub there : sections_present s ≡ true
  pub bodies : bodies_inside s ≡ true
  pub count : count_allowed (facility_count s) ≡ true
  pub names : names_allowed s ≡ true
  pub geometries : geometries_allowed s ≡ true
  pub aliases : aliases_allowed s ≡ true
  pub times : times_allowed s ≡ true
  pub real_test_lem : real_test_allowed s ≡ true

pub passed : (s : List ℕ) → tables_refusal s ≡ 0 → Passed s
unfolding tables_refusal tables_refusal_by
passed s h =
    let c1 = neither _ _ h in
    let c2 = neither _ _ c1.1 in
    let c3 = neither _ _ c2.1 in
    let c4 = neither _ _ c3.1 in
    let c5 = neither _ _ c4.1 in
    let c6 = neither _ _ c5.1 in
    let c7 = neither _ _ c6.1 in
    let c8 = neither _ _ c7.1 in
    let c9 = neither _ _ c8.1 in
    let c10 = neither _ _ c9.1 in
    let c11 = neither _ _ c10.1 in
    let c12 = neither _ _ c11.1 in
    let c13 = neither _ _ c12.1 in
    record {
      length' = kept 1 _ (lit< tt) c1.0;
      starts = kept 2 _ (lit< tt) c2.0;
      ends = kept 3 _ (lit< tt) c3.0;
      listed = kept 4 _ (lit< tt) c4.0;
      plain = kept 5 _ (lit< tt) c5.0;
      times_once_lem = kept 6 _ (lit< tt) c6.0;
      there = kept 7 _ (lit< tt) c7.0;
      bodies = kept 8 _ (lit< tt) c8.0;
      count = kept 9 _ (lit< tt) c9.0;
      names = kept 10 _ (lit< tt) c10.0;
      geometries = kept 11 _ (lit< tt) c11.0;
      aliases = kept 12 _ (lit< tt) c12.0;
      times = kept 13 _ (lit< tt) c13.0;
      real_test_lem = kept 14 _ (lit< tt) c13.1;
    }

pub passed_length : (s : List ℕ) → Passed s → (shortest_file ≤ length s) × (length s ≤ longest_file)
unfolding length_allowed
passed_length s p = let b = and_both _ _ p.length' in (leb-true _ _ b.0, leb-true _ _ b.1)

pub passed_located : (s : List ℕ) → Passed s → Located s
passed_located s p = located s (passed_length s p).0 p.listed p.there p.bodies

pub passed_count : (s : List ℕ) → Passed s → facility_count s ≤ most_facilities
unfolding count_allowed
passed_count s p = leb-true _ _ p.count

-- ---- an accepted file

pub record Accepted (s : List ℕ) : Type 0 where
  pub tables : tables_refusal s ≡ 0
  pub chains : chains_refusal s ≡ 0
  pub apart : changes_apart s ≡ true

pub accepted : (s : List ℕ) → file_refusal s ≡ 0 → Accepted s
unfolding file_refusal
accepted s h =
    let a = neither _ _ h in
    let b = neither _ _ a.1 in
    record { tables = a.0; chains = b.0; apart = kept 17 _ (lit< tt) b.1 }

-- ---- the chains of an accepted file have no fault

-- where there is no first fault, a number of the list is 0
no_fault : (g : ℕ → ℕ) (p : ℕ → Bool) (i k : ℕ) → first_fault (map g (select p (range i k))) ≡ 0 → (f : ℕ) → i ≤ f → f < i + k → p f ≡ true → g f ≡ 0
unfolding first_fault select range
no_fault g p i zero h f a b e = absurd (omega arith)
no_fault g p i (suc k) h f a b e =
    let rest : first_fault (map g (select p (range (suc i) k))) ≡ 0 → suc i ≤ f → g f ≡ 0 = λ r c. no_fault g p (suc i) k r f c (omega arith) e in
    on_test (p i)
    (λ q. let both = neither (g i) (first_fault (map g (select p (range (suc i) k)))) (rw q at h) in
    elim (ℕ_discrete f i) [ yes j ↦ rw j both.0 | no n ↦ rest both.1 (omega arith) ])
    (λ q. elim (ℕ_discrete f i) [ yes j ↦ absurd (false≢true (sym q ∙ (rw j at e))) | no n ↦ rest (rw q at h) (omega arith) ])

-- of each root
pub root_sound : (s : List ℕ) → chains_refusal s ≡ 0 → (f : ℕ) → f < facility_count s → is_alias s f ≡ false → fault_from s f (sync_of s f) ≡ 0
unfolding chains_refusal roots_of
root_sound s h f l e =
    no_fault (λ g. fault_from s g (sync_of s g)) (λ g. not (is_alias s g)) 0 (facility_count s) h f (omega arith) (omega arith) (rw e)

-- the newest change of a chain without a fault has none, and neither have the changes before it
pub newest_sound : (s : List ℕ) (f o : ℕ) → 0 < o → fault_from s f o ≡ 0
    → Sound s (signal_of s f) o × (fault_from s f (previous_of s o) ≡ 0)
unfolding fault_from chain_fault first_fault
newest_sound s f o h e = let b = neither _ _ (rw (chain_more s o h) at e) in (sound s _ o b.0, b.1)
