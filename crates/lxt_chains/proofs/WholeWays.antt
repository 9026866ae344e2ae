-- A law for each way out of the checks of a whole file.
use Rattle.std.specs.Prelude.{if◌then◌else◌}
use Prim.Native.Nat.{ℕ, zero, suc, ◌+◌, ◌-◌, ◌/◌, ◌≤◌, ◌<◌}
use mathlib.Core.Path.{◌≡◌, refl, sym, ◌∙◌}
use mathlib.Core.Bool.{Bool, true, false}
use mathlib.Core.List.{List, map}
use lib.ListN.{length, get_or, get_or-eq_default}
use native.Mathlib.Omega.{arith}
use native.Mathlib.Decide.{dec_le, ℕ_discrete}
use borrow.Author.Tests.{ne_eqb}
use Rattle.std.specs.Prelude.{Some, None}
use Rattle.std.proofs.lemmas.Option.{none-some, same_Some}
use Rattle.lxt_format.specs.Basics.{◌unless◌, ◌or_else◌, Answer, given, refused, answer, range, first_fault}
use Rattle.lxt_format.specs.BasicsLaws.{on_test, on_zero, stops, answer_refused, was_given, was_refused, passed_on, same_refusal, fault_next, fault_here}
use Rattle.lxt_format.specs.Sections.{facility_count, end_of}
use Rattle.lxt_format.specs.Geometry.{is_alias, roots_of}
use Rattle.lxt_format.proofs.ChangesLaws.{faults_none}
use Rattle.lxt_format.specs.Judge.{tables_refusal, signal_of, fault_from, chains_refusal, changes_apart, file_refusal, all_clean}
use Rattle.lxt_format.specs.Stray.{stray_at, stray_bytes, stray_asked}
use Rattle.lxt_sections.specs.Stage.{located}
use Rattle.lxt_sections.specs.declared.Sections.{Sections}
use Rattle.lxt_tables.specs.Stage.{after_names, tables_of, tables_read}
use Rattle.lxt_tables.specs.Asked.{Placed}
use Rattle.lxt_tables.specs.Parts.{Bodies}
use Rattle.lxt_tables.specs.declared.Tables.{Tables}
use Rattle.lxt_tables.proofs.TablesLaws.{known_given}
use Rattle.lxt_tables.proofs.WholeLaws.{placed_given}
use Rattle.lxt_changes.specs.Faults.{LastZero}
use Rattle.lxt_chains.specs.Pending.{root_offsets}
use Rattle.lxt_chains.specs.Reading.{Ready, examined_of, examined, tables_passed, facility_fault, facility_clean, root_offset, FirstOffsets, RootFault, Lowest, Between, Broken, chains_verdict}
use Rattle.lxt_chains.specs.Sweep.{fitting, left, SweptAll, outcome_of, outcome}
use Rattle.lxt_chains.specs.Groups.{Decides, Roots, ChainFault}
use Rattle.lxt_chains.proofs.Lists.{each_range}
use Rattle.lxt_chains.proofs.CountLaws.{counted_most}
use Rattle.lxt_chains.proofs.StrayLaws.{stray_is}
use Rattle.lxt_chains.proofs.ChainLaws.{same_fault}
use Rattle.lxt_chains.proofs.RootLaws.{first_plain}
use Rattle.lxt_chains.proofs.FittingLaws.{no_first, fits_pass, unfit, clean_is}
use Rattle.lxt_chains.specs.declared.chains.Chains.{Chains}
use Rattle.lxt_chains.specs.declared.sweep.Totals.{Totals}

module _ (s : List ℕ) (t : Tables) (h : given t ≡ tables_read s) where
  -- what the chains are read with
  pub end_within : t.end ≤ length s
  end_within = let k = (known_given s t h).end_high in omega arith

  pub ready : (z : ℕ) → LastZero s t.end z
      → Ready s (record { facilities = t.facilities; from = t.changes; end = t.end; zero = z; geometry = t.geometry; sync = t.sync })
  ready z l =
      let k = known_given s t h in
      record {
        from = k.changes;
        end = k.end;
        within = end_within;
        short = k.long;
        zero = l;
        geometry = k.geometry_at;
        sync = k.sync_at;
        allowed = k.passed.geometries;
        most = k.few;
      }

  -- once the tables have passed, the changes decide
  from_chains : file_refusal s ≡ chains_verdict s
  unfolding file_refusal chains_verdict
  from_chains = let z : tables_refusal s ≡ 0 = (known_given s t h).refusal in rw z

  pub chains_refused : {A : Type 0} (a : A) (parts : List ℕ) (n : ℕ) → refused n ≡ outcome s parts → refused n ≡ answer (file_refusal s) a
  chains_refused a parts n q = same_refusal (chains_verdict s) (file_refusal s) n (outcome_of s parts) a from_chains q

  module _ (parts : List ℕ) (r : Totals) (q : given r ≡ outcome s parts) where
    no_refusal : file_refusal s ≡ 0
    no_refusal = from_chains ∙ (was_given (chains_verdict s) (outcome_of s parts) r q).0

    pub accepted : given (record { clean = r.clean; tables = t }) ≡ examined s
    unfolding examined_of outcome_of
    accepted =
        let w = (was_given (chains_verdict s) (outcome_of s parts) r q).1 in
        let e : t ≡ tables_of s = (was_given (tables_refusal s) (tables_of s) t h).1 in
        rw (no_refusal, w, e)

    -- ---- stray bytes

    module _ (bodies : Bodies s parts) where
      counted_is : r.free ≡ stray_bytes s
      unfolding outcome_of
      counted_is =
          let w = was_given (chains_verdict s) (outcome_of s parts) r q in
          let fits : fitting s (end_of s) (left s (root_offsets s)) ≡ true = on_test (fitting s (end_of s) (left s (root_offsets s))) (λ y. y) (λ y. absurd (unfit s y w.0)) in
          rw w.1 (stray_is s parts bodies fits (known_given s t h).refusal)

      pub count_fits : r.free < 4294967296
      unfolding stray_bytes
      count_fits =
          let k = known_given s t h in
          omega (arith, counted_is, counted_most (stray_at s) 4 (end_of s), k.end, k.end_high, k.long)

      pub count_told : given r.free ≡ stray_asked s
      unfolding stray_asked
      count_told = rw (no_refusal, counted_is)

-- the tables are refused, or the sections
pub tables_refused : {A : Type 0} (s : List ℕ) (a : A) (n : ℕ) → refused n ≡ tables_read s → refused n ≡ answer (file_refusal s) a
unfolding file_refusal
tables_refused s a n h = passed_on (tables_refusal s) (chains_refusal s or_else 17 unless changes_apart s) n (tables_of s) a h

-- the tables of a file that refusals 1 to 14 refuse, and of one that they pass
pub none_passed : (s : List ℕ) (n : ℕ) → refused n ≡ tables_read s → None ≡ tables_passed s
unfolding tables_passed
none_passed s n h = let w = was_refused (tables_refusal s) n (tables_of s) h in simp (ne_eqb (tables_refusal s) 0 w.1)

pub some_passed : (s : List ℕ) (t : Tables) → given t ≡ tables_read s → Some t ≡ tables_passed s
unfolding tables_passed
some_passed s t h = let w = was_given (tables_refusal s) (tables_of s) t h in rw (w.0, w.1)

pub count_asks : (s : List ℕ) (p : Sections) (t : Tables) → given p ≡ located s → given t ≡ tables_read s → Placed s p × (t.names_end ≡ after_names s)
count_asks s p t hp ht = (placed_given s p hp, (known_given s t ht).names_end_lem)

-- ---- refusals 15 to 17

pub swept_passes : (s parts : List ℕ) (r : Totals) → SweptAll s parts (root_offsets s) (Some r) → given r ≡ outcome s parts
unfolding outcome_of
swept_passes s parts r w =
    on_test (fitting s (end_of s) (left s (root_offsets s)))
    (λ e.
    let z : chains_verdict s ≡ 0 = fits_pass s e in
    let g = same_Some r _ (rw e at w.told) in
    rw (z, g, clean_is s))
    (λ e. absurd (none-some r (sym (rw e at w.told))))

module _ (s parts : List ℕ) (w : SweptAll s parts (root_offsets s) None) where
  pub swept_breaks : Broken s
  swept_breaks = unfit s (on_test (fitting s (end_of s) (left s (root_offsets s))) (λ e. absurd (none-some _ (rw e at w.told))) (λ e. e))

  pub swept_refused : (n : ℕ) → refused n ≡ answer (chains_verdict s) (all_clean s) → refused n ≡ outcome s parts
  swept_refused n q = same_refusal (chains_verdict s) (chains_verdict s) n (all_clean s) (outcome_of s parts) refl q

  -- what finds the refusal of a broken file finds one
  pub swept_never : {P : Type 0} (b : Bool) → given b ≡ answer (chains_verdict s) (all_clean s) → P
  swept_never b q = absurd (swept_breaks (was_given (chains_verdict s) (all_clean s) b q).0)

-- the first fault of a range is that of the first number that has one
first_at : (fault : ℕ → ℕ) (i k f : ℕ) → i ≤ f → f < i + k → ((g : ℕ) → i ≤ g → g < f → fault g ≡ 0) → (fault f ≡ 0 → ⊥) → first_fault (map fault (range i k)) ≡ fault f
unfolding range
first_at fault i zero f a b none some = absurd (omega arith)
first_at fault i (suc k) f a b none some =
    elim (ℕ_discrete i f) [
      | yes e ↦ rw e (fault_here (fault f) (map fault (range (suc f) k)) some)
      | no n ↦ fault_next (fault i) (map fault (range (suc i) k)) (none i (omega arith) (omega arith)) ∙ first_at fault (suc i) k f (omega arith) (omega arith) (λ g x y. none g (omega arith) y) some
    ]

-- no facility has a fault
all_faultless : (s : List ℕ) (n : ℕ) → n ≡ facility_count s → ((f : ℕ) → f < n → facility_fault s f ≡ 0) → chains_refusal s ≡ 0
unfolding chains_refusal roots_of
all_faultless s n e h =
    sym (same_fault s 0 (facility_count s)) ∙ no_first (facility_fault s) (range 0 (facility_count s)) (each_range 0 (facility_count s) (λ f a b. h f (omega arith)))

module _ (s : List ℕ) (c : Chains) (ready : Ready s c) (broken : Broken s) where
  module _ (r : Bool) (d : Decides (RootFault s c.facilities) r) where
    -- no root has a fault: two changes share a byte
    pub refused_17 : r ≡ false → refused 17 ≡ answer (chains_verdict s) (all_clean s)
    unfolding chains_verdict
    refused_17 h =
        let none : chains_refusal s ≡ 0 =
        all_faultless s c.facilities ready.geometry.count
        (λ f b. on_zero (facility_fault s f) (λ z. z) (λ p. absurd (d.no h (record { number = f; first = b; fault = λ z. omega arith })))) in
        let shared : changes_apart s ≡ false = on_test (changes_apart s) (λ e. absurd (broken (unfold chains_verdict in rw (none, e)))) (λ e. e) in
        rw (none, shared)

    pub refused_some : r ≡ true → RootFault s c.facilities
    refused_some h = d.yes h

  -- the first fault is that of the lowest root that has one
  pub refused_first : (f : ℕ) → Lowest s c.facilities f → (r : Answer Bool) → r ≡ answer (facility_fault s f) (facility_clean s f) → r ≡ answer (chains_verdict s) (all_clean s)
  unfolding chains_verdict chains_refusal roots_of
  refused_first f w r q =
      let n = ready.geometry.count in
      let i = w.inside in
      let first : first_fault (map (facility_fault s) (range 0 (facility_count s))) ≡ facility_fault s f =
      first_at (facility_fault s) 0 (facility_count s) f (omega arith) (omega arith) (λ g a b. w.none g b) w.fault in
      let number : chains_refusal s ≡ facility_fault s f = sym (same_fault s 0 (facility_count s)) ∙ first in
      let whole : chains_verdict s ≡ facility_fault s f = stops (chains_refusal s) _ (λ z. w.fault (sym number ∙ z)) ∙ number in
      let here : r ≡ refused (facility_fault s f) = q ∙ answer_refused (facility_fault s f) (facility_clean s f) w.fault in
      here ∙ sym (answer_refused (chains_verdict s) (all_clean s) (λ z. w.fault (sym whole ∙ z)) ∙ rw whole)

-- ---- the lowest root with a fault

module _ (s : List ℕ) (k : ℕ) (os : List ℕ) (w : FirstOffsets s k os) where
  pub first_roots : (c : Chains) → k ≤ c.facilities → Roots s c os
  first_roots c h = let l = w.long in record { few = omega arith; roots = first_plain s k os w }

  pub first_decides : (r : Bool) → Decides (ChainFault s os) r → Decides (RootFault s k) r
  first_decides r d = record { yes = λ h. forth (d.yes h); no = λ h f. d.no h (back f) }
    where
      fault_of : (f : ℕ) → f < k → facility_fault s f ≡ (if is_alias s f then 0 else fault_from s f (get_or os f 0))
      fault_of f b = (unfold facility_fault in on_test (is_alias s f) (λ e. rw e) (λ e. rw (e, w.are f b) (unfold root_offset in rw e)))

      forth : ChainFault s os → RootFault s k
      forth x =
          let f : ℕ = x.number in
          let l = w.long in
          elim (dec_le k f) [
            | yes q ↦ absurd (x.fault (rw (get_or-eq_default os 0 {n = f} (omega arith)) (none f)))
            | no q ↦ record { number = f; first = omega arith; fault = λ z. x.fault (on_zero (get_or os f 0) (λ e. rw e (none f)) (λ p. (let a = first_plain s k os w f p in (rw (fault_of f (omega arith), a) at z)))) }
          ]
        where
          none : (f : ℕ) → fault_from s f 0 ≡ 0
          none f = (unfold fault_from in faults_none s (signal_of s f))

      back : RootFault s k → ChainFault s os
      back x = record { number = x.number; fault = λ z. x.fault (fault_of x.number x.first ∙ on_test (is_alias s x.number) (λ e. rw e) (λ e. rw e z)) }

pub lowest_begun : (s : List ℕ) (n : ℕ) → RootFault s n → Between s n 0 n
lowest_begun s n f = record { order = (let a = f.first in omega arith); inside = omega arith; none = λ g h. absurd (omega arith); some = f }

module _ (s : List ℕ) (n low high : ℕ) (w : Between s n low high) where
  pub lowest_ended : high ≤ low + 1 → Lowest s n low
  lowest_ended h =
      let f = w.some in
      let b = f.first in
      let i = w.inside in
      let e : f.number ≡ low = elim (dec_le low f.number) [
        | yes q ↦ omega arith
        | no q ↦ absurd (f.fault (w.none f.number (omega arith)))
      ] in
      record { inside = omega arith; fault = λ z. f.fault (rw e z); none = w.none }

  module _ (far : low + 1 < high) (r : Bool) (d : Decides (RootFault s (low + (high - low) / 2)) r) where
    abbrev middle : ℕ
    middle = low + (high - low) / 2

    pub halved_low : r ≡ true → Between s n low middle × ((low ≤ low) × ((middle ≤ high) × (middle + low < high + low)))
    halved_low h = let i = w.inside in (record { order = omega arith; inside = omega arith; none = w.none; some = d.yes h }, (omega arith, (omega arith, omega arith)))

    pub halved_high : r ≡ false → Between s n middle high × ((low ≤ middle) × ((high ≤ high) × (high + low < high + middle)))
    halved_high h = (
      record {
        order = omega arith;
        inside = w.inside;
        none = λ g b. on_zero (facility_fault s g) (λ z. z) (λ p. absurd (d.no h (record { number = g; first = b; fault = λ z. omega arith })));
        some = w.some;
      },
      (omega arith, (omega arith, omega arith)),
    )
