-- The chains of all roots, and what their changes are read with.
use Prim.Native.Nat.{ℕ, zero, suc, ◌≤◌, ◌<◌}
use mathlib.Core.Path.{◌≡◌, refl, sym, ◌∙◌, ap}
use mathlib.Core.Bool.{Bool, true, false, not, false≢true}
use mathlib.Core.List.{List, map}
use lib.Dec.{lit≤}
use native.Mathlib.Omega.{arith}
use Rattle.lxt_format.specs.Limits.{widest_facility}
use Rattle.lxt_format.specs.Basics.{◌or_else◌, given, answer, range, select, first_fault}
use Rattle.lxt_format.specs.BasicsLaws.{all_range, on_test}
use Rattle.lxt_format.specs.Sections.{facility_count}
use Rattle.lxt_format.specs.Geometry.{is_alias, msb_of, lsb_of, flags_of, kind_of_flags, width_between, geometry_allowed, geometries_allowed, facts_by, own_facts, sync_of}
use Rattle.lxt_format.specs.Changes.{Signal, signal, chain_fault, chain_clean}
use Rattle.lxt_format.specs.Judge.{fault_from, clean_from}
use Rattle.lxt_format.specs.declared.Kind.{Kind}
use Rattle.lxt_format.specs.declared.Kind.TheVariants.{Bits, Integer, Real, Text}
use Rattle.lxt_format.specs.declared.Facts.{Facts}
use Rattle.lxt_tables.proofs.FacilityLaws.{width_fits}
use Rattle.lxt_changes.specs.Faults.{symbolic, Setting}
use Rattle.lxt_chains.specs.Reading.{Ready, facility_fault, facility_clean}
use Rattle.lxt_chains.specs.declared.chains.Chains.{Chains}

-- ---- the facts of a root are allowed

-- the facts that an allowed width gives, for each kind
widths : (kind : Kind) (msb lsb : ℕ) → (kind ≡ Bits → width_between msb lsb ≤ widest_facility)
    → ((facts_by kind msb lsb).width ≤ widest_facility) × (symbolic (facts_by kind msb lsb).kind ≡ true → 1 ≤ (facts_by kind msb lsb).width)
unfolding facts_by symbolic
widths Bits msb lsb h = (h refl, λ e. (unfold width_between in omega arith))
widths Integer msb lsb h = (lit≤ tt, λ e. lit≤ tt)
widths Real msb lsb h = (lit≤ tt, λ e. absurd (false≢true e))
widths Text msb lsb h = (lit≤ tt, λ e. absurd (false≢true e))

module _ (s : List ℕ) (f : ℕ) (h : geometry_allowed s f ≡ true) (plain : is_alias s f ≡ false) where
  facts_allowed : ((own_facts s f).width ≤ widest_facility) × (symbolic (own_facts s f).kind ≡ true → 1 ≤ (own_facts s f).width)
  unfolding own_facts
  facts_allowed =
      widths (kind_of_flags (flags_of s f)) (msb_of s f) (lsb_of s f)
      (λ e. width_fits s f (flags_of s f) refl (kind_of_flags (flags_of s f)) refl e (msb_of s f) refl (lsb_of s f) refl h plain)

module _ (s : List ℕ) (c : Chains) (w : Ready s c) (f : ℕ) (below : f < c.facilities) where
  pub facility_allowed_lem : geometry_allowed s f ≡ true
  unfolding geometries_allowed
  facility_allowed_lem = let n = w.geometry.count in all_range (geometry_allowed s) 0 (facility_count s) w.allowed f (omega arith) (omega arith)

  abbrev read_as : Facts → Signal
  read_as facts = signal c.from c.end facts.kind facts.width

  module _ (plain : is_alias s f ≡ false) where
    module _ (facts : Facts) (e : facts ≡ own_facts s f) where
      pub setting : Setting s c.end c.zero facts.kind facts.width
      setting =
          let a = facts_allowed s f facility_allowed_lem plain in
          record { within = w.within; last = w.zero; least = λ k. rw e (a.1 (rw e at k)); most = rw e a.0 }

      pub fault_is : (o : ℕ) → answer (chain_fault s (read_as facts) o) (chain_clean s (read_as facts) o) ≡ answer (fault_from s f o) (clean_from s f o)
      unfolding fault_from clean_from
      fault_is o = rw (w.from, w.end, e)

      pub narrow : facts.width ≤ widest_facility
      narrow = rw e (facts_allowed s f facility_allowed_lem plain).0

-- ---- refusals 15 and 16

module _ (s : List ℕ) (f : ℕ) (a : Bool) (ea : a ≡ is_alias s f) where
  pub alias_fault : a ≡ true → given true ≡ answer (facility_fault s f) (facility_clean s f)
  unfolding facility_fault facility_clean
  alias_fault h = rw (← ea, h)

  pub plain : a ≡ false → is_alias s f ≡ false
  plain h = sym ea ∙ h

  pub root_fault : a ≡ false → (o : ℕ) → o ≡ sync_of s f → answer (fault_from s f o) (clean_from s f o) ≡ answer (facility_fault s f) (facility_clean s f)
  unfolding facility_fault facility_clean
  root_fault h o eo = rw (← ea, h, eo)

-- the first fault of the facilities from i on is that of the roots among them
pub same_fault : (s : List ℕ) (i k : ℕ) → first_fault (map (facility_fault s) (range i k)) ≡ first_fault (map (λ g. fault_from s g (sync_of s g)) (select (λ g. not (is_alias s g)) (range i k)))
unfolding range first_fault select facility_fault
same_fault s i zero = refl
same_fault s i (suc k) =
    let ih = same_fault s (suc i) k in
    on_test (is_alias s i) (λ e. rw e ih) (λ e. rw e (ap (λ x. fault_from s i (sync_of s i) or_else x) ih))
