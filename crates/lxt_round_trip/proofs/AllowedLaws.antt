-- What a trace that is written keeps, as plain facts.
use Prim.Native.Nat.{ℕ, ◌≤◌, ◌<◌}
use mathlib.Core.Path.{◌≡◌}
use mathlib.Core.Bool.{true, ◌&&◌}
use mathlib.Core.List.{List}
use lib.ListN.{length}
use lib.Dec.{ltb, leb}
use borrow.Author.Tests.{ltb-true, leb-true}
use Rattle.lxt_format.specs.Limits.{most_facilities, longest_name, widest_facility}
use Rattle.lxt_format.specs.Basics.{all}
use Rattle.lxt_format.specs.BasicsLaws.{and_both}
use Rattle.lxt_format.specs.Sections.{timescale_allowed}
use Rattle.lxt_chains.specs.Pending.{Each}
use Rattle.lxt_chains.proofs.Lists.{each_map, each_both, each_all}
use Rattle.lxt_written.specs.Input.{Facility, Change, Trace}
use Rattle.lxt_written.specs.WrittenChanges.{numbered}
use Rattle.lxt_written.specs.Writing.{no_zero, name_allowed, facts_for, facility_allowed, value_allowed, value_of_allowed, changes_allowed, trace_allowed}
use Rattle.lxt_round_trip.specs.Steps.{FacilityTyped, ChangeTyped, Writable}

-- a facility that may be written
pub record FacilityKept (f : Facility) : Type 0 where
  pub short : length f.name ≤ longest_name
  pub no_zero_lem : no_zero f.name ≡ true
  pub width : (facts_for f).width ≤ widest_facility
  pub msb : f.msb < 4294967296
  pub lsb : f.lsb < 4294967296

-- a facility that is typed and allowed keeps these
facility_kept : (f : Facility) → FacilityTyped f × (facility_allowed f ≡ true) → FacilityKept f
unfolding facility_allowed name_allowed
facility_kept f h =
    let a = and_both (name_allowed f.name) (leb (facts_for f).width widest_facility) h.1 in
    let b = and_both (leb (length f.name) longest_name) (no_zero f.name) a.0 in
    record {
      short = leb-true _ _ b.0;
      no_zero_lem = b.1;
      width = leb-true _ _ a.1;
      msb = h.0.msb;
      lsb = h.0.lsb;
    }

-- a trace that may be written
pub record Kept (t : Trace) : Type 0 where
  pub count : length t.facilities ≤ most_facilities
  pub timescale : timescale_allowed t.timescale ≡ true
  pub initial : t.initial ≤ 8
  pub facilities : Each FacilityKept t.facilities
  pub changes : changes_allowed t.facilities 0 t.changes ≡ true

-- a trace that may be written keeps these
pub kept_of : (t : Trace) → Writable t → Kept t
unfolding trace_allowed
kept_of t w =
    let few = leb (length t.facilities) most_facilities in
    let small = leb t.initial 8 in
    let each = all facility_allowed t.facilities in
    let rising = changes_allowed t.facilities 0 t.changes in
    let a = and_both (few && (timescale_allowed t.timescale && small)) (each && rising) w.allowed in
    let b = and_both few (timescale_allowed t.timescale && small) a.0 in
    let c = and_both (timescale_allowed t.timescale) small b.1 in
    let d = and_both each rising a.1 in
    record {
      count = leb-true _ _ b.0;
      timescale = c.0;
      initial = leb-true _ _ c.1;
      facilities = each_map facility_kept (each_both w.facilities (each_all facility_allowed t.facilities d.0));
      changes = d.1;
    }

-- a change that may be written: its value is one of its facility's kind and width
pub record ChangeKept (facilities : List Facility) (c : Change) : Type 0 where
  pub typed : ChangeTyped c
  pub below : c.facility < length facilities
  pub allowed : value_allowed (numbered facilities c.facility).kind (facts_for (numbered facilities c.facility)).width c.value ≡ true

-- a change that is typed and allowed keeps these
change_kept : (facilities : List Facility) (c : Change) → ChangeTyped c → value_of_allowed facilities c.facility c.value ≡ true → ChangeKept facilities c
unfolding value_of_allowed
change_kept facilities c typed h =
    let f : Facility = numbered facilities c.facility in
    let b = and_both (ltb c.facility (length facilities)) (value_allowed f.kind (facts_for f).width c.value) h in
    record { typed = typed; below = ltb-true _ _ b.0; allowed = b.1 }

-- so do all changes
pub changes_kept : (facilities : List Facility) (time : ℕ) {cs : List Change} → Each ChangeTyped cs → changes_allowed facilities time cs ≡ true → Each (ChangeKept facilities) cs
unfolding changes_allowed
changes_kept facilities time Each.none h = Each.none
changes_kept facilities time (Each.both {x = c} {l = cs} typed rest) h =
    let value = value_of_allowed facilities c.facility c.value in
    let later = changes_allowed facilities c.time cs in
    let a = and_both (leb time c.time) (value && later) h in
    let b = and_both value later a.1 in
    Each.both (change_kept facilities c typed b.0) (changes_kept facilities c.time rest b.1)
