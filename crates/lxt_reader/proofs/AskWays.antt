-- A law for each way out of the questions on a facility.
use Prim.Native.Nat.{ℕ, ◌≤◌, ◌<◌}
use mathlib.Core.Path.{◌≡◌, refl, sym}
use mathlib.Core.Bool.{true, false}
use mathlib.Core.List.{List}
use lib.Dec.{ltb}
use Rattle.std.specs.Prelude.{Some}
use borrow.Author.Tests.{lt-ltb, le-ltb, ltb-true}
use Rattle.lxt_format.specs.Basics.{◌unless◌, given, refused, answer}
use Rattle.lxt_format.specs.BasicsLaws.{neither, kept, answer_given, was_given, passed_on, same_refusal}
use Rattle.lxt_format.specs.Sections.{facility_count}
use Rattle.lxt_format.specs.Geometry.{is_alias, geometry_allowed, root_of, own_facts, facts_of}
use Rattle.lxt_format.specs.Judge.{file_refusal}
use Rattle.lxt_format.proofs.JudgeLaws.{accepted}
use Rattle.lxt_format.specs.Questions.{facility_refusal, facts_asked, root_asked}
use Rattle.lxt_format.specs.declared.Facts.{Facts}
use Rattle.lxt_tables.specs.Stage.{Geometry, tables_of}
use Rattle.lxt_tables.proofs.TablesLaws.{Known, tables_known, entry_allowed, root_in, root_plain}
use Rattle.lxt_chains.specs.Reading.{examined_of, examined, tables_passed}
use Rattle.lxt_chains.specs.declared.whole.Examined.{Examined}
use Rattle.lxt_chains.proofs.JudgedLaws.{accepted as judged_accepted, with_tables}
use Rattle.lxt_reader.specs.Asking.{asked_of, asked}
use Rattle.lxt_reader.specs.declared.facilities.Asked.{Asked}
use lib.Dec.{lit<}

-- ---- the ways out of `ask`

pub file_refused : {A : Type 0} (s : List ℕ) (f : ℕ) (a : A) (n : ℕ) → refused n ≡ examined s → refused n ≡ answer (facility_refusal s f) a
unfolding facility_refusal
file_refused s f a n h = passed_on (file_refusal s) (18 unless ltb f (facility_count s)) n (examined_of s) a h

module _ (s : List ℕ) (f : ℕ) (x : Examined) (h : given x ≡ examined s) where
  file_fine : file_refusal s ≡ 0
  file_fine = (judged_accepted s x h).refusal

  known : Known s x.tables
  known = tables_known s x.tables (judged_accepted s x h).tables file_fine

  pub geometry_there : Geometry s x.tables.geometry x.tables.facilities
  geometry_there = known.geometry_at

  -- the tables that go with the refusal of the facility
  pub tables_go : Some x.tables ≡ tables_passed s
  tables_go = with_tables s x.tables (accepted s file_fine).tables (judged_accepted s x h).tables

  pub not_below : x.tables.facilities ≤ f → refused 18 ≡ asked s f
  unfolding facility_refusal
  not_below l =
      let k = known in
      let g : facility_count s ≤ f = rw k.facilities at l in
      rw (file_fine, le-ltb f (facility_count s) g)

  pub asked_fine : f < x.tables.facilities → (o : ℕ) → o ≡ root_of s f → given (record { root = o; tables = x.tables }) ≡ asked s f
  unfolding facility_refusal asked_of
  asked_fine l o eo =
      let k = known in
      let g : f < facility_count s = rw k.facilities at l in
      rw (file_fine, lt-ltb f (facility_count s) g, eo, (judged_accepted s x h).tables)

-- ---- what a facility that is not refused gives

pub below_of : (s : List ℕ) (f : ℕ) → facility_refusal s f ≡ 0 → f < facility_count s
unfolding facility_refusal
below_of s f h = ltb-true _ _ (kept 18 _ (lit< tt) (neither (file_refusal s) (18 unless ltb f (facility_count s)) h).1)

pub file_of : (s : List ℕ) (f : ℕ) → facility_refusal s f ≡ 0 → file_refusal s ≡ 0
unfolding facility_refusal
file_of s f h = (neither (file_refusal s) (18 unless ltb f (facility_count s)) h).0

-- a refusal of the facility is that of a question on it
pub asked_refused : {A : Type 0} (s : List ℕ) (f : ℕ) (a : A) (n : ℕ) → refused n ≡ asked s f → refused n ≡ answer (facility_refusal s f) a
asked_refused s f a n h = same_refusal (facility_refusal s f) (facility_refusal s f) n (asked_of s f) a refl h

module _ (s : List ℕ) (f : ℕ) (a : Asked) (h : given a ≡ asked s f) where
  pub nothing_refused : facility_refusal s f ≡ 0
  nothing_refused = (was_given (facility_refusal s f) (asked_of s f) a h).0

  pub root_is : a.root ≡ root_of s f
  unfolding asked_of
  root_is = rw (was_given (facility_refusal s f) (asked_of s f) a h).1

  pub tables_are : a.tables ≡ tables_of s
  unfolding asked_of
  tables_are = rw (was_given (facility_refusal s f) (asked_of s f) a h).1

  pub all_known : Known s a.tables
  all_known = tables_known s a.tables tables_are (file_of s f nothing_refused)

  pub root_asks : (a.root < a.tables.facilities) × ((geometry_allowed s a.root ≡ true) × (is_alias s a.root ≡ false))
  root_asks =
      let k = all_known in
      let p = k.passed in
      let low = below_of s f nothing_refused in
      let below = root_in s p f low in
      let e = root_is in
      (rw (e, k.facilities) below, (rw e (entry_allowed s p (root_of s f) below), rw e (root_plain s p f low)))

  pub facts_given : (facts : Facts) → facts ≡ own_facts s a.root → given facts ≡ facts_asked s f
  unfolding facts_asked facts_of
  facts_given facts e = rw (e, root_is) (sym (answer_given (facility_refusal s f) (own_facts s (root_of s f)) nothing_refused))

  pub root_given : given a.root ≡ root_asked s f
  unfolding root_asked
  root_given = rw root_is (sym (answer_given (facility_refusal s f) (root_of s f) nothing_refused))
