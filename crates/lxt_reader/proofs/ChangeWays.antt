-- A law for each way out of the questions on changes.
use Prim.Native.Nat.{ℕ, ◌≤◌, ◌<◌}
use mathlib.Core.Path.{◌≡◌, refl, sym, ◌∙◌}
use mathlib.Core.Bool.{Bool, true, false, ◌||◌}
use mathlib.Core.List.{List, ◌∷◌}
use lib.ListN.{length}
use lib.Dec.{eqb}
use Rattle.std.specs.Prelude.{Some}
use native.Mathlib.Omega.{arith}
use lib.Dec.{lit<}
use borrow.Author.Tests.{eq-eqb, ne_eqb}
use Rattle.lxt_format.specs.Basics.{◌unless◌, given, refused, answer, any}
use Rattle.lxt_format.specs.BasicsLaws.{neither, kept, answer_given, was_given, passed_on, same_refusal}
use Rattle.lxt_format.specs.Geometry.{root_of, sync_of, own_facts, facts_of}
use Rattle.lxt_format.specs.Changes.{Sound, data_at, previous_of, change_end, chain_of, chain_fault}
use Rattle.lxt_format.proofs.ChangesLaws.{previous_lt, chain_none, chain_more}
use Rattle.lxt_format.specs.Judge.{signal_by, fault_from}
use Rattle.lxt_format.proofs.JudgeLaws.{passed, accepted, root_sound}
use Rattle.lxt_format.specs.Questions.{facility_refusal, change_refusal, chain_asked, before_asked}
use Rattle.lxt_format.specs.declared.Facts.{Facts}
use Rattle.lxt_tables.specs.Asked.{Sync}
use Rattle.lxt_tables.proofs.TablesLaws.{Known, root_in, root_plain, tables_known}
use Rattle.lxt_values.specs.Times.{Readable, change}
use Rattle.lxt_format.proofs.ValuesLaws.{change_sound}
use Rattle.lxt_values.proofs.SoundChains.{chain_readable}
use Rattle.lxt_tables.specs.Stage.{tables_of}
use Rattle.lxt_chains.specs.Reading.{tables_passed}
use Rattle.lxt_chains.proofs.JudgedLaws.{with_tables}
use Rattle.lxt_reader.specs.Asking.{asked}
use Rattle.lxt_reader.specs.Changing.{chain_at}
use Rattle.lxt_reader.specs.declared.facilities.Asked.{Asked}
use Rattle.lxt_reader.specs.declared.changes.Chain.{Chain}
use Rattle.lxt_reader.proofs.AskWays.{nothing_refused, root_is, tables_are, all_known, below_of, file_of}

-- ---- the ways out of `find_chain`

module _ (s : List ℕ) (f : ℕ) (a : Asked) (h : given a ≡ asked s f) where
  pub sync_asks : Sync s a.tables.sync a.tables.facilities × (a.root < a.tables.facilities)
  sync_asks =
      let k = all_known s f a h in
      (k.sync_at, rw (root_is s f a h, k.facilities) (root_in s k.passed f (below_of s f (nothing_refused s f a h))))

  pub chain_found : (facts : Facts) → facts ≡ own_facts s a.root → (o : ℕ) → o ≡ sync_of s a.root
      → given (record { start = o; facts = facts; tables = a.tables }) ≡ answer (facility_refusal s f) (chain_at s f)
  unfolding facts_of chain_at
  chain_found facts ef o eo = rw (nothing_refused s f a h, ef, eo, root_is s f a h, tables_are s f a h)

-- what is known of the chain of a facility that is not refused
pub record Chained (s : List ℕ) (f : ℕ) (c : Chain) : Type 0 where
  pub fine : facility_refusal s f ≡ 0
  pub tables : c.tables ≡ tables_of s
  pub start : c.start ≡ sync_of s (root_of s f)
  pub facts : c.facts ≡ facts_of s f
  pub fault : fault_from s (root_of s f) c.start ≡ 0

pub chain_of_fine : (s : List ℕ) (f : ℕ) (c : Chain) → facility_refusal s f ≡ 0 → c ≡ chain_at s f → Chained s f c
unfolding chain_at
chain_of_fine s f c z e =
    let file = file_of s f z in
    let k = passed s (accepted s file).tables in
    let below = below_of s f z in
    let r = root_in s k f below in
    rw e record {
      fine = z;
      tables = refl;
      start = refl;
      facts = refl;
      fault = root_sound s (accepted s file).chains (root_of s f) r (root_plain s k f below);
    }

pub chained : (s : List ℕ) (f : ℕ) (c : Chain) → given c ≡ answer (facility_refusal s f) (chain_at s f) → Chained s f c
chained s f c h = let w = was_given (facility_refusal s f) (chain_at s f) c h in chain_of_fine s f c w.0 w.1

-- the refusal of the chain is that of a question on it
pub chain_refused : {A : Type 0} (s : List ℕ) (f : ℕ) (a : A) (n : ℕ) → refused n ≡ answer (facility_refusal s f) (chain_at s f) → refused n ≡ answer (facility_refusal s f) a
chain_refused s f a n h = same_refusal (facility_refusal s f) (facility_refusal s f) n (chain_at s f) a refl h

-- ---- a change on a chain

-- what is left of the chain tells whether the offset is on the whole of it
pub record Seeking (s : List ℕ) (start o p : ℕ) : Type 0 where
  pub same : any (eqb o) (chain_of s p) ≡ any (eqb o) (chain_of s start)
  pub readable : Readable s (chain_of s p)

pub seek_begun : (s : List ℕ) (start o : ℕ) → Readable s (chain_of s start) → Seeking s start o start
seek_begun s start o r = record { same = refl; readable = r }

first_readable : (s : List ℕ) (o : ℕ) (os : List ℕ) → Readable s (o ∷ os) → ((o < length s) × (data_at s o ≤ length s)) × Readable s os
first_readable s o os (change a b r) = ((a, b), r)

module _ (s : List ℕ) (start o p : ℕ) (w : Seeking s start o p) where
  pub seek_ended : p ≡ 0 → false ≡ any (eqb o) (chain_of s start)
  unfolding any
  seek_ended e = rw (e, chain_none s) at w.same

  module _ (some : p ≡ 0 → ⊥) where
    parts : ((p < length s) × (data_at s p ≤ length s)) × Readable s (chain_of s (previous_of s p))
    parts = first_readable s p (chain_of s (previous_of s p)) (rw (chain_more s p (omega arith)) at w.readable)

    pub seek_inside : (p < length s) × (data_at s p ≤ length s)
    seek_inside = parts.0

    unfolded : (eqb o p || any (eqb o) (chain_of s (previous_of s p))) ≡ any (eqb o) (chain_of s start)
    unfolding any
    unfolded = rw (chain_more s p (omega arith)) at w.same

    pub seek_found : o ≡ p → true ≡ any (eqb o) (chain_of s start)
    seek_found e = simp (eq-eqb o p e) at unfolded

    pub seek_next : (o ≡ p → ⊥) → (q : ℕ) → q ≡ previous_of s p → Seeking s start o q
    seek_next n q e = record { same = rw e (simp (ne_eqb o p n) at unfolded); readable = rw e parts.1 }

    pub seek_falls : (q : ℕ) → q ≡ previous_of s p → q < p
    seek_falls q e = let l = previous_lt s p (omega arith) in omega arith

-- ---- the ways out of `find_change`

pub looked_refused : {A : Type 0} (s : List ℕ) (f o : ℕ) (a : A) (n : ℕ) → refused n ≡ answer (facility_refusal s f) (chain_at s f) → refused n ≡ answer (change_refusal s f o) a
unfolding change_refusal
looked_refused s f o a n h = passed_on (facility_refusal s f) (19 unless any (eqb o) (chain_asked s f)) n (chain_at s f) a h

module _ (s : List ℕ) (f o : ℕ) (c : Chain) (h : given c ≡ answer (facility_refusal s f) (chain_at s f)) where
  w : Chained s f c
  w = chained s f c h

  pub chain_reads : Readable s (chain_of s c.start)
  unfolding fault_from
  chain_reads =
      let k = tables_known s c.tables w.tables (file_of s f w.fine) in
      chain_readable s _ c.start w.fault (omega (arith, k.end_high, k.end))

  -- the tables that go with the refusal of the change
  pub chain_tables : Some c.tables ≡ tables_passed s
  chain_tables = with_tables s c.tables (accepted s (file_of s f w.fine)).tables w.tables

  module _ (z : Bool) (ez : z ≡ any (eqb o) (chain_of s c.start)) where
    on_chain_is : z ≡ any (eqb o) (chain_asked s f)
    unfolding chain_asked
    on_chain_is = ez ∙ rw w.start

    pub not_on_chain : z ≡ false → refused 19 ≡ answer (change_refusal s f o) (chain_at s f)
    unfolding change_refusal
    not_on_chain q = rw (w.fine, ← on_chain_is, q)

    pub looked_found : z ≡ true → given c ≡ answer (change_refusal s f o) (chain_at s f)
    unfolding change_refusal
    looked_found q = h ∙ rw (w.fine, ← on_chain_is, q)

-- what is known of a change that is not refused
pub record Looked (s : List ℕ) (f o : ℕ) (c : Chain) : Type 0 where
  pub fine : change_refusal s f o ≡ 0
  pub chain : Chained s f c
  pub sound : Sound s (signal_by s c.facts) o

pub looked : (s : List ℕ) (f o : ℕ) (c : Chain) → given c ≡ answer (change_refusal s f o) (chain_at s f) → Looked s f o c
unfolding change_refusal chain_asked fault_from chain_fault facts_of
looked s f o c h =
    let g = was_given (change_refusal s f o) (chain_at s f) c h in
    let n = neither (facility_refusal s f) (19 unless any (eqb o) (chain_asked s f)) g.0 in
    let w = chain_of_fine s f c n.0 g.1 in
    let on : any (eqb o) (chain_of s c.start) ≡ true = rw w.start (kept 19 _ (lit< tt) n.1) in
    record { fine = g.0; chain = w; sound = rw w.facts (change_sound s _ c.start w.fault o on) }

-- ---- the change before

pub before_refused : (s : List ℕ) (f o n : ℕ) → refused n ≡ answer (change_refusal s f o) (chain_at s f) → refused n ≡ before_asked s f o
unfolding before_asked
before_refused s f o n h = same_refusal (change_refusal s f o) (change_refusal s f o) n (chain_at s f) _ refl h

module _ (s : List ℕ) (f o : ℕ) (c : Chain) (h : given c ≡ answer (change_refusal s f o) (chain_at s f)) where
  v : Looked s f o c
  v = looked s f o c h

  change_known : Known s c.tables
  change_known = tables_known s c.tables v.chain.tables (file_of s f v.chain.fine)

  pub change_inside : (o < length s) × (data_at s o ≤ length s)
  change_inside =
      let k = change_known in
      let g = v.sound in
      let b = g.before in
      let e = g.ends in
      let d : data_at s o ≤ change_end s (signal_by s c.facts) o = (unfold change_end in omega arith) in
      (omega (arith, k.end_high, k.end), omega (arith, k.end_high, k.end))

  pub before_small : (p : ℕ) → p ≡ previous_of s o → p < 4294967296
  before_small p e =
      let k = change_known in
      let i = change_inside.0 in
      let q : previous_of s o ≤ o = (unfold previous_of in omega arith) in
      omega (arith, k.long)

  pub before_given : (p : ℕ) → p ≡ previous_of s o → given p ≡ before_asked s f o
  unfolding before_asked
  before_given p e = rw e (sym (answer_given (change_refusal s f o) (previous_of s o) v.fine))
