-- Starting a walk: the loops that fill its record, and a law for each way out.
use Rattle.std.specs.Prelude.{if◌then◌else◌}
use Prim.Native.Nat.{ℕ, zero, suc, ◌+◌, ◌-◌, ◌≤◌, ◌<◌}
use native.Mathlib.Omega.{arith}
use native.Mathlib.Decide.{ℕ_discrete}
use mathlib.Core.Path.{◌≡◌, refl, sym, ap, ◌∙◌}
use mathlib.Core.Bool.{Bool, true, false, not, ◌&&◌, ◌||◌}
use mathlib.Core.List.{List, [], ◌∷◌, ◌++◌}
use lib.ListN.{length, get_or, set, take, drop, replicate, length-set, length-replicate, get_or-replicate, take-append-drop, get_or-append}
use lib.Seq.{get_or-set_same, get_or-set_other, drop-set-lt, get_or-take, length-take-le, ext_get_or}
use lib.Dec.{ltb, eqb}
use borrow.Author.Tests.{eq-eqb, ne_eqb, le-leb, lt-leb, ltb-true, ltb-false, eqb-false}
use Rattle.lxt_format.specs.Basics.{Answer, given, refused, range, any}
use Rattle.lxt_chains.specs.Reading.{examined_of, examined}
use Rattle.lxt_chains.specs.declared.whole.Examined.{Examined}
use Rattle.lxt_chains.proofs.JudgedLaws.{accepted as judged_accepted}
use Rattle.lxt_format.specs.BasicsLaws.{or_either, or_none, stops, was_refused, answer_given, answer_refused, length_range, range_upto, range_done}
use Rattle.lxt_format.specs.Sections.{facility_count}
use Rattle.lxt_format.specs.Geometry.{root_of, sync_of}
use Rattle.lxt_format.proofs.GeometryLaws.{root_below}
use Rattle.lxt_format.specs.Judge.{file_refusal}
use Rattle.lxt_format.specs.Columns.{paired, numbers_in, offsets_in, onto}
use Rattle.lxt_format.specs.Walk.{asks, start_offsets, with_offsets}
use Rattle.lxt_format.specs.Questions.{start_refusal, start_asked, start_record}
use Rattle.lxt_tables.specs.Stage.{Geometry, tables_of}
use Rattle.lxt_tables.specs.Asked.{Sync, Roots, Resolved}
use Rattle.lxt_tables.specs.declared.Tables.{Tables}
use Rattle.lxt_tables.proofs.AliasLaws.{none_known}
use Rattle.lxt_tables.proofs.TablesLaws.{Known, tables_known}
use Rattle.lxt_chains.proofs.Bridge.{length_start, get_d_start}
use Rattle.lxt_walk.proofs.ColumnsLaws.{length_paired, numbers_onto, offsets_onto, length_onto, onto_next, onto_again, numbers_with, offsets_with_given}
use Rattle.lxt_walk.specs.Carrying.{Starting}

-- ---- numbers, and no offsets

-- one number more
range_next : (i k : ℕ) → range i k ++ ((i + k) ∷ []) ≡ range i (suc k)
unfolding range
range_next i zero = let e : i + 0 ≡ i = omega arith in rw e
range_next i (suc k) = let e : i + suc k ≡ suc i + k = omega arith in rw e (ap (λ l. i ∷ l) (range_next (suc i) k))

zeros_next : (k : ℕ) → replicate k 0 ++ (0 ∷ []) ≡ replicate {A = ℕ} (suc k) 0
zeros_next zero = refl
zeros_next (suc k) = ap (λ l. 0 ∷ l) (zeros_next k)

-- the first f numbers are stored, and as many zeros
pub record Numbering (n : ℕ) (ns₀ os₀ : List ℕ) (f : ℕ) (ns os : List ℕ) : Type 0 where
  pub upto : f ≤ n
  pub numbers : ns ≡ onto (range 0 f) ns₀
  pub offsets : os ≡ onto (replicate f 0) os₀
  pub room : n ≤ length ns
  pub offsets_room : n ≤ length os
  pub long : length ns ≡ length ns₀
  pub offsets_long : length os ≡ length os₀

pub numbers_begun : (n : ℕ) (ns os : List ℕ) → n ≤ length ns → n ≤ length os → Numbering n ns os 0 ns os
unfolding range
numbers_begun n ns os a b =
    record { upto = omega arith; numbers = refl; offsets = refl; room = a; offsets_room = b; long = refl; offsets_long = refl }

module _ (n : ℕ) (ns₀ os₀ : List ℕ) (f : ℕ) (ns os : List ℕ) (w : Numbering n ns₀ os₀ f ns os) where
  pub numbers_next : f < n → Numbering n ns₀ os₀ (f + 1) (set ns f f) (set os f 0)
  numbers_next h =
      let a = w.long in
      let b = w.offsets_long in
      let k = w.room in
      let l = w.offsets_room in
      let e : f + 1 ≡ suc f = omega arith in
      record {
        upto = omega arith;
        numbers = rw e (number (omega arith));
        offsets = rw e (offset (omega arith));
        room = rw (length-set ns f f) k;
        offsets_room = rw (length-set os f 0) l;
        long = length-set ns f f ∙ a;
        offsets_long = length-set os f 0 ∙ b;
      }
    where
      number : f < length ns₀ → set ns f f ≡ onto (range 0 (suc f)) ns₀
      number h =
          let e : 0 + f ≡ f = omega arith in
          rw w.numbers
          (onto_next (range 0 f) ns₀ f f (length_range 0 f) h
          ∙ ap (λ l. onto l ns₀) (ap (λ x. range 0 f ++ (x ∷ [])) (sym e) ∙ range_next 0 f))

      offset : f < length os₀ → set os f 0 ≡ onto (replicate (suc f) 0) os₀
      offset h =
          rw w.offsets (onto_next (replicate f 0) os₀ 0 f (length-replicate f 0) h ∙ ap (λ l. onto l os₀) (zeros_next f))

  pub numbers_ended : n ≤ f → (ns ≡ onto (range 0 n) ns₀) × (os ≡ onto (replicate n 0) os₀)
  numbers_ended h = let u = w.upto in let e : f ≡ n = omega arith in (rw (← e) w.numbers, rw (← e) w.offsets)

-- ---- the roots asked for

module _ (s : List ℕ) (asked : List ℕ) where
  -- facility h asks for the root g
  abbrev wants : ℕ → ℕ → Bool
  wants g h = not (eqb (get_or asked h 0) 0) && eqb (root_of s h) g

  -- one of the facilities from f up to n does
  pub wanted : ℕ → ℕ → ℕ → Bool
  wanted n f g = any (wants g) (range f (n - f))

  wanted_turn : (n f g : ℕ) → f < n → wanted n f g ≡ (wants g f || wanted n (suc f) g)
  unfolding any wanted
  wanted_turn n f g h = rw (range_upto f n h)

  wanted_none : (n g : ℕ) → wanted n n g ≡ false
  unfolding any wanted
  wanted_none n g = rw (range_done n n (omega arith))

  wanted_all : (g : ℕ) → wanted (facility_count s) 0 g ≡ asks s asked g
  unfolding asks wanted
  wanted_all g = let e : facility_count s - 0 ≡ facility_count s = omega arith in rw e

-- the sync entries of the roots for which a facility from f on asks are stored, and 0 for the others
pub record Asking (s : List ℕ) (n : ℕ) (asked os₀ : List ℕ) (f : ℕ) (os : List ℕ) : Type 0 where
  pub upto : f ≤ n
  pub long : length os ≡ length os₀
  pub room : n ≤ length os
  pub here : (g : ℕ) → g < n → get_or os g 0 ≡ (if wanted s asked n f g then sync_of s g else 0)
  pub past : drop n os ≡ drop n os₀

pub asked_begun : (s : List ℕ) (t : Tables) (asked os : List ℕ) → Starting s t asked os → Asking s t.facilities asked os t.facilities os
asked_begun s t asked os w =
    record {
      upto = omega arith;
      long = refl;
      room = w.room;
      here = λ g h. w.none g h ∙ rw (wanted_none s asked t.facilities g);
      past = refl;
    }

module _ (s : List ℕ) (t : Tables) (asked os₀ : List ℕ) (w : Starting s t asked os₀) where
  pub asked_geometry : Geometry s t.geometry t.facilities
  asked_geometry = (tables_known s t w.tables w.accepted).geometry_at

  pub asked_none_known : Roots s t.facilities 0 (replicate 4096 0xFFFF_FFFF)
  asked_none_known = none_known s t.facilities (tables_known s t w.tables w.accepted).few

  -- a file that is accepted has a root for each facility
  pub asked_resolved : (b : Bool) (roots : List ℕ) → Resolved s t.facilities b roots → Resolved s t.facilities true roots
  asked_resolved b roots d =
      let e : b ≡ true = d.answer ∙ (tables_known s t w.tables w.accepted).passed.aliases in
      rw e at d

module _ (s : List ℕ) (t : Tables) (asked os₀ : List ℕ) (w : Starting s t asked os₀) (roots : List ℕ) (d : Resolved s t.facilities true roots)
    (k : ℕ) (os : List ℕ) (v : Asking s t.facilities asked os₀ k os) where
  tables_there : Known s t
  tables_there = tables_known s t w.tables w.accepted

  pub asked_sync : Sync s t.sync t.facilities
  asked_sync = tables_there.sync_at

  module _ (some : 0 < k) where
    pub asked_read : k - 1 < length asked
    asked_read = let u = v.upto in let e = w.bytes in omega arith

    turn : (g : ℕ) → wanted s asked t.facilities (k - 1) g ≡ (wants s asked g (k - 1) || wanted s asked t.facilities k g)
    turn g =
        let u = v.upto in
        let e : suc (k - 1) ≡ k = omega arith in
        wanted_turn s asked t.facilities (k - 1) g (omega arith) ∙ rw e

    pub asked_skipped : get_or asked (k - 1) 0 ≡ 0 → Asking s t.facilities asked os₀ (k - 1) os
    asked_skipped z =
        let u = v.upto in
        record { upto = omega arith; long = v.long; room = v.room; here = λ g h. v.here g h ∙ rw (turn g, z); past = v.past }

    -- the facility itself has a place too, so that an edit that stores there fails by what it stores
    pub asked_itself : k - 1 < length os
    asked_itself = omega (arith, v.upto, v.room)

    pub asked_root_read : k - 1 < length roots
    asked_root_read = omega (arith, v.upto, d.room)

    module _ (byte : get_or asked (k - 1) 0 ≡ 0 → ⊥) (r : ℕ) (found : r ≡ get_or roots (k - 1) 0) where
      er : r ≡ root_of s (k - 1)
      er = found ∙ d.roots_are refl (k - 1) (omega (arith, v.upto))

      pub asked_below : r < t.facilities
      asked_below =
          let u = v.upto in
          let c = tables_there.facilities in
          let b = root_below s tables_there.passed.aliases (k - 1) (omega arith) in
          omega (arith, er)

      pub asked_small : r < length os
      asked_small = let a = asked_below in let b = v.room in omega arith

      pub asked_stored : (o : ℕ) → o ≡ sync_of s r → Asking s t.facilities asked os₀ (k - 1) (set os r o)
      asked_stored o eo =
          let u = v.upto in
          let b = asked_below in
          let m = v.room in
          record {
            upto = omega arith;
            long = length-set os r o ∙ v.long;
            room = rw (length-set os r o) m;
            here = λ g h. elim (ℕ_discrete g r) [
              | yes e ↦ rw (e, get_or-set_same os r o 0 (omega arith), turn r, ne_eqb _ 0 byte, eq-eqb (root_of s (k - 1)) r (sym er)) eo
              | no d ↦ get_or-set_other os r g o 0 d ∙ v.here g h
                  ∙ rw (turn g, ne_eqb _ 0 byte, ne_eqb (root_of s (k - 1)) g (λ q. d (sym q ∙ sym er)))
            ];
            past = drop-set-lt t.facilities os r o b ∙ v.past;
          }

  pub asked_ended : k ≤ 0 → os ≡ onto (start_offsets s asked) os₀
  asked_ended z =
      let n : ℕ = t.facilities in
      let c = tables_there.facilities in
      let l = length_start s asked in
      let m = v.room in
      let e : k ≡ 0 = omega arith in
      let first : take n os ≡ start_offsets s asked =
      ext_get_or 0 (take n os) (start_offsets s asked) (length-take-le n os m ∙ c ∙ sym l)
      (λ i h. let b : i < n = rw (length-take-le n os m) at h in
      get_or-take n os i 0 b ∙ v.here i b ∙ rw (e, c, wanted_all s asked i) (sym (get_d_start s asked i (omega arith)))) in
      let long : length (start_offsets s asked) ≡ n = l ∙ sym c in
      sym (take-append-drop n os) ∙ rw (first, long, v.past)

-- ---- the ways out of `start`

-- an answer, and what both slices hold after it
abbrev Outcome : List ℕ → List ℕ → List ℕ → List ℕ → Answer (Unit {0}) → List ℕ → List ℕ → Type 0
Outcome s asked ns os a ns' os' =
    (a ≡ start_asked s asked (length (paired ns os)))
    × ((ns' ≡ onto (numbers_in (start_record s asked (paired ns os))) ns) × (os' ≡ onto (offsets_in (start_record s asked (paired ns os))) os))

module _ (s asked ns os : List ℕ) where
  -- a refusal changes nothing
  none_changed : (n : ℕ) → n ≡ start_refusal s asked (length (paired ns os)) → (n ≡ 0 → ⊥) → Outcome s asked ns os (refused n) ns os
  unfolding start_asked start_record
  none_changed n e some =
      let m : start_refusal s asked (length (paired ns os)) ≡ 0 → ⊥ = λ z. some (e ∙ z) in
      let same : start_record s asked (paired ns os) ≡ paired ns os = simp (ne_eqb _ 0 m) in (
        rw e (sym (answer_refused (start_refusal s asked (length (paired ns os))) tt m)),
        (sym (ap (λ ps. onto (numbers_in ps) ns) same ∙ numbers_onto ns os), sym (ap (λ ps. onto (offsets_in ps) os) same ∙ offsets_onto ns os)),
      )

  pub start_refused : (n : ℕ) → refused n ≡ examined s → Outcome s asked ns os (refused n) ns os
  unfolding start_refusal
  start_refused n h =
      let w = was_refused (file_refusal s) n (examined_of s) h in
      none_changed n (w.0 ∙ sym (stops (file_refusal s) _ w.1)) (λ z. w.1 (sym w.0 ∙ z))

  module _ (x : Examined) (h : given x ≡ examined s) where
    abbrev t : Tables
    t = x.tables

    fine : file_refusal s ≡ 0
    fine = (judged_accepted s x h).refusal

    et : t ≡ tables_of s
    et = (judged_accepted s x h).tables

    count : t.facilities ≡ facility_count s
    count = (tables_known s t et fine).facilities

    pub start_no_room : (ltb (length ns) t.facilities || ltb (length os) t.facilities) ≡ true → Outcome s asked ns os (refused 21) ns os
    unfolding start_refusal
    start_no_room q =
        let c = count in
        let l = length_paired ns os in
        let short : length (paired ns os) < facility_count s =
        or_either (ltb (length ns) t.facilities) (ltb (length os) t.facilities) q
        (λ a. let b : length ns < t.facilities = ltb-true _ _ a in omega arith) (λ a. let b : length os < t.facilities = ltb-true _ _ a in omega arith) in
        none_changed 21 (sym (rw (fine, lt-leb (facility_count s) (length (paired ns os)) short))) (λ z. eqb-false 21 0 refl z)

    module _ (q : (ltb (length ns) t.facilities || ltb (length os) t.facilities) ≡ false) where
      pub start_room : (t.facilities ≤ length ns) × (t.facilities ≤ length os)
      start_room =
          let b = or_none (ltb (length ns) t.facilities) (ltb (length os) t.facilities) q in (ltb-false _ _ b.0, ltb-false _ _ b.1)

      enough : facility_count s ≤ length (paired ns os)
      enough = let c = count in let l = length_paired ns os in let b = start_room.0 in let d = start_room.1 in omega arith

      pub start_other_length : (length asked ≡ t.facilities → ⊥) → Outcome s asked ns os (refused 22) ns os
      unfolding start_refusal
      start_other_length n =
          let c = count in
          let d : length asked ≡ facility_count s → ⊥ = λ z. n (z ∙ sym c) in
          none_changed 22 (sym (rw (fine, le-leb (facility_count s) (length (paired ns os)) enough, ne_eqb _ _ d))) (λ z. eqb-false 22 0 refl z)

      module _ (k : length asked ≡ t.facilities) (ns' os' : List ℕ) (en : ns' ≡ onto (range 0 t.facilities) ns) (eo : os' ≡ onto (replicate t.facilities 0) os) where
        pub start_asks : Starting s t asked os'
        start_asks =
            let n : ℕ = t.facilities in
            let z : length (replicate {A = ℕ} n 0) ≡ n = length-replicate n 0 in
            let b = start_room.1 in
            record {
              tables = et;
              accepted = fine;
              bytes = k;
              room = rw (eo, length_onto (replicate n 0) os (omega arith)) b;
              none = λ f l. rw eo (get_or-append (replicate n 0) (drop (length (replicate {A = ℕ} n 0)) os) 0 f (omega arith) ∙ get_or-replicate n f 0 0 l);
            }

        pub start_done : (os'' : List ℕ) → os'' ≡ onto (start_offsets s asked) os' → Outcome s asked ns os (given tt) ns' os''
        unfolding start_asked start_record start_refusal
        start_done os'' e =
            let c = count in
            let z : start_refusal s asked (length (paired ns os)) ≡ 0 =
            rw (fine, le-leb (facility_count s) (length (paired ns os)) enough, eq-eqb (length asked) (facility_count s) (k ∙ c)) in
            let same : start_record s asked (paired ns os) ≡ with_offsets (paired ns os) (start_offsets s asked) = rw z in
            let l : length (start_offsets s asked) ≡ t.facilities = length_start s asked ∙ sym c in (
              sym (answer_given (start_refusal s asked (length (paired ns os))) tt z),
              (
                en ∙ sym (ap (λ ps. onto (numbers_in ps) ns) same ∙ numbers_with ns os (start_offsets s asked) ∙ rw l),
                e
                    ∙ rw eo (onto_again (start_offsets s asked) (replicate t.facilities 0) os (l ∙ sym (length-replicate t.facilities 0)))
                    ∙ sym (ap (λ ps. onto (offsets_in ps) os) same ∙ offsets_with_given ns os (start_offsets s asked)),
              ),
            )
