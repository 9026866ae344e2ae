-- A law for each way out of the functions on aliases.
use Rattle.std.specs.Prelude.{if◌then◌else◌}
use Prim.Native.Nat.{ℕ, suc, ◌+◌, ◌-◌, ◌≤◌, ◌<◌}
use mathlib.Core.Path.{◌≡◌, refl, sym, ◌∙◌}
use mathlib.Core.Bool.{Bool, true, false, not, false≢true}
use mathlib.Core.List.{List, []}
use lib.Dec.{ltb, leb}
use lib.ListN.{length, get_or, set, replicate, length-set, length-replicate, get_or-replicate}
use lib.Seq.{get_or-set_same, get_or-set_other}
use native.Mathlib.Omega.{arith}
use native.Mathlib.Decide.{ℕ_discrete, dec_le}
use native.Mathlib.Numerals.{add-one}
use borrow.Author.Tests.{lt-ltb, le-ltb, le-leb, lt-leb, not-true}
use Rattle.lxt_format.specs.Limits.{most_facilities}
use Rattle.lxt_format.specs.Basics.{range, all}
use Rattle.lxt_format.specs.BasicsLaws.{on_test, all_range, range_all, all_turn, all_stop, all_end}
use Rattle.lxt_format.specs.Sections.{facility_count}
use Rattle.lxt_format.specs.Geometry.{rows_of, is_alias, root_within, root_of, aliases_allowed}
use Rattle.lxt_format.proofs.GeometryLaws.{root_outside, root_here, root_next, root_self}
use Rattle.lxt_tables.specs.Stage.{Geometry}
use Rattle.lxt_tables.specs.Asked.{Right, Roots, Stores, Resolved}
use Rattle.lxt_tables.proofs.WayLaws.{passing, passing_same, root_of_alias}

-- the facility that f stands for
abbrev pub stands_for : List ℕ → ℕ → ℕ
stands_for s f = if is_alias s f then rows_of s f else f

-- a root is stored along a way that has come to `at`: the facility where it began has its root once it is left
pub record Storing (s : List ℕ) (n f root : ℕ) (roots₀ : List ℕ) (at : ℕ) (roots : List ℕ) : Type 0 where
  pub table : Roots s n f roots
  pub long : length roots ≡ length roots₀
  pub inside : at < n
  pub way : root ≡ root_of s at
  pub begun : n ≤ get_or roots f 0 → at ≡ f

-- the roots of the first f facilities are stored: whether each of the others has one is what is left
pub record Putting (s : List ℕ) (n : ℕ) (roots₀ : List ℕ) (f : ℕ) (roots : List ℕ) : Type 0 where
  pub upto : f ≤ n
  pub table : Roots s n f roots
  pub long : length roots ≡ length roots₀
  pub answer : all (λ g. ltb (root_of s g) (facility_count s)) (range f (n - f)) ≡ aliases_allowed s

-- the entries that are not known
abbrev pub unknown : ℕ → List ℕ → ℕ → Bool
unknown n roots g = leb n (get_or roots g 0)

-- ---- storing a number in a table

module _ (l : List ℕ) (at v : ℕ) (h : at < length l) where
  -- what holds of the number at its place, and of each other place as before, holds of each place
  after_set : (P : ℕ → ℕ → Type 0) → P at v → (g : ℕ) → ((g ≡ at → ⊥) → P g (get_or l g 0)) → P g (get_or (set l at v) g 0)
  after_set P here g other =
      elim (ℕ_discrete g at) [ yes e ↦ rw (e, get_or-set_same l at v 0 h) here | no o ↦ rw (get_or-set_other l at g v 0 o) (other o) ]

-- one entry less is not known
pub store_less : (n at v : ℕ) (roots : List ℕ) → n ≤ length roots → at < n → v < n → n ≤ get_or roots at 0
    → passing (unknown n (set roots at v)) n < passing (unknown n roots) n
store_less n at v roots room a b h =
    let inside : at < length roots = omega arith in
    let fewer : (g : ℕ) → unknown n (set roots at v) g ≡ true → unknown n roots g ≡ true =
    λ g. after_set roots at v inside (λ g r. leb n r ≡ true → unknown n roots g ≡ true) (λ _. le-leb _ _ h) g (λ _ y. y) in
    elim (dec_le (passing (unknown n roots) n) (passing (unknown n (set roots at v)) n)) [
      | yes l ↦ (let same = passing_same (unknown n (set roots at v)) (unknown n roots) fewer n l at a in
          absurd (false≢true (sym (lt-leb n v b) ∙ (rw (get_or-set_same roots at v 0 inside) at same) ∙ le-leb n (get_or roots at 0) h)))
      | no o ↦ omega arith
    ]

module _ (s : List ℕ) (g n : ℕ) (p : Geometry s g n) where
  -- ---- the way to a root: at `at`, with `left` facilities more

  pub way_begun : (f : ℕ) → root_within (n - 0) s f ≡ root_of s f
  unfolding root_of
  way_begun f = let e : n - 0 ≡ n = omega arith in rw (e, p.count)

  module _ (at left r : ℕ) (inv : root_within left s at ≡ r) where
    pub way_over : left ≤ 0 → n ≡ r
    unfolding root_within
    way_over h = let e : left ≡ 0 = omega arith in p.count ∙ (rw e at inv)

    module _ (more : 0 < left) where
      pub way_out : n ≤ at → n ≡ r
      way_out h = p.count ∙ sym (root_outside s left at (rw (← p.count) h)) ∙ inv

      one_less : left ≡ suc (left - 1)
      one_less = omega arith

      module _ (h : at < n) (a : Bool) (ea : a ≡ is_alias s at) where
        below : at < facility_count s
        below = rw (← p.count) h

        pub way_root : a ≡ false → at ≡ r
        way_root e = sym (root_here s (left - 1) at below (sym ea ∙ e)) ∙ rw (← one_less) inv

        pub way_next : a ≡ true → (t : ℕ) → t ≡ rows_of s at → (k : ℕ) → left ≡ suc k → root_within k s t ≡ r
        way_next e t et k ek = rw et (sym (root_next s k at below (sym ea ∙ e)) ∙ (rw ek at inv))

  -- ---- by a table of roots

  pub none_right : Right s n []
  none_right = record { entry = λ f h l k. absurd (omega arith) }

  pub roots_right : (f : ℕ) (roots : List ℕ) → Roots s n f roots → Right s n roots
  roots_right f roots w = record { entry = λ f h l k. w.right f h k }

  pub way_known : (f at : ℕ) (roots : List ℕ) → Right s n roots → root_of s at ≡ root_of s f → at < n
      → (k : ℕ) → (k < n → (at < length roots) × (k ≡ get_or roots at 0)) → k < n → k ≡ root_of s f
  way_known f at roots w e h k known l = let q = known l in q.1 ∙ w.entry at h q.0 (rw q.1 at l) ∙ e

  pub way_alias : (f at : ℕ) → root_of s at ≡ root_of s f → at < n → (a : Bool) → a ≡ is_alias s at → a ≡ true → (t : ℕ) → t ≡ rows_of s at → root_of s t ≡ root_of s f
  way_alias f at e h a ea y t et = rw et (root_of_alias s at (rw (← p.count) h) (sym ea ∙ y) ∙ e)

  -- ---- storing a root along its way

  pub stands_alias : (f : ℕ) (a : Bool) → a ≡ is_alias s f → a ≡ true → (t : ℕ) → t ≡ rows_of s f → t ≡ stands_for s f
  stands_alias f a ea y t et = et ∙ rw (← ea, y)

  pub stands_plain : (f : ℕ) (a : Bool) → a ≡ is_alias s f → a ≡ false → f ≡ stands_for s f
  stands_plain f a ea y = rw (← ea, y)

  stands_root : (f : ℕ) → f < n → root_of s (stands_for s f) ≡ root_of s f
  stands_root f h = on_test (is_alias s f) (λ e. rw e (root_of_alias s f (rw (← p.count) h) e)) (λ e. rw e)

  module _ (f root : ℕ) (roots₀ : List ℕ) (d : Stores s n f root roots₀) where
    -- what has a root is a facility
    way_inside : (g : ℕ) → root ≡ root_of s g → g < n
    unfolding root_of
    way_inside g e =
        elim (dec_le n g) [
          | yes l ↦ absurd (omega (arith, d.found, e ∙ root_outside s (facility_count s) g (rw (← p.count) l), p.count))
          | no o ↦ omega arith
        ]

    pub store_begun : Storing s n f root roots₀ f roots₀
    store_begun = record { table = d.table; long = refl; inside = d.inside; way = d.root_is; begun = λ _. refl }

    module _ (at : ℕ) (roots : List ℕ) (w : Storing s n f root roots₀ at roots) where
      pub store_done : get_or roots at 0 < n → Roots s n (f + 1) roots
      store_done h =
          let here : get_or roots f 0 < n = elim (dec_le n (get_or roots f 0)) [ yes l ↦ rw (w.begun l) at h | no o ↦ omega arith ] in
          record {
            room = w.table.room;
            right = w.table.right;
            first = λ g l. elim (ℕ_discrete g f) [ yes e ↦ rw e here | no o ↦ w.table.first g (omega arith) ];
          }

      module _ (h : n ≤ get_or roots at 0) where
        pub store_next : (t : ℕ) → t ≡ stands_for s at → Storing s n f root roots₀ t (set roots at root)
        store_next t et =
            let small = d.found in
            let stored = after_set roots at root (omega (arith, w.inside, w.table.room)) in
            let way : root ≡ root_of s t = w.way ∙ sym (stands_root at w.inside) ∙ rw et in
            record {
              table = record {
                room = rw (length-set roots at root) w.table.room;
                right = λ g l. stored (λ g r. r < n → r ≡ root_of s g) (λ _. w.way) g (λ _. w.table.right g l);
                first = λ g l. stored (λ _ r. r < n) small g (λ _. w.table.first g l);
              };
              long = length-set roots at root ∙ w.long;
              inside = way_inside t way;
              way = way;
              begun = stored (λ g r. n ≤ r → t ≡ g) (λ l. absurd (omega arith)) f (λ o l. absurd (o (sym (w.begun l))));
            }

  -- ---- every facility has a root

  abbrev has_root : ℕ → Bool
  has_root f = ltb (root_of s f) (facility_count s)

  pub put_begun : (roots : List ℕ) → Roots s n 0 roots → Putting s n roots 0 roots
  unfolding aliases_allowed
  put_begun roots w =
      let e : n - 0 ≡ n = omega arith in
      record { upto = omega arith; table = w; long = refl; answer = rw (e, p.count) }

  module _ (roots₀ : List ℕ) (f : ℕ) (roots : List ℕ) (w : Putting s n roots₀ f roots) where
    pub put_end : n ≤ f → Resolved s n true roots
    put_end h =
        record {
          answer = sym (all_end has_root f n h) ∙ w.answer;
          room = w.table.room;
          roots_are = λ _ g l. w.table.right g l (w.table.first g (omega arith));
        }

    module _ (h : f < n) (r : ℕ) (er : r ≡ root_of s f) where
      pub put_stop : n ≤ r → Resolved s n false roots
      put_stop l =
          record {
            answer = sym (all_stop has_root f n h (le-ltb (root_of s f) (facility_count s) (rw (← er, ← p.count) l))) ∙ w.answer;
            room = w.table.room;
            roots_are = λ e. absurd (false≢true e);
          }

      pub put_turn : r < n → (roots' : List ℕ) → length roots' ≡ length roots → Roots s n (f + 1) roots' → Putting s n roots₀ (f + 1) roots'
      put_turn l roots' long w' =
          record {
            upto = omega arith;
            table = w';
            long = long ∙ w.long;
            answer = rw add-one (sym (all_turn has_root f n h (lt-ltb (root_of s f) (facility_count s) (rw (← er, ← p.count) l))) ∙ w.answer);
          }

-- ---- no facility is an alias

module _ (s : List ℕ) where
  abbrev pub own : ℕ → Bool
  own f = not (is_alias s f)

  module _ (n : ℕ) where
    pub none_begun : all own (range 0 (n - 0)) ≡ all own (range 0 n)
    none_begun = let e : n - 0 ≡ n = omega arith in rw e

    module _ (f : ℕ) (inv : all own (range f (n - f)) ≡ all own (range 0 n)) where
      pub none_end : n ≤ f → true ≡ all own (range 0 n)
      none_end h = sym (all_end own f n h) ∙ inv

      module _ (h : f < n) (b : Bool) (eb : b ≡ is_alias s f) where
        pub none_stop : b ≡ true → false ≡ all own (range 0 n)
        none_stop z = sym (all_stop own f n h (rw (← eb, z))) ∙ inv

        pub none_turn : b ≡ false → all own (range (f + 1) (n - (f + 1))) ≡ all own (range 0 n)
        none_turn z = rw add-one (sym (all_turn own f n h (rw (← eb, z))) ∙ inv)

  -- then each is its own root
  pub own_roots : (g n : ℕ) → Geometry s g n → (b : Bool) → b ≡ all own (range 0 n) → b ≡ true → true ≡ aliases_allowed s
  unfolding aliases_allowed
  own_roots g n p b eb z =
      let n' : ℕ = facility_count s in
      let every : all own (range 0 n') ≡ true = rw (← p.count) (sym eb ∙ z) in
      sym (range_all (λ f. ltb (root_of s f) n') 0 n'
      (λ f _ h.
      let inside : f < n' = omega arith in
      let none : is_alias s f ≡ false = not-true (is_alias s f) (all_range own 0 n' every f (omega arith) h) in
      lt-ltb (root_of s f) n' (rw (root_self s f inside none) inside)))

-- a table in which no root is known
pub none_known : (s : List ℕ) (n : ℕ) → n ≤ most_facilities → Roots s n 0 (replicate 4096 0xFFFF_FFFF)
none_known s n h =
    record {
      room = rw (length-replicate {A = ℕ} 4096 0xFFFF_FFFF) h;
      right = λ g l k. absurd (omega (arith, get_or-replicate {A = ℕ} 4096 g 0xFFFF_FFFF 0 (omega arith)));
      first = λ g l. absurd (omega arith);
    }
