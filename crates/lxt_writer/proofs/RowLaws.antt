-- Laws of one row of the table of changes: whether it is allowed, its bytes, and the table of the newest changes after it.
use Rattle.std.specs.Prelude.{Option, Some, None}
use Rattle.std.proofs.lemmas.Option.{none-some, cond_some}
use Rattle.std.proofs.lemmas.List.{get_or-map}
use Prim.Native.Nat.{ℕ, ◌+◌, ◌-◌, ◌≤◌, ◌<◌}
use native.Mathlib.Omega.{arith}
use native.Mathlib.Decide.{ℕ_discrete}
use mathlib.Core.Path.{◌≡◌, refl, sym, ◌∙◌}
use mathlib.Core.Bool.{true, false, true≢false}
use mathlib.Core.List.{List, [], ◌∷◌}
use lib.ListN.{length, get_or, set, take, drop, length-map, length-set}
use lib.Seq.{length-slice, get_or-set_same, get_or-set_other}
use lib.Dec.{leb, ltb}
use borrow.Author.Tests.{le-leb, lt-leb, lt-ltb, le-ltb, ltb-true, eq-eqb, ne_eqb}
use Rattle.lxt_format.specs.Limits.{longest_file, widest_facility}
use Rattle.lxt_format.specs.BasicsLaws.{on_test, and_both}
use Rattle.lxt_format.specs.Geometry.{width_between, facts_by}
use Rattle.lxt_format.specs.declared.Kind.{Kind}
use Rattle.lxt_format.specs.declared.Kind.TheVariants.{Bits, Integer, Real, Text}
use Rattle.lxt_format.specs.declared.Pair.{Pair}
use Rattle.lxt_written.specs.Input.{part, kind_of_code, facility_of, change_of, change_row_allowed}
use Rattle.lxt_written.specs.WrittenChanges.{change_bytes, no_facility, numbered, last_of, pair_of, lay_at}
use Rattle.lxt_written.specs.Writing.{facts_for, value_allowed, value_of_allowed}
use Rattle.lxt_written.specs.CommandLaws.{change_long}
use Rattle.lxt_pack.proofs.PartLaws.{part_is}
use Rattle.lxt_pack.specs.Change.{WidthFor, change_size, AtMost}
use Rattle.lxt_writer.specs.Changes.{nameless, Laying, row_allowed, row_bytes, RowSized}

-- ---- the facility of a row

-- facility f is the one of row f
pub numbered_row : (rows : List (List ℕ)) (f : ℕ) → f < length rows → numbered (nameless rows) f ≡ facility_of [] (get_or rows f [])
numbered_row rows f h = get_or-map (facility_of []) rows f [] no_facility h

-- the width of a facility that is not too wide is one of its kind
width_for : (kind : Kind) (msb lsb : ℕ) → (facts_by kind msb lsb).width ≤ widest_facility → WidthFor kind (facts_by kind msb lsb).width
unfolding facts_by width_between
width_for Bits msb lsb h = (omega arith, h)
width_for Integer msb lsb h = refl
width_for Real msb lsb h = refl
width_for Text msb lsb h = refl

pub width_known : (facility : List ℕ) (kind : Kind) (width : ℕ) → kind ≡ kind_of_code (get_or facility 2 0)
    → width ≡ (facts_by kind (get_or facility 3 0) (get_or facility 4 0)).width
    → (facts_for (facility_of [] facility)).width ≤ widest_facility → WidthFor kind width
unfolding facts_for facility_of
width_known facility kind width ek ew h = rw ew (width_for kind (get_or facility 3 0) (get_or facility 4 0) (rw ek h))

-- ---- the value of a row

-- a part of the pool as it is lent on
abbrev pub lent : List ℕ → ℕ → ℕ → List ℕ
lent pool start size = take (start + size - start) (drop start pool)

module _ (pool : List ℕ) (start size : ℕ) (inside : start + size ≤ length pool) where
  pub lent_part : lent pool start size ≡ part pool start size
  unfolding part
  lent_part = part_is pool start (start + size) (omega arith) inside

  -- it is as long as it says
  pub part_short : size < 4294967296 → length (lent pool start size) < 4294967296
  unfolding part
  part_short h = rw lent_part (let l = length-slice start (start + size) pool inside in omega arith)

-- ---- how many bytes a row takes

-- a row whose facility is none
pub row_outside : (rows : List (List ℕ)) (row values : List ℕ) → length rows ≤ get_or row 0 0 → row_allowed rows row values ≡ false
unfolding row_allowed value_of_allowed
row_outside rows row values h =
    let f : ℕ = get_or row 0 0 in
    let n = length-map rows (facility_of []) in
    let out : ltb f (length (nameless rows)) ≡ false = le-ltb f (length (nameless rows)) (omega arith) in
    on_test (row_allowed rows row values)
    (λ y. absurd (true≢false (sym (and_both (ltb f (length (nameless rows))) _ (and_both (change_row_allowed values row) _ y).1).0 ∙ out)))
    (λ y. y)

-- one whose part passes the end of the pool
pub row_past : (rows : List (List ℕ)) (row values : List ℕ) → length values < get_or row 2 0 + get_or row 3 0
    → row_allowed rows row values ≡ false
unfolding row_allowed change_row_allowed
row_past rows row values h =
    on_test (row_allowed rows row values)
    (λ y. absurd (true≢false (sym (and_both (leb (get_or row 2 0 + get_or row 3 0) (length values)) _ y).0 ∙ lt-leb _ _ h)))
    (λ y. y)

-- one whose facility is known, and whose part lies in the pool
module _ (rows : List (List ℕ)) (row values last : List ℕ) (o : ℕ) (known : get_or row 0 0 < length rows)
    (inside : get_or row 2 0 + get_or row 3 0 ≤ length values) where
  abbrev facility : List ℕ
  facility = get_or rows (get_or row 0 0) []

  -- it is allowed where its value is
  row_value : row_allowed rows row values
      ≡ value_allowed
      (kind_of_code (get_or facility 2 0))
      (facts_by (kind_of_code (get_or facility 2 0)) (get_or facility 3 0) (get_or facility 4 0)).width
      (part values (get_or row 2 0) (get_or row 3 0))
  unfolding row_allowed change_row_allowed value_of_allowed facts_for facility_of
  row_value =
      let n = length-map rows (facility_of []) in
      rw (le-leb _ _ inside, lt-ltb (get_or row 0 0) (length (nameless rows)) (omega arith), numbered_row rows (get_or row 0 0) known)

  -- and then it takes the bytes of its change
  pub row_sized : (kind : Kind) (width delta : ℕ) (r : Option ℕ) → kind ≡ kind_of_code (get_or facility 2 0)
      → width ≡ (facts_by kind (get_or facility 3 0) (get_or facility 4 0)).width
      → delta ≡ o - get_or last (get_or row 0 0) 0 - 2
      → r ≡ change_size kind width delta (lent values (get_or row 2 0) (get_or row 3 0)) → AtMost 4294967301 r
      → RowSized rows row values last o r
  unfolding change_size row_bytes part
  row_sized kind width delta None ek ew ed er most =
      let value : List ℕ = part values (get_or row 2 0) (get_or row 3 0) in
      let er' = rw (lent_part values (get_or row 2 0) (get_or row 3 0) inside) at er in
      row_value
      ∙ rw (← ek, ← ew)
      (on_test (value_allowed kind width value) (λ y. absurd (none-some (length (change_bytes kind delta value)) (er' ∙ rw y))) (λ y. y))
  row_sized kind width delta (Some r) ek ew ed er most =
      let value : List ℕ = part values (get_or row 2 0) (get_or row 3 0) in
      let er' = rw (lent_part values (get_or row 2 0) (get_or row 3 0) inside) at er in
      let given = cond_some (value_allowed kind width value) (length (change_bytes kind delta value)) r (sym er') in
      record {
        allowed = row_value ∙ rw (← ek, ← ew) given.0;
        size = sym given.1 ∙ rw (ek, ed);
        most = most;
      }

-- ---- the change of a row

-- the facility of a row that is allowed is one of the rows'
pub row_known : (rows : List (List ℕ)) (row values : List ℕ) → row_allowed rows row values ≡ true → get_or row 0 0 < length rows
unfolding row_allowed value_of_allowed
row_known rows row values allowed =
    let n = length-map rows (facility_of []) in
    let y = (and_both (ltb (get_or row 0 0) (length (nameless rows))) _ (and_both (change_row_allowed values row) _ allowed).1).0 in
    omega (arith, ltb-true (get_or row 0 0) (length (nameless rows)) y)

module _ (rows : List (List ℕ)) (row values last : List ℕ) (before : List Pair) (o : ℕ) (laying : Laying before last (length rows) o)
    (allowed : row_allowed rows row values ≡ true) where
  known_row : get_or row 0 0 < length rows
  known_row = row_known rows row values allowed

  -- its bytes are those of the change
  pub row_laid : (lay_at (nameless rows) o before (change_of values row)).bytes ≡ row_bytes rows row values last o
  unfolding lay_at row_bytes change_of facility_of
  row_laid = rw (numbered_row rows (get_or row 0 0) known_row, ← laying.newest (get_or row 0 0) known_row)

  -- at least two
  pub row_long : 2 ≤ length (row_bytes rows row values last o)
  unfolding row_bytes
  row_long = change_long _ _ _

  -- the newest changes with this one
  pub row_newest : (r : ℕ) → 2 ≤ r → o + r ≤ longest_file
      → Laying (pair_of (lay_at (nameless rows) o before (change_of values row)) ∷ before) (set last (get_or row 0 0) o) (length rows) (o + r)
  unfolding lay_at change_of last_of
  row_newest r some most =
      let f : ℕ = get_or row 0 0 in
      let known = known_row in
      let long : f < length last = omega (arith, laying.free.long) in
      let at : (g : ℕ) → (g ≡ f → ⊥) → get_or (set last f o) g 0 ≡ get_or last g 0 = λ g n. get_or-set_other last f g o 0 n in
      record {
        free =
            record {
              long = length-set last f o ∙ laying.free.long;
              below = λ g.
                  elim (ℕ_discrete g f) [
                    | yes e ↦ (let q : get_or (set last f o) g 0 ≡ o = rw e (get_or-set_same last f o 0 long) in omega arith)
                    | no n ↦ (let q = at g n in let b = laying.free.below g in omega arith)
                  ];
              most = most;
            };
        newest = λ g below.
            elim (ℕ_discrete g f) [
              | yes e ↦ (rw (eq-eqb f g (sym e), e) (get_or-set_same last f o 0 long))
              | no n ↦ rw (ne_eqb f g (λ e. n (sym e))) (at g n ∙ laying.newest g below)
            ];
      }
