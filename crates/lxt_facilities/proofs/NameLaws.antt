-- Laws of the names: what two of them share, what they take, and the bytes that are put.
use Prim.Native.Nat.{ℕ, suc, ◌+◌, ◌*◌, ◌-◌, ◌≤◌, ◌<◌, min}
use native.Mathlib.Omega.{arith}
use native.Mathlib.Nat.{add-zero}
use mathlib.Core.Path.{◌≡◌, refl, sym, ap, ◌∙◌}
use mathlib.Core.Bool.{Bool, true, false, ◌&&◌, ◌||◌, or_assoc, or-false}
use mathlib.Core.List.{List, [], ◌∷◌, ◌++◌, map}
use lib.ListN.{length, get_or, take, drop, length-append, length-drop}
use lib.Seq.{slice, slice-cons, slice_empty, drop-cons, drop-drop, drop-length, length-slice}
use lib.Dec.{leb, eqb}
use native.Mathlib.Decide.{dec_le, ℕ_discrete}
use borrow.Author.Tests.{leb-true, eq-eqb, ne_eqb}
use Rattle.lxt_format.specs.Limits.{longest_name, widest_facility}
use Rattle.lxt_format.specs.Basics.{all, any}
use Rattle.lxt_format.specs.BasicsLaws.{and_both}
use Rattle.lxt_format.specs.Buffers.{placed}
use Rattle.lxt_format.specs.Names.{memory_of}
use Rattle.lxt_format.specs.Reals.{is_real}
use Rattle.lxt_written.specs.Input.{part, kind_of_code, facility_of, facility_row_allowed}
use Rattle.lxt_written.specs.WrittenChanges.{big_endian}
use Rattle.lxt_written.specs.WrittenFile.{shared, name_bytes, names_from}
use Rattle.lxt_written.specs.Writing.{no_zero, name_allowed, facts_for, facility_allowed}
use Rattle.lxt_written.specs.Stands.{length_big_endian}
use Rattle.lxt_written.specs.TableSizes.{name_long}
use Rattle.lxt_facilities.specs.Rows.{names_in, facilities_allowed, FacilitiesFound, with_prefix}
use Rattle.lxt_facilities.proofs.FacilityLaws.{row_allowed, part_long}
use Rattle.lxt_pack.proofs.PartLaws.{part_is}
use Rattle.lxt_pack.proofs.PutLaws.{Filling, fill_begun, fill_turn, fill_ended}

-- ---- the prefix that two names share

-- nothing is shared with an empty name
shared_none : (before : List ℕ) → shared before [] ≡ 0
unfolding shared
shared_none [] = refl
shared_none (x ∷ before) = refl

-- k bytes are the same; with what the rest shares they are what both share
pub record Comparing (names : List ℕ) (before held at size most k : ℕ) : Type 0 where
  pub left : k + shared (slice (before + k) (before + held) names) (slice (at + k) (at + size) names) ≡ shared (part names before held) (part names at size)
  pub upto : k ≤ most
  pub least : most ≡ min held size
  pub held_inside : before + held ≤ length names
  pub inside : at + size ≤ length names

-- nothing is compared yet
pub compare_begun : (names : List ℕ) (before held at size most : ℕ) → before + held ≤ length names → at + size ≤ length names → most ≡ min held size
    → Comparing names before held at size most 0
unfolding part
compare_begun names before held at size most h k e =
    let zero_more : 0 + shared (part names before held) (part names at size) ≡ shared (part names before held) (part names at size) = omega arith in
    record { left = rw (add-zero before, add-zero at) zero_more; upto = omega arith; least = e; held_inside = h; inside = k }

module _ {names : List ℕ} {before held at size most k : ℕ} (w : Comparing names before held at size most k) where
  -- what is left of the name before
  next_held : k < most → slice (before + k) (before + held) names ≡ get_or names (before + k) 0 ∷ slice (suc (before + k)) (before + held) names
  next_held h = let e = w.least in slice-cons (before + k) (before + held) names 0 (omega arith) w.held_inside

  -- and of the other
  next_byte : k < most → slice (at + k) (at + size) names ≡ get_or names (at + k) 0 ∷ slice (suc (at + k)) (at + size) names
  next_byte h = let e = w.least in slice-cons (at + k) (at + size) names 0 (omega arith) w.inside

  -- one more byte is the same
  pub compare_turn : k < most → get_or names (before + k) 0 ≡ get_or names (at + k) 0 → Comparing names before held at size most (k + 1)
  unfolding shared
  compare_turn h e =
      let x : ℕ = get_or names (before + k) 0 in
      let y : ℕ = get_or names (at + k) 0 in
      let a : before + (k + 1) ≡ suc (before + k) = omega arith in
      let b : at + (k + 1) ≡ suc (at + k) = omega arith in
      let more : ℕ = shared (slice (suc (before + k)) (before + held) names) (slice (suc (at + k)) (at + size) names) in
      let one : k + suc more ≡ shared (part names before held) (part names at size) = rw (next_held h, next_byte h, eq-eqb x y e) at w.left in
      let sum : k + 1 + more ≡ k + suc more = omega arith in
      record { left = rw (a, b) (sum ∙ one); upto = omega arith; least = w.least; held_inside = w.held_inside; inside = w.inside }

  -- the next bytes differ
  pub compare_stop : k < most → (get_or names (before + k) 0 ≡ get_or names (at + k) 0 → ⊥) → (k ≡ shared (part names before held) (part names at size)) × (k ≤ size)
  unfolding shared
  compare_stop h n =
      let x : ℕ = get_or names (before + k) 0 in
      let y : ℕ = get_or names (at + k) 0 in
      let e : k + 0 ≡ shared (part names before held) (part names at size) = rw (next_held h, next_byte h, ne_eqb x y n) at w.left in
      let l = w.least in
      (sym (add-zero k) ∙ e, omega arith)

  -- one of the names ends
  compare_ended : most ≤ k → (k ≡ shared (part names before held) (part names at size)) × (k ≤ size)
  unfolding shared
  compare_ended h =
      let l = w.least in
      let u = w.upto in
      let by-held : held ≤ k → k + 0 ≡ shared (part names before held) (part names at size) =
      λ g. let e : k ≡ held = omega arith in
      let none : slice (before + k) (before + held) names ≡ [] = rw e (slice_empty (before + held) names) in
      rw none at w.left in
      let by_size : size ≤ k → k + 0 ≡ shared (part names before held) (part names at size) =
      λ g. let e : k ≡ size = omega arith in
      let none : slice (at + k) (at + size) names ≡ [] = rw e (slice_empty (at + size) names) in
      rw (none, shared_none (slice (before + k) (before + held) names)) at w.left in
      let e : k + 0 ≡ shared (part names before held) (part names at size) = elim (dec_le held k) [ yes g ↦ by-held g | no g ↦ by_size (omega arith) ] in
      (sym (add-zero k) ∙ e, omega arith)

  pub compare_all : most ≤ k → (most ≡ shared (part names before held) (part names at size)) × (most ≤ size)
  compare_all h = let e : most ≡ k = omega (arith, w.upto) in rw e (compare_ended h)

-- ---- one name

-- a prefix length, the bytes after the prefix and a zero
pub name_put : (names b : List ℕ) (k at size p : ℕ) → k ≤ size → at + size ≤ length names → p + 3 + (size - k) ≤ length b
    → {b1 b2 b3 : List ℕ} → b1 ≡ placed b p (big_endian 2 k) → b2 ≡ placed b1 (p + 2) (take (at + size - (at + k)) (drop (at + k) names))
    → b3 ≡ placed b2 (p + 2 + (size - k)) (big_endian 1 0) → b3 ≡ placed b p (with_prefix k (part names at size))
unfolding part big_endian
name_put names b k at size p h i r {b1} {b2} {b3} e1 e2 e3 =
    let s : List ℕ = slice (at + k) (at + size) names in
    let text : List ℕ = big_endian 2 k ++ (s ++ (0 ∷ [])) in
    let long : length s ≡ at + size - (at + k) = length-slice (at + k) (at + size) names i in
    let two : length (big_endian 2 k) ≡ 2 = refl in
    let a = length-append s (0 ∷ []) in
    let all-long : length text ≡ 2 + length (s ++ (0 ∷ [])) = length-append (big_endian 2 k) (s ++ (0 ∷ [])) in
    let s0 : Filling b p text text b p = fill_begun b p text (omega arith) in
    let e2' = e2 ∙ ap (λ t. placed b1 (p + 2) t) (part_is names (at + k) (at + size) (omega arith) i) in
    let s1 = fill_turn b p text (big_endian 2 k) (s ++ (0 ∷ [])) b p s0 b1 e1 (p + 2) refl in
    let s2 = fill_turn b p text s (0 ∷ []) b1 (p + 2) s1 b2 e2' (p + 2 + (size - k)) (omega arith) in
    let s3 = fill_turn b p text (0 ∷ []) [] b2 (p + 2 + (size - k)) s2 b3 e3 (p + 2 + (size - k) + 1) refl in
    let rest : drop k (part names at size) ≡ s = drop-drop k at _ in
    fill_ended b p text b3 (p + 2 + (size - k) + 1) s3 ∙ ap (λ t. placed b p (big_endian 2 k ++ (t ++ (0 ∷ [])))) (sym rest)

-- ---- a row of the table, and those after it

-- a row that is allowed has a name inside the pool, and of a length that is allowed
pub record RowKept (names row : List ℕ) : Type 0 where
  pub inside : get_or row 0 0 + get_or row 1 0 ≤ length names
  pub short : get_or row 1 0 ≤ longest_name

-- it follows from the tests
row_kept : (names row : List ℕ) → row_allowed names row ≡ true → RowKept names row
unfolding facility_row_allowed facility_allowed name_allowed facility_of
row_kept names row h =
    let name : List ℕ = part names (get_or row 0 0) (get_or row 1 0) in
    let a = and_both (facility_row_allowed names row) (facility_allowed (facility_of names row)) h in
    let b = and_both (leb (get_or row 0 0 + get_or row 1 0) (length names)) (leb (get_or row 2 0) 3) a.0 in
    let c = and_both (name_allowed name) (leb (facts_for (facility_of names row)).width widest_facility) a.1 in
    let d = and_both (leb (length name) longest_name) (no_zero name) c.0 in
    let i : get_or row 0 0 + get_or row 1 0 ≤ length names = leb-true _ _ b.0 in
    let l : length name ≤ longest_name = leb-true _ _ d.0 in
    record { inside = i; short = rw (part_long names (get_or row 0 0) (get_or row 1 0) i) at l }

-- the code 2 means a real
code_is_real : (code : ℕ) → is_real (kind_of_code code) ≡ eqb code 2
unfolding is_real kind_of_code
code_is_real code =
    elim (ℕ_discrete code 1) [
      | yes e ↦ rw e
      | no a ↦ elim (ℕ_discrete code 2) [
        | yes e ↦ rw e
        | no b ↦ elim (ℕ_discrete code 3) [
          | yes e ↦ rw e
          | no c ↦ simp (ne_eqb code 1 a, ne_eqb code 2 b, ne_eqb code 3 c)
        ]
      ]
    ]

-- the bytes of a name that shares k bytes with the one before, and of those after it
name_bytes_lem : (before name : List ℕ) (names : List (List ℕ)) (k size : ℕ) → length name ≡ size → k ≡ shared before name
    → length (names_from before (name ∷ names)) ≡ 3 + (size - k) + length (names_from name names)
name_bytes_lem before name names k size l e =
    let a = name_long before name names in
    let b = length-drop (shared before name) name in
    omega arith

-- ---- the first pass

-- a facility is a real
abbrev any_real : List ℕ → List (List ℕ) → Bool
any_real names rows = any (λ f. is_real f.kind) (map (facility_of names) rows)

-- f rows are allowed and measured, the last of which has its name at `before`; with what is left they give what the whole gives
pub record Measuring (rows : List (List ℕ)) (names : List ℕ) (size memory : ℕ) (real : Bool) (before held f : ℕ) : Type 0 where
  pub allowed : facilities_allowed names (drop f rows) ≡ facilities_allowed names rows
  pub bytes : size + length (names_from (part names before held) (names_in names (drop f rows))) ≡ length (names_from [] (names_in names rows))
  pub sum : memory + memory_of (names_in names (drop f rows)) ≡ memory_of (names_in names rows)
  pub reals : (real || any_real names (drop f rows)) ≡ any_real names rows
  pub inside : before + held ≤ length names
  pub size_most : size ≤ 1026 * f
  pub memory_most : memory ≤ 1024 * f
  pub upto : f ≤ length rows

-- no row is measured yet
pub measure_begun : (rows : List (List ℕ)) (names : List ℕ) → Measuring rows names 0 0 false 0 0 0
unfolding part
measure_begun rows names =
    record {
      allowed = refl;
      bytes = omega arith;
      sum = omega arith;
      reals = refl;
      inside = omega arith;
      size_most = omega arith;
      memory_most = omega arith;
      upto = omega arith;
    }

-- row f and those after it
pub rows_next : (rows : List (List ℕ)) (f : ℕ) → f < length rows → drop f rows ≡ get_or rows f [] ∷ drop (f + 1) rows
rows_next rows f h = let e : f + 1 ≡ suc f = omega arith in rw e (drop-cons rows f [] h)

-- none is left
pub rows_none : (rows : List (List ℕ)) (f : ℕ) → f ≤ length rows → length rows ≤ f → drop f rows ≡ []
rows_none rows f h k = let e : f ≡ length rows = omega arith in rw e (drop-length rows)

module _ (rows : List (List ℕ)) (names : List ℕ) (f : ℕ) (h : f < length rows) where
  -- whether row f and those after it are allowed
  allowed_next : facilities_allowed names (drop f rows) ≡ (row_allowed names (get_or rows f []) && facilities_allowed names (drop (f + 1) rows))
  unfolding facilities_allowed all
  allowed_next = rw (rows_next rows f h)

  -- their names
  names_next : names_in names (drop f rows) ≡ part names (get_or (get_or rows f []) 0 0) (get_or (get_or rows f []) 1 0) ∷ names_in names (drop (f + 1) rows)
  unfolding facility_of
  names_next = rw (rows_next rows f h)

  -- whether one is a real
  real_next : any_real names (drop f rows) ≡ (eqb (get_or (get_or rows f []) 2 0) 2 || any_real names (drop (f + 1) rows))
  unfolding facility_of any
  real_next = rw (rows_next rows f h, code_is_real (get_or (get_or rows f []) 2 0))

module _ {rows : List (List ℕ)} {names : List ℕ} {size memory : ℕ} {real : Bool} {before held f : ℕ} (w : Measuring rows names size memory real before held f) where
  module _ (h : f < length rows) {ok : Bool} (eo : ok ≡ row_allowed names (get_or rows f [])) where
    -- a row is not allowed
    pub measure_stop : ok ≡ false → facilities_allowed names rows ≡ false
    measure_stop n =
        let bad : row_allowed names (get_or rows f []) ≡ false = sym eo ∙ n in
        let none : false ≡ facilities_allowed names rows = rw (bad) at (sym (allowed_next rows names f h) ∙ w.allowed) in
        sym none

    -- a row that is allowed keeps what is asked of its name
    pub kept_here : ok ≡ true → RowKept names (get_or rows f [])
    kept_here n = row_kept names (get_or rows f []) (sym eo ∙ n)

    -- and is measured
    pub measure_turn : ok ≡ true → {k : ℕ} → k ≡ shared (part names before held) (part names (get_or (get_or rows f []) 0 0) (get_or (get_or rows f []) 1 0))
        → Measuring rows names (size + (3 + (get_or (get_or rows f []) 1 0 - k))) (memory + (get_or (get_or rows f []) 1 0 + 1)) (real || eqb (get_or (get_or rows f []) 2 0) 2)
        (get_or (get_or rows f []) 0 0) (get_or (get_or rows f []) 1 0) (f + 1)
    unfolding memory_of
    measure_turn n {k} ek =
        let row : List ℕ = get_or rows f [] in
        let name : List ℕ = part names (get_or row 0 0) (get_or row 1 0) in
        let rest : List (List ℕ) = names_in names (drop (f + 1) rows) in
        let good : row_allowed names row ≡ true = sym eo ∙ n in
        let kept = row_kept names row good in
        let long : length name ≡ get_or row 1 0 = part_long names (get_or row 0 0) (get_or row 1 0) kept.inside in
        let a : facilities_allowed names (drop (f + 1) rows) ≡ facilities_allowed names rows = rw good at (sym (allowed_next rows names f h) ∙ w.allowed) in
        let b = rw (names_next rows names f h) at w.bytes in
        let bytes = name_bytes_lem (part names before held) name rest k (get_or row 1 0) long ek in
        let m : memory + (length name + 1 + memory_of rest) ≡ memory_of (names_in names rows) = rw (names_next rows names f h) at w.sum in
        let r = rw (real_next rows names f h) at w.reals in
        let s = w.size_most in
        let t = w.memory_most in
        let l = kept.short in
        record {
          allowed = a;
          bytes = omega (arith, b);
          sum = omega arith;
          reals = or_assoc real (eqb (get_or row 2 0) 2) (any_real names (drop (f + 1) rows)) ∙ r;
          inside = kept.inside;
          size_most = omega arith;
          memory_most = omega arith;
          upto = omega arith;
        }

  -- all rows are measured
  pub measure_ended : length rows ≤ f → FacilitiesFound names rows (record { size = size; memory = memory; real = real })
  unfolding facilities_allowed all any memory_of names_from
  measure_ended h =
      let none = rows_none rows f w.upto h in
      let b : size + 0 ≡ length (names_from [] (names_in names rows)) = rw none at w.bytes in
      let m : memory + 0 ≡ memory_of (names_in names rows) = rw none at w.sum in
      let r : (real || false) ≡ any_real names rows = rw none at w.reals in
      record {
        sound = sym (rw none at w.allowed);
        size = sym (add-zero size) ∙ b;
        memory = sym (add-zero memory) ∙ m;
        real = sym (or-false real) ∙ r;
        size_most = omega (arith, w.size_most);
        memory_most = omega (arith, w.memory_most);
      }

-- ---- all names

-- f names are put, the last of which stands at `before` in the pool
pub record NamesPut (rows : List (List ℕ)) (names b : List ℕ) (at : ℕ) (b' : List ℕ) (p before held f : ℕ) : Type 0 where
  pub filling : Filling b at (names_from [] (names_in names rows)) (names_from (part names before held) (names_in names (drop f rows))) b' p
  pub allowed : facilities_allowed names (drop f rows) ≡ true
  pub inside : before + held ≤ length names
  pub upto : f ≤ length rows

-- no name is put yet
pub names_begun : (rows : List (List ℕ)) (names b : List ℕ) (at : ℕ) → facilities_allowed names rows ≡ true
    → at + length (names_from [] (names_in names rows)) ≤ length b → NamesPut rows names b at b at 0 0 0
unfolding part
names_begun rows names b at a h = record { filling = fill_begun b at (names_from [] (names_in names rows)) h; allowed = a; inside = omega arith; upto = omega arith }

-- what is asked where the next name is put
pub record NameNext (names row b' : List ℕ) (p k : ℕ) : Type 0 where
  pub part_of : k ≤ get_or row 1 0
  pub short : get_or row 1 0 ≤ 1023
  pub inside : get_or row 0 0 + get_or row 1 0 ≤ length names
  pub room : p + 3 + (get_or row 1 0 - k) ≤ length b'

module _ {rows : List (List ℕ)} {names b : List ℕ} {at : ℕ} {b' : List ℕ} {p before held f : ℕ} (w : NamesPut rows names b at b' p before held f) where
  module _ (h : f < length rows) where
    -- the row is allowed, and so are those after it
    both_allowed : (row_allowed names (get_or rows f []) ≡ true) × (facilities_allowed names (drop (f + 1) rows) ≡ true)
    both_allowed = and_both (row_allowed names (get_or rows f [])) (facilities_allowed names (drop (f + 1) rows)) (sym (allowed_next rows names f h) ∙ w.allowed)

    -- the row keeps what is asked of its name
    pub name_kept : RowKept names (get_or rows f [])
    name_kept = row_kept names (get_or rows f []) both_allowed.0

    module _ {k : ℕ} (ek : k ≡ shared (part names before held) (part names (get_or (get_or rows f []) 0 0) (get_or (get_or rows f []) 1 0))) where
      -- its bytes and those of the names after it
      rest_is : names_from (part names before held) (names_in names (drop f rows))
          ≡ with_prefix k (part names (get_or (get_or rows f []) 0 0) (get_or (get_or rows f []) 1 0))
          ++ names_from (part names (get_or (get_or rows f []) 0 0) (get_or (get_or rows f []) 1 0)) (names_in names (drop (f + 1) rows))
      unfolding names_from name_bytes
      rest_is = rw (names_next rows names f h, ek)

      -- how many they are
      bytes_long : length (with_prefix k (part names (get_or (get_or rows f []) 0 0) (get_or (get_or rows f []) 1 0))) ≡ 3 + (get_or (get_or rows f []) 1 0 - k)
      bytes_long =
          let row : List ℕ = get_or rows f [] in
          let name : List ℕ = part names (get_or row 0 0) (get_or row 1 0) in
          let long : length name ≡ get_or row 1 0 = part_long names (get_or row 0 0) (get_or row 1 0) name_kept.inside in
          omega (arith, length-append (big_endian 2 k) (drop k name ++ (0 ∷ [])), length-append (drop k name) (0 ∷ []), length-drop k name, length_big_endian 2 k)

      -- there is room for it
      pub name_next : k ≤ get_or (get_or rows f []) 1 0 → NameNext names (get_or rows f []) b' p k
      name_next l =
          let row : List ℕ = get_or rows f [] in
          let name : List ℕ = part names (get_or row 0 0) (get_or row 1 0) in
          let e = ap length rest_is in
          let a = length-append (with_prefix k name) (names_from name (names_in names (drop (f + 1) rows))) in
          let n = bytes_long in
          let r = w.filling.room in
          let m = w.filling.long in
          record { part_of = l; short = name_kept.short; inside = name_kept.inside; room = omega arith }

      -- it is put
      pub name_turn : {b'' : List ℕ} → b'' ≡ placed b' p (with_prefix k (part names (get_or (get_or rows f []) 0 0) (get_or (get_or rows f []) 1 0)))
          → NamesPut rows names b at b'' (p + (3 + (get_or (get_or rows f []) 1 0 - k))) (get_or (get_or rows f []) 0 0) (get_or (get_or rows f []) 1 0) (f + 1)
      name_turn {b''} e =
          let row : List ℕ = get_or rows f [] in
          let name : List ℕ = part names (get_or row 0 0) (get_or row 1 0) in
          let text : List ℕ = names_from [] (names_in names rows) in
          let rest : List ℕ = names_from name (names_in names (drop (f + 1) rows)) in
          let q : ℕ = p + (3 + (get_or row 1 0 - k)) in
          let w' : Filling b at text (with_prefix k name ++ rest) b' p = rw rest_is at w.filling in
          let n = bytes_long in
          record {
            filling = fill_turn b at text (with_prefix k name) rest b' p w' b'' e q (omega arith);
            allowed = both_allowed.1;
            inside = name_kept.inside;
            upto = omega arith;
          }

  -- all are put
  pub names_ended : length rows ≤ f → b' ≡ placed b at (names_from [] (names_in names rows))
  unfolding names_from
  names_ended h =
      let none = rows_none rows f w.upto h in
      fill_ended b at (names_from [] (names_in names rows)) b' p (rw none at w.filling)
