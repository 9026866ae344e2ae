-- The walk record: its pairs, and check 20 of a record that a walk left.
use Prim.Native.Nat.{ℕ, zero, suc, ◌+◌, ◌*◌, ◌-◌, ◌≤◌, ◌<◌}
use native.Mathlib.Nat.{zero-add}
use native.Mathlib.Omega.{arith}
use mathlib.Core.Path.{◌≡◌, refl, sym, ap, ◌∙◌}
use mathlib.Core.Bool.{true}
use mathlib.Core.List.{List, [], ◌∷◌, ◌++◌, map}
use lib.ListN.{length, get_or, drop, length-append, length-drop, get_or-append}
use lib.Seq.{take_at, drop_at, get_or-append-add, get_or-drop}
use lib.Dec.{eqb}
use borrow.Author.Tests.{eqb-true, eq-eqb, ne_eqb}
use Rattle.lxt_format.specs.BasicsLaws.{on_test, on_zero, range_all}
use Rattle.lxt_format.specs.Sections.{facility_count}
use Rattle.lxt_format.specs.Walk.{sort, numbered, with_offsets, offsets_of, pair_allowed, record_allowed, flat}
use Rattle.lxt_format.specs.declared.Pair.{Pair}
use Rattle.lxt_chains.specs.Pending.{pair_of, pending_changes, first_of, Each, Allowed}
use Rattle.lxt_walk.proofs.Handed.{pending_first}

-- ---- pairs in a buffer

-- two numbers for each
pub length_flat : (l : List Pair) → length (flat l) ≡ 2 * length l
unfolding flat
length_flat [] = refl
length_flat (p ∷ l) = let ih = length_flat l in omega arith

-- of two lists laid one after the other
pub flat_append : (l m : List Pair) → flat (l ++ m) ≡ flat l ++ flat m
unfolding flat
flat_append [] m = refl
flat_append (p ∷ l) m = ap (λ r. p.number ∷ (p.offset ∷ r)) (flat_append l m)

-- ---- pairs by number

-- as many pairs as offsets
pub length_numbered : (i : ℕ) (os : List ℕ) → length (numbered i os) ≡ length os
unfolding numbered
length_numbered i [] = refl
length_numbered i (o ∷ os) = ap suc (length_numbered (suc i) os)

-- pair f has its number and its offset
pub get_d_numbered : (i : ℕ) (os : List ℕ) (f : ℕ) (d : Pair) → f < length os → get_or (numbered i os) f d ≡ pair_of (i + f) (get_or os f 0)
unfolding numbered
get_d_numbered i [] f d h = absurd (omega arith)
get_d_numbered i (o ∷ os) zero d h = let e : i ≡ i + 0 = omega arith in ap (λ n. pair_of n o) e
get_d_numbered i (o ∷ os) (suc f) d h =
    let e : suc i + f ≡ i + suc f = omega arith in get_d_numbered (suc i) os f d (omega arith) ∙ ap (λ n. pair_of n (get_or os f 0)) e

-- the offsets of the pairs are the given ones
pub offsets_numbered : (i : ℕ) (os : List ℕ) → map (λ p. p.offset) (numbered i os) ≡ os
unfolding numbered
offsets_numbered i [] = refl
offsets_numbered i (o ∷ os) = ap (λ l. o ∷ l) (offsets_numbered (suc i) os)

-- ---- a record with given pending offsets

module _ (pairs : List Pair) (os : List ℕ) where
  -- pair f holds its number and the offset given for it
  pub with_here : (f : ℕ) (d : Pair) → f < length os → get_or (with_offsets pairs os) f d ≡ pair_of f (get_or os f 0)
  unfolding with_offsets
  with_here f d h =
      let k : f < length (numbered 0 os) = rw (length_numbered 0 os) h in
      get_or-append (numbered 0 os) _ d f k ∙ get_d_numbered 0 os f d h ∙ rw zero-add

  -- "Pairs past n stay."
  pub with_past : (f : ℕ) (d : Pair) → length os ≤ f → get_or (with_offsets pairs os) f d ≡ get_or pairs f d
  unfolding with_offsets
  with_past f d h =
      let e : f ≡ length (numbered 0 os) + (f - length os) = rw (length_numbered 0 os) (omega arith) in
      let g : length os + (f - length os) ≡ f = omega arith in
      ap (λ n. get_or (numbered 0 os ++ drop (length os) pairs) n d) e
      ∙ get_or-append-add (numbered 0 os) (drop (length os) pairs) (f - length os) d
      ∙ get_or-drop (length os) pairs (f - length os) d
      ∙ rw g

  -- the record keeps its length
  pub length_with : length os ≤ length pairs → length (with_offsets pairs os) ≡ length pairs
  unfolding with_offsets
  length_with h = rw (length-append, length_numbered 0 os, length-drop) (omega arith)

  -- its pending offsets are the given ones
  pub offsets_with : (n : ℕ) → length os ≡ n → offsets_of n (with_offsets pairs os) ≡ os
  unfolding with_offsets offsets_of
  offsets_with n h = rw (take_at (numbered 0 os) (drop (length os) pairs) n (length_numbered 0 os ∙ h)) (offsets_numbered 0 os)

  -- to give other offsets twice is to give the last ones
  pub with_again : (os' : List ℕ) → length os' ≡ length os → with_offsets (with_offsets pairs os) os' ≡ with_offsets pairs os'
  unfolding with_offsets
  with_again os' h = rw (drop_at (numbered 0 os) (drop (length os) pairs) (length os') (length_numbered 0 os ∙ sym h), h)

-- ---- check 20

-- what holds of each pair of a list holds of the first pair of a facility
pub first_in : {P : Pair → Type 0} (f : ℕ) {l : List Pair} → Each P l → 0 < first_of f l → P (pair_of f (first_of f l))
unfolding first_of
first_in f Each.none h = absurd (omega arith)
first_in {P} f (Each.both {x = p} {l = l} k t) h =
    let rest : 0 < first_of f l → P (pair_of f (first_of f l)) = λ q. first_in f t q in
    on_test (eqb p.number f) (λ e. rw (e, ← eqb-true p.number f e) k) (λ e. rw e (rest (rw e at h)))

-- a facility of which no pair stands in a list
pub first_none : (f : ℕ) {l : List Pair} → Each (λ p. p.number ≡ f → ⊥) l → first_of f l ≡ 0
unfolding first_of
first_none f Each.none = refl
first_none f (Each.both {x = p} h t) =
    let rest = first_none f t in on_test (eqb p.number f) (λ e. absurd (h (eqb-true _ _ e))) (λ e. rw (e, rest))

module _ (s : List ℕ) where
  -- check 20 of a pair whose pending offset is an allowed change
  pair_allowed_lem : (f o : ℕ) → Allowed s (pair_of f o) → pair_allowed s f (pair_of f o) ≡ true
  unfolding pair_allowed
  pair_allowed_lem f o a = rw (eq-eqb f f refl, ne_eqb o 0 (omega (arith, a.change)), a.root, a.chain)

  -- and of a pair with no pending offset
  pair_quiet : (f : ℕ) → pair_allowed s f (pair_of f 0) ≡ true
  unfolding pair_allowed
  pair_quiet f = rw (eq-eqb f f refl)

  -- a record from whose pending offsets only allowed changes follow passes check 20
  pub record_allowed_lem : (pairs : List Pair) (os : List ℕ) → length os ≡ facility_count s → Each (Allowed s) (sort (pending_changes s 0 os))
      → record_allowed s (with_offsets pairs os) ≡ true
  unfolding record_allowed
  record_allowed_lem pairs os len ok = range_all _ 0 (facility_count s) each
    where
      each : (f : ℕ) → 0 ≤ f → f < 0 + facility_count s → pair_allowed s f (get_or (with_offsets pairs os) f (pair_of 0 0)) ≡ true
      each f a b =
          let first = pending_first s f os in
          rw (with_here pairs os f (pair_of 0 0) (omega arith))
          (on_zero (get_or os f 0) (λ z. rw z (pair_quiet f))
          (λ z. pair_allowed_lem f (get_or os f 0) (rw (← first) at (first_in f ok (rw first at z)))))
