-- Check 17 by neighbours: no two changes of a list share a byte exactly where, by falling offset, each ends at or below the start of the one
-- before it.
use Prim.Native.Nat.{ℕ, suc, ◌≤◌, ◌<◌}
use native.Mathlib.Omega.{arith}
use mathlib.Core.Path.{◌≡◌, refl, sym, ◌∙◌}
use mathlib.Core.Bool.{Bool, true, false, ◌&&◌, or_comm, true≢false}
use mathlib.Core.List.{List, [], ◌∷◌}
use lib.Dec.{leb}
use borrow.Author.Tests.{leb-true, le-leb, lt-leb}
use Rattle.lxt_format.specs.Basics.{all}
use Rattle.lxt_format.specs.BasicsLaws.{on_test, and_both}
use Rattle.lxt_format.specs.Judge.{apart, pairwise}
use Rattle.lxt_format.specs.Walk.{insert, sort, top, high, step}
use Rattle.lxt_format.specs.declared.Pair.{Pair}
use Rattle.lxt_chains.specs.Pending.{Each, pair_of, pending_changes, stacked}
use Rattle.lxt_chains.proofs.Lists.{each_map, each_both, each_all, all_each, all_same}
use Rattle.lxt_chains.proofs.Sorted.{Below, Sorted, sort_sorted, each_sort}
use Rattle.lxt_chains.proofs.Step.{sorted_step}

-- a change ends above its start and at or below T
pub record Fits (end : Pair → ℕ) (T : ℕ) (p : Pair) : Type 0 where
  pub starts : p.offset < end p
  pub ends : end p ≤ T

-- ---- a test of any two is the same in any order

-- four tests in another order
and_swap : (a b c d : Bool) → ((a && b) && (c && d)) ≡ ((a && c) && (b && d))
and_swap false b c d = refl
and_swap true true c d = refl
and_swap true false true d = refl
and_swap true false false d = refl

module _ (q : Pair → Bool) where
  -- a test of each pair
  all_insert : (p : Pair) (l : List Pair) → all q (insert p l) ≡ (q p && all q l)
  unfolding all insert
  all_insert p [] = refl
  all_insert p (x ∷ l) =
      let ih = all_insert p l in
      on_test (leb x.offset p.offset) (λ e. rw e) (λ e. rw (e, ih) (and_left (q x) (q p) (all q l)))
    where
      and_left : (a b c : Bool) → (a && (b && c)) ≡ (b && (a && c))
      and_left true b c = refl
      and_left false true c = refl
      and_left false false c = refl

  -- the same of a sorted list
  pub all_sort : (l : List Pair) → all q (sort l) ≡ all q l
  unfolding all sort
  all_sort [] = refl
  all_sort (p ∷ l) = rw (all_insert p (sort l), all_sort l)

module _ (r : Pair → Pair → Bool) (either : (p q : Pair) → r p q ≡ r q p) where
  -- a test of any two pairs that does not ask which comes first
  pairwise_insert : (p : Pair) (l : List Pair) → pairwise r (insert p l) ≡ (all (r p) l && pairwise r l)
  unfolding pairwise all insert
  pairwise_insert p [] = refl
  pairwise_insert p (x ∷ l) =
      let ih = pairwise_insert p l in
      on_test (leb x.offset p.offset) (λ e. rw e)
      (λ e. rw (e, all_insert (r x) p l, ih, either x p) (and_swap (r p x) (all (r x) l) (all (r p) l) (pairwise r l)))

  -- the same of a sorted list
  pub pairwise_sort : (l : List Pair) → pairwise r (sort l) ≡ pairwise r l
  unfolding pairwise sort
  pairwise_sort [] = refl
  pairwise_sort (p ∷ l) = rw (pairwise_insert p (sort l), all_sort (r p) l, pairwise_sort l)

-- ---- check 17

module _ (end : Pair → ℕ) where
  -- which of two changes comes first does not matter
  apart_either : (p q : Pair) → apart end p q ≡ apart end q p
  unfolding apart
  apart_either p q = or_comm (leb (end p) q.offset) (leb (end q) p.offset)

  -- a change is apart from one that is not above it exactly where that one ends at or below its start
  apart_under : (p : Pair) {l : List Pair} → p.offset < end p → Below (suc p.offset) l
      → Each (λ q. apart end p q ≡ leb (end q) p.offset) l
  unfolding apart
  apart_under p h Below.none = Each.none
  apart_under p h (Below.both {p = q} k t) = Each.both {x = q} (rw (lt-leb (end p) q.offset (omega arith))) (apart_under p h t)

  -- in a stack all ends are at or below the bound
  stacked_upto : {T bound : ℕ} {l : List Pair} → Each (Fits end T) l → stacked end bound l ≡ true → Each (λ q. end q ≤ bound) l
  unfolding stacked
  stacked_upto Each.none h = Each.none
  stacked_upto {T} {bound} (Each.both {x = p} {l = l} f t) h =
      let b = and_both (leb (end p) bound) (stacked end p.offset l) h in
      let here : end p ≤ bound = leb-true _ _ b.0 in
      Each.both here (each_map (λ q k. omega arith) (stacked_upto t b.1))

  -- of a sorted list, any two changes are apart exactly where neighbours are
  sorted_stacked : {T : ℕ} {l : List Pair} → Sorted l → Each (Fits end T) l → pairwise (apart end) l ≡ stacked end T l
  unfolding pairwise stacked
  sorted_stacked Sorted.none Each.none = refl
  sorted_stacked {T} (Sorted.more {p = p} {l = l} b s) (Each.both f t) =
      let rest : Each (Fits end p.offset) l → pairwise (apart end) l ≡ stacked end p.offset l = λ g. sorted_stacked s g in
      let under : all (apart end p) l ≡ all (λ q. leb (end q) p.offset) l = all_same _ _ (apart_under p f.starts b) in
      on_test (all (λ q. leb (end q) p.offset) l)
      (λ e.
      let fits : Each (Fits end p.offset) l =
      each_map (λ q k. record { starts = k.0.starts; ends = leb-true _ _ k.1 }) (each_both t (each_all _ l e)) in
      rw (under, e, le-leb (end p) T f.ends) (rest fits))
      (λ e.
      let none : stacked end p.offset l ≡ false =
      on_test (stacked end p.offset l) (λ k. absurd (true≢false (sym (all_each _ (each_map (λ q h. le-leb _ _ h) (stacked_upto t k))) ∙ e))) (λ k. k) in
      rw (under, e, le-leb (end p) T f.ends, none))

  -- no two changes of a list share a byte exactly where its sorted changes are stacked below T
  pub check_17 : (T : ℕ) (l : List Pair) → Each (Fits end T) l → pairwise (apart end) l ≡ stacked end T (sort l)
  check_17 T l h = sym (pairwise_sort (apart end) apart_either l) ∙ sorted_stacked (sort_sorted l) (each_sort h)

-- ---- going down the sorted changes of pending offsets

-- what holds of each change that is left holds of the highest, and of each that a step leaves
pub each_step : {P : Pair → Type 0} (s os : List ℕ) → 0 < high os → Each P (sort (pending_changes s 0 os))
    → P (pair_of (top os) (high os)) × Each P (sort (pending_changes s 0 (step s os)))
each_step {P} s os h a = parts (rw (sorted_step s os h) at a)
  where
    parts : {p : Pair} {l : List Pair} → Each P (p ∷ l) → P p × Each P l
    parts (Each.both k t) = (k, t)
