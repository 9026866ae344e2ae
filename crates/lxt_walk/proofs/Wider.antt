-- "If a second walk over the same file asks for every root that a first asks for, the second's full list without the pairs of roots that the
-- first does not ask for is the first's full list."
use Prim.Native.Nat.{ℕ, ◌<◌, suc-le-suc}
use native.Mathlib.Omega.{arith}
use mathlib.Core.Path.{◌≡◌, refl}
use mathlib.Core.Bool.{Bool, true, false}
use mathlib.Core.List.{List, [], ◌∷◌, map}
use lib.Dec.{leb}
use borrow.Author.Tests.{leb-true, leb-false}
use Rattle.lxt_format.specs.Basics.{select, joined}
use Rattle.lxt_format.specs.BasicsLaws.{on_test}
use Rattle.lxt_format.specs.Sections.{facility_count}
use Rattle.lxt_format.specs.Geometry.{sync_of}
use Rattle.lxt_format.specs.Changes.{chain_of}
use Rattle.lxt_format.specs.Judge.{changes_of}
use Rattle.lxt_format.specs.Walk.{asks, insert, sort, full_list}
use Rattle.lxt_format.specs.declared.Pair.{Pair}
use Rattle.lxt_chains.specs.Pending.{pair_of, Each}
use Rattle.lxt_chains.proofs.Lists.{select_append, each_range}
use Rattle.lxt_chains.proofs.Sorted.{Below, below_weaken, insert_first, insert_later, Sorted, sort_sorted}

-- the pairs of the facilities of which a test holds
abbrev pub pairs_of : (ℕ → Bool) → List Pair → List Pair
pairs_of c l = select (λ p. c p.number) l

module _ (c : ℕ → Bool) where
  -- what is below a bound stays below it
  pub below_pairs : {b : ℕ} {l : List Pair} → Below b l → Below b (pairs_of c l)
  unfolding select
  below_pairs Below.none = Below.none
  below_pairs (Below.both {p = p} h t) =
      let rest = below_pairs t in on_test (c p.number) (λ e. rw e (Below.both h rest)) (λ e. rw e rest)

  -- a pair that is left out may be put in or not
  insert_out : (p : Pair) (l : List Pair) → c p.number ≡ false → pairs_of c (insert p l) ≡ pairs_of c l
  unfolding select insert
  insert_out p [] h = rw h
  insert_out p (q ∷ l) h = let rest = insert_out p l h in on_test (leb q.offset p.offset) (λ e. rw (e, h)) (λ e. rw (e, rest))

  -- a pair that stays may be put in before or after others are left out
  insert_in : (p : Pair) {l : List Pair} → c p.number ≡ true → Sorted l → pairs_of c (insert p l) ≡ insert p (pairs_of c l)
  unfolding select insert
  insert_in p h Sorted.none = rw h
  insert_in p h (Sorted.more {p = q} {l = l} b s) =
      let ih = insert_in p h s in
      on_test (leb q.offset p.offset)
      (λ e. rw (e, h, insert_first p (below_pairs (Below.both {p = q} (suc-le-suc (leb-true _ _ e)) (below_weaken (suc-le-suc (leb-true _ _ e)) b)))))
      (λ e. on_test (c q.number) (λ k. rw (e, k, ih, insert_later p q (pairs_of c l) (leb-false _ _ e))) (λ k. rw (e, k, ih)))

  -- to sort and then leave pairs out is to leave them out first
  pub pairs_sort : (l : List Pair) → pairs_of c (sort l) ≡ sort (pairs_of c l)
  unfolding sort select
  pairs_sort [] = refl
  pairs_sort (p ∷ l) =
      let ih = pairs_sort l in
      on_test (c p.number) (λ e. rw (e, insert_in p e (sort_sorted l), ih)) (λ e. rw (e, insert_out p (sort l) e, ih))

  -- of the chain of a facility that is kept all pairs stay
  chain_in : (f : ℕ) (os : List ℕ) → c f ≡ true → pairs_of c (map (λ o. pair_of f o) os) ≡ map (λ o. pair_of f o) os
  unfolding select
  chain_in f [] h = refl
  chain_in f (o ∷ os) h = rw (h, chain_in f os h)

  -- of another none
  chain_out : (f : ℕ) (os : List ℕ) → c f ≡ false → pairs_of c (map (λ o. pair_of f o) os) ≡ []
  unfolding select
  chain_out f [] h = refl
  chain_out f (o ∷ os) h = rw (h, chain_out f os h)

  module _ (s : List ℕ) (d : ℕ → Bool) where
    -- of the chains of some facilities, those of fewer
    chains_in : {fs : List ℕ} → Each (λ f. c f ≡ true → d f ≡ true) fs
        → pairs_of c (joined (changes_of s) (select d fs)) ≡ joined (changes_of s) (select c fs)
    unfolding joined select changes_of
    chains_in Each.none = refl
    chains_in (Each.both {x = f} {l = fs} h t) =
        let rest = chains_in t in
        on_test (c f)
        (λ e. rw (e, h e, select_append, rest, chain_in f (chain_of s (sync_of s f)) e))
        (λ e. on_test (d f) (λ k. rw (e, k, select_append, rest, chain_out f (chain_of s (sync_of s f)) e)) (λ k. rw (e, k, rest)))

    -- of the sorted changes of some facilities, those of fewer
    pub pairs_chosen : {fs : List ℕ} → Each (λ f. c f ≡ true → d f ≡ true) fs
        → pairs_of c (sort (joined (changes_of s) (select d fs))) ≡ sort (joined (changes_of s) (select c fs))
    pairs_chosen {fs} h = rw (pairs_sort, chains_in h)

-- a wider walk's full list, without the pairs of roots that the narrower walk does not ask for, is the narrower walk's
pub wider : (s first second : List ℕ)
    → ((f : ℕ) → f < facility_count s → asks s first f ≡ true → asks s second f ≡ true)
    → select (λ p. asks s first p.number) (full_list s second) ≡ full_list s first
unfolding full_list
wider s first second h =
    pairs_chosen (asks s first) s (asks s second) (each_range 0 (facility_count s) (λ f a b. h f (omega arith)))
