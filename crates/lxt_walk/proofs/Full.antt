-- The full list of an accepted file: each change of each root asked for once, allowed, and no two offsets equal.
use Prim.Native.Nat.{ℕ, zero, suc, ◌+◌, ◌≤◌, ◌<◌}
use native.Mathlib.Omega.{arith}
use mathlib.Core.Path.{◌≡◌, refl, sym, ◌∙◌}
use mathlib.Core.Bool.{Bool, true, not}
use mathlib.Core.List.{List, [], ◌∷◌, append-nil}
use lib.ListN.{length, get_or}
use native.Mathlib.Decide.{ℕ_discrete}
use lib.Dec.{leb, eqb}
use borrow.Author.Tests.{leb-true, eqb-true, eq-eqb, ne_eqb}
use Rattle.lxt_format.specs.Basics.{range, any, select, joined}
use Rattle.lxt_format.specs.BasicsLaws.{on_test, on_zero, and_both}
use Rattle.lxt_format.specs.Sections.{facility_count, end_of}
use Rattle.lxt_format.specs.Geometry.{is_alias, root_of, roots_of, sync_of}
use Rattle.lxt_format.specs.Changes.{previous_of}
use Rattle.lxt_format.proofs.ChangesLaws.{previous_lt}
use Rattle.lxt_format.proofs.JudgeLaws.{accepted}
use Rattle.lxt_format.specs.Judge.{chains_refusal, changes_of, all_changes, end_at, file_refusal}
use Rattle.lxt_format.specs.Walk.{asks, sort, full_list}
use Rattle.lxt_format.specs.declared.Pair.{Pair}
use Rattle.lxt_chains.specs.Pending.{Each, pair_of, chain_pairs, stacked, Allowed}
use Rattle.lxt_chains.proofs.Lists.{each_map, each_range, each_select, each_selected}
use Rattle.lxt_chains.proofs.Sorted.{Below, below_weaken, insert_first, each_sort}
use Rattle.lxt_chains.proofs.Step.{changes_none, changes_more}
use Rattle.lxt_chains.proofs.Bridge.{all_roots}
use Rattle.lxt_chains.proofs.Check17.{Fits}
use Rattle.lxt_chains.proofs.Accepted.{all_allowed, allowed_fits, apart_stacked}
use Rattle.lxt_format.proofs.WalkLaws.{asked_root}
use Rattle.lxt_walk.proofs.Wider.{pairs_of, below_pairs, pairs_chosen}

-- by strictly falling offset
pub data Falling : List Pair → Type 0 where
  none : Falling []
  more : {p : Pair} {l : List Pair} → Below p.offset l → Falling l → Falling (p ∷ l)

-- an offset of a list whose offsets are below b
below_at : {b : ℕ} {l : List Pair} (d : Pair) → Below b l → (i : ℕ) → i < length l → (get_or l i d).offset < b
below_at d Below.none i h = absurd (omega arith)
below_at d (Below.both k t) zero h = k
below_at d (Below.both k t) (suc i) h = below_at d t i (omega arith)

-- of two pairs of such a list the later has the lower offset
pub falling_at : {l : List Pair} (d : Pair) → Falling l → (i j : ℕ) → i < j → j < length l → (get_or l j d).offset < (get_or l i d).offset
falling_at d Falling.none i j h k = absurd (omega arith)
falling_at d (Falling.more b t) i zero h k = absurd (omega arith)
falling_at d (Falling.more b t) zero (suc j) h k = below_at d b j (omega arith)
falling_at d (Falling.more b t) (suc i) (suc j) h k = falling_at d t i j (omega arith) (omega arith)

-- to leave pairs out keeps the others falling
falling_pairs : (c : ℕ → Bool) {l : List Pair} → Falling l → Falling (pairs_of c l)
unfolding select
falling_pairs c Falling.none = Falling.none
falling_pairs c (Falling.more {p = p} b t) =
    let rest = falling_pairs c t in on_test (c p.number) (λ e. rw e (Falling.more (below_pairs c b) rest)) (λ e. rw e rest)

-- a stack falls
module _ (end : Pair → ℕ) where
  -- a stack lies below its bound
  stacked_below : {T bound : ℕ} {l : List Pair} → Each (Fits end T) l → stacked end bound l ≡ true → Below bound l
  unfolding stacked
  stacked_below Each.none h = Below.none
  stacked_below {T} {bound} (Each.both {x = p} {l = l} f t) h =
      let b = and_both (leb (end p) bound) (stacked end p.offset l) h in
      let here : end p ≤ bound = leb-true _ _ b.0 in
      Below.both {p = p} (omega arith) (below_weaken (omega arith) (stacked_below t b.1))

  -- and falls
  pub stacked_falling : {T : ℕ} {l : List Pair} (bound : ℕ) → Each (Fits end T) l → stacked end bound l ≡ true → Falling l
  unfolding stacked
  stacked_falling bound Each.none h = Falling.none
  stacked_falling bound (Each.both {x = p} {l = l} f t) h =
      let b = and_both (leb (end p) bound) (stacked end p.offset l) h in
      Falling.more (stacked_below t b.1) (stacked_falling p.offset t b.1)

module _ (s asked : List ℕ) where
  -- the full list is that of all changes of the file, without the pairs of roots that are not asked for
  pub full_among : pairs_of (asks s asked) (sort (all_changes s)) ≡ full_list s asked
  unfolding all_changes roots_of full_list
  full_among =
      pairs_chosen (asks s asked) s (λ f. not (is_alias s f))
      (each_range 0 (facility_count s) (λ f a b e. let z = asked_root s asked f (omega arith) e in rw z))

  -- each of its pairs is of a root asked for
  pub full_asked : Each (λ p. asks s asked p.number ≡ true) (full_list s asked)
  full_asked = rw full_among at (each_selected (λ p. asks s asked p.number) (sort (all_changes s)))

  -- where 15 and 16 are not given, each of them is allowed
  pub full_allowed : chains_refusal s ≡ 0 → Each (Allowed s) (full_list s asked)
  full_allowed h = rw full_among at (each_select (λ p. asks s asked p.number) (each_sort (all_allowed s h)))

  -- "in an accepted file no two offsets are equal"
  pub full_falling : file_refusal s ≡ 0 → Falling (full_list s asked)
  full_falling h =
      let a = accepted s h in
      let fits : Each (Fits (end_at s) (end_of s)) (sort (all_changes s)) = each_sort (each_map (λ p k. allowed_fits s k) (all_allowed s a.chains)) in
      let piled : stacked (end_at s) (end_of s) (sort (all_changes s)) ≡ true = rw (all_roots s) (sym (apart_stacked s a.chains) ∙ a.apart) in
      rw full_among at (falling_pairs (asks s asked) (stacked_falling (end_at s) (end_of s) fits piled))

-- ---- "gives its chain once"

-- one of a range passes a test
range_any : (p : ℕ → Bool) (i k j : ℕ) → i ≤ j → j < i + k → p j ≡ true → any p (range i k) ≡ true
unfolding any range
range_any p i zero j a b h = absurd (omega arith)
range_any p i (suc k) j a b h =
    let rest : i < j → any p (range (suc i) k) ≡ true = λ l. range_any p (suc i) k j l (omega arith) h in
    elim (ℕ_discrete i j) [
      | yes e ↦ rw (e, h)
      | no n ↦ on_test (p i) (λ e. rw e) (λ e. rw e (rest (omega arith)))
    ]

-- one number among those from i on
select_none : (f i k : ℕ) → f < i → select (λ g. eqb g f) (range i k) ≡ []
unfolding select range
select_none f i zero h = refl
select_none f i (suc k) h = rw (ne_eqb i f (λ e. omega arith), select_none f (suc i) k (omega arith))

select_one : (f i k : ℕ) → i ≤ f → f < i + k → select (λ g. eqb g f) (range i k) ≡ f ∷ []
unfolding select range
select_one f i zero a b = absurd (omega arith)
select_one f i (suc k) a b =
    let rest : i < f → select (λ g. eqb g f) (range (suc i) k) ≡ f ∷ [] = λ h. select_one f (suc i) k h (omega arith) in
    elim (ℕ_discrete i f) [
      | yes e ↦ rw (eq-eqb i f e, select_none f (suc i) k (omega arith), e)
      | no n ↦ rw (ne_eqb i f n) (rest (omega arith))
    ]

module _ (s : List ℕ) where
  -- a chain falls, so it is sorted already; k bounds its offsets
  chain_sorted : (k f o : ℕ) → o ≤ k → Below (suc o) (chain_pairs s f o) × (sort (chain_pairs s f o) ≡ chain_pairs s f o)
  unfolding sort
  chain_sorted zero f o b = let e : o ≡ 0 = omega arith in rw (e, changes_none s f) (Below.none, refl)
  chain_sorted (suc k) f o b =
      let rest : 0 < o → Below (suc (previous_of s o)) (chain_pairs s f (previous_of s o)) × (sort (chain_pairs s f (previous_of s o)) ≡ chain_pairs s f (previous_of s o)) =
      λ p. chain_sorted k f (previous_of s o) (omega (arith, previous_lt s o p)) in
      on_zero o (λ e. rw (e, changes_none s f) (Below.none, refl))
      (λ p.
      let r = rest p in
      let low : Below (suc o) (chain_pairs s f (previous_of s o)) = below_weaken (omega (arith, previous_lt s o p)) r.0 in
      rw (changes_more s f o p) (Below.both {p = pair_of f o} (omega arith) low, rw r.1 (insert_first (pair_of f o) low)))

  -- so the changes of one root are sorted already
  changes_sorted : (f : ℕ) → sort (joined (changes_of s) (f ∷ [])) ≡ changes_of s f
  unfolding joined changes_of chain_pairs
  changes_sorted f = rw append-nil (chain_sorted (sync_of s f) f (sync_of s f) (omega arith)).1

  -- the pairs of a root asked for, in the full list, are its chain: each of its changes once, the newest first
  pub full_chain : (asked : List ℕ) (f : ℕ) → f < facility_count s → asks s asked f ≡ true
      → select (λ p. eqb p.number f) (full_list s asked) ≡ changes_of s f
  unfolding full_list
  full_chain asked f below h =
      pairs_chosen (λ g. eqb g f) s (asks s asked) (each_range 0 (facility_count s) (λ g a b e. let q : g ≡ f = eqb-true g f e in rw q h))
      ∙ rw (select_one f 0 (facility_count s) (omega arith) (omega arith)) (changes_sorted f)

  -- "an alias asks for its root"
  pub alias_asks : (asked : List ℕ) (g : ℕ) → g < facility_count s → (get_or asked g 0 ≡ 0 → ⊥) → asks s asked (root_of s g) ≡ true
  unfolding asks
  alias_asks asked g below h = range_any _ 0 (facility_count s) g (omega arith) (omega arith) (rw (ne_eqb (get_or asked g 0) 0 h, eq-eqb (root_of s g) (root_of s g) refl))
