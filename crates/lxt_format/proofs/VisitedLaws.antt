-- The laws of the changes that a lookup visits, and the proofs of the claims in Visited.
use Prim.Native.Nat.{ℕ, zero, suc, ◌+◌, ◌*◌, ◌-◌, ◌/◌, ◌≤◌, ◌<◌, max}
use Rattle.std.specs.Prelude.{◌≡◌, Bool, true, false, not, ℤ, pos, negsuc, leb, ltb, eqb, if◌then◌else◌}
use Rattle.std.proofs.Math.Path.{refl}
use Rattle.std.proofs.Common.{◌∙◌, ap, le-leb, lt-ltb, le-ltb, leb-true, eq-eqb, ne_eqb}
use mathlib.Core.List.{List, [], ◌∷◌, map}
use Rattle.std.proofs.Math.ListN.{length}
use Rattle.std.specs.Int.Signed.{le_z, lt_z}
use native.Mathlib.Omega.{arith}
use Rattle.std.proofs.Math.Decide.{dec_le}
use Rattle.std.proofs.lemmas.Bool.{lt-leb}
use Rattle.lxt_format.specs.Basics.{select, first_fault}
use Rattle.lxt_format.specs.BasicsLaws.{on_test, on_zero, and_both, neither}
use Rattle.lxt_format.specs.Sections.{end_of, changes_from}
use Rattle.lxt_format.specs.Geometry.{root_of, sync_of}
use Rattle.lxt_format.specs.Times.{time_of}
use Rattle.lxt_format.specs.Changes.{Signal, delta_of, previous_of, previous_allowed, fault_at, chain_within, chain_of, chain_fault}
use Rattle.lxt_format.proofs.ChangesLaws.{previous_lt, chain_none, sound, end_after}
use Rattle.lxt_format.specs.Values.{latest_at, change_at, visited_in, visited_at}
use Rattle.lxt_format.specs.Judge.{signal_of, fault_from}
use Rattle.lxt_format.proofs.JudgeLaws.{newest_sound}
use Rattle.lxt_format.specs.Questions.{facility_refusal, value_refusal, value_asked}
use Rattle.lxt_format.proofs.ValuesLaws.{facility_sound}
use Rattle.lxt_format.specs.Visited.{VisitedMost, NoneAnswered}

-- ---- "time after t"

below_not : (m n : ℕ) → ltb m n ≡ not (leb n m)
below_not m n =
    elim (dec_le n m) [
      | yes l ↦ rw (le-leb n m l, le-ltb m n l)
      | no l ↦ (let g : m < n = omega arith in rw (lt-leb n m g, lt-ltb m n g))
    ]

-- a time is after t exactly where it is not at most t
after_not : (t a : ℤ) → lt_z t a ≡ not (le_z a t)
after_not (pos m) (pos n) = below_not m n
after_not (pos m) (negsuc n) = refl
after_not (negsuc m) (pos n) = refl
after_not (negsuc m) (negsuc n) = below_not n m

-- ---- a change more

one_more : (a b : ℕ) → suc a + b ≡ suc (a + b)
one_more a b = omega arith

one_most : (b : Bool) → (if b then 0 else 1) ≤ 1
one_most true = omega arith
one_most false = omega arith

module _ (s : List ℕ) (t : ℤ) where
  -- the changes after t
  abbrev later : List ℕ → List ℕ
  later os = select (λ o. lt_z t (time_of s o)) os

  pub none_visited : visited_in s t [] ≡ 0
  unfolding visited_in latest_at select
  none_visited = refl

  later_passed : (o : ℕ) (os : List ℕ) → le_z (time_of s o) t ≡ false → later (o ∷ os) ≡ o ∷ later os
  unfolding select
  later_passed o os e = rw (after_not t (time_of s o), e)

  later_kept : (o : ℕ) (os : List ℕ) → le_z (time_of s o) t ≡ true → later (o ∷ os) ≡ later os
  unfolding select
  later_kept o os e = rw (after_not t (time_of s o), e)

  -- a change after t is one more
  pub visited_passed : (o : ℕ) (os : List ℕ) → le_z (time_of s o) t ≡ false → visited_in s t (o ∷ os) ≡ suc (visited_in s t os)
  unfolding visited_in latest_at
  visited_passed o os e = rw (later_passed o os e, e) (one_more (length (later os)) _)

  -- where no offset up to o has a time after t, no change of a chain from o on has
  none_later : (k o : ℕ) → ((p : ℕ) → p ≤ o → le_z (time_of s p) t ≡ true) → later (chain_within k s o) ≡ []
  unfolding chain_within select
  none_later zero o low = refl
  none_later (suc k) o low =
      on_zero o (λ e. rw (eq-eqb o 0 e))
      (λ h. let n : o ≡ 0 → ⊥ = omega arith in
      let l = previous_lt s o h in
      let rest = none_later k (previous_of s o) (λ p g. low p (omega arith)) in
      simp (ne_eqb o 0 n) (later_kept o (chain_within k s (previous_of s o)) (low o (omega arith)) ∙ rest))

  -- then the newest change is answered, and it is the one that is visited
  pub visited_answered : (o : ℕ) → 0 < o → o ≡ latest_at s t (chain_of s o) → ((p : ℕ) → p ≤ o → le_z (time_of s p) t ≡ true) → visited_in s t (chain_of s o) ≡ 1
  unfolding visited_in
  visited_answered o h e low =
      let n : o ≡ 0 → ⊥ = omega arith in
      let none : later (chain_of s o) ≡ [] = unfold chain_of in none_later o o low in
      rw (none, ← e) (simp (ne_eqb o 0 n))

  -- ---- no more than there are

  later_most : (os : List ℕ) → length (later os) ≤ length os
  unfolding select
  later_most [] = omega arith
  later_most (o ∷ os) =
      let ih : length (later os) ≤ length os = later_most os in
      on_test (lt_z t (time_of s o)) (λ q. rw q (omega arith)) (λ q. rw q (omega arith))

  -- the change answered is none of those after t
  visited_le : (os : List ℕ) → visited_in s t os ≤ length os
  unfolding visited_in
  visited_le [] = unfold latest_at select in omega arith
  visited_le (o ∷ os) =
      let ih : visited_in s t os ≤ length os = visited_le os in
      on_test (le_z (time_of s o) t)
      (λ q. let rest = later_most os in
      let one = one_most (eqb (latest_at s t (o ∷ os)) 0) in
      rw (later_kept o os q) (omega arith))
      (λ q. rw (visited_passed o os q) (omega arith))

  -- where none is answered, all are after t
  all_later : (k o : ℕ) → latest_at s t (chain_within k s o) ≡ 0 → length (later (chain_within k s o)) ≡ length (chain_within k s o)
  unfolding chain_within select latest_at
  all_later zero o h = refl
  all_later (suc k) o h =
      on_zero o (λ e. rw (eq-eqb o 0 e))
      (λ p. let n : o ≡ 0 → ⊥ = omega arith in
      let cut : latest_at s t (o ∷ chain_within k s (previous_of s o)) ≡ 0 = simp (ne_eqb o 0 n) at h in
      on_test (le_z (time_of s o) t)
      (λ q. let top : max o (latest_at s t (chain_within k s (previous_of s o))) ≡ 0 = rw q at cut in absurd (omega arith))
      (λ q. let rest = all_later k (previous_of s o) (rw q at cut) in
      simp (ne_eqb o 0 n) (rw (later_passed o (chain_within k s (previous_of s o)) q) (ap suc rest))))

pub none_answered : NoneAnswered
unfolding visited_at visited_in change_at chain_of
none_answered s f t e = rw e (let all = all_later s t (sync_of s f) (sync_of s f) e in omega arith)

-- ---- two bytes for each change between C and T

-- a change without a fault starts at C or above it, and the one before it two bytes lower at least
lower : (s : List ℕ) (g : Signal) (o : ℕ) → fault_at s g o ≡ 0 → (g.from ≤ o) × (previous_of s o + 2 ≤ o)
unfolding previous_allowed previous_of
lower s g o h =
    let k = sound s g o h in
    let delta = leb-true (delta_of s o + 2) o (and_both _ _ k.previous).0 in
    (k.starts, omega arith)

chain_most : (s : List ℕ) (g : Signal) (k o : ℕ) → first_fault (map (fault_at s g) (chain_within k s o)) ≡ 0 → 2 * length (chain_within k s o) ≤ o + 2 - g.from
unfolding chain_within first_fault
chain_most s g zero o h = omega arith
chain_most s g (suc k) o h =
    on_zero o (λ e. rw (eq-eqb o 0 e) (omega arith))
    (λ p. let n : o ≡ 0 → ⊥ = omega arith in
    let both = neither (fault_at s g o) (first_fault (map (fault_at s g) (chain_within k s (previous_of s o)))) (simp (ne_eqb o 0 n) at h) in
    let here = lower s g o both.0 in
    let rest = chain_most s g k (previous_of s o) both.1 in
    simp (ne_eqb o 0 n) (omega arith))

pub chain_bound : (s : List ℕ) (f o : ℕ) → fault_from s f o ≡ 0 → 2 * length (chain_of s o) ≤ end_of s - changes_from s
chain_bound s f o h =
    on_zero o (λ e. rw (e, chain_none s) (omega arith))
    (λ p. let top = (newest_sound s f o p h).0 in
    let two = end_after s (signal_of s f) o in
    let most : 2 * length (chain_of s o) ≤ o + 2 - changes_from s = unfold fault_from chain_fault chain_of in chain_most s (signal_of s f) o o h in
    omega (arith, top.ends, top.starts))

-- "It is at most (T - C) / 2", of each facility of an accepted file
pub visited_most : (s : List ℕ) (f : ℕ) (t : ℤ) → facility_refusal s f ≡ 0 → visited_at s (root_of s f) t ≤ (end_of s - changes_from s) / 2
unfolding visited_at
visited_most s f t h =
    let changes = chain_bound s (root_of s f) (sync_of s (root_of s f)) (facility_sound s f h) in
    let all = visited_le s t (chain_of s (sync_of s (root_of s f))) in
    omega arith

pub visited_at_most : VisitedMost
unfolding value_asked value_refusal
visited_at_most s f t room =
    on_zero (value_refusal s f room)
    (λ e. rw e (visited_most s f t (neither (facility_refusal s f) _ e).0))
    (λ p. let n : value_refusal s f room ≡ 0 → ⊥ = omega arith in simp (ne_eqb (value_refusal s f room) 0 n) (omega arith))
