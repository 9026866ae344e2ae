-- How many of the numbers from one up to another pass a test.
use Prim.Native.Nat.{ℕ, zero, suc, ◌+◌, ◌-◌, ◌≤◌, ◌<◌}
use native.Mathlib.Nat.{zero-add, suc-add}
use native.Mathlib.Omega.{arith}
use mathlib.Core.Path.{◌≡◌, refl}
use mathlib.Core.Bool.{Bool, true, false}
use lib.ListN.{length}
use Rattle.lxt_format.specs.Basics.{range, select}
use Rattle.lxt_format.specs.BasicsLaws.{on_test}

-- how many from a up to b pass
abbrev pub counted : (ℕ → Bool) → ℕ → ℕ → ℕ
counted p a b = length (select p (range a (b - a)))

-- ---- the k numbers from i on

module _ (p : ℕ → Bool) where
  all_pass : (i k : ℕ) → ((j : ℕ) → i ≤ j → j < i + k → p j ≡ true) → length (select p (range i k)) ≡ k
  unfolding select range
  all_pass i zero h = refl
  all_pass i (suc k) h =
      let rest = all_pass (suc i) k (λ j a b. h j (omega arith) (omega arith)) in
      rw (h i (omega arith) (omega arith)) (omega arith)

  none_pass : (i k : ℕ) → ((j : ℕ) → i ≤ j → j < i + k → p j ≡ false) → length (select p (range i k)) ≡ 0
  unfolding select range
  none_pass i zero h = refl
  none_pass i (suc k) h =
      let rest = none_pass (suc i) k (λ j a b. h j (omega arith) (omega arith)) in
      rw (h i (omega arith) (omega arith)) rest

  most_pass : (i k : ℕ) → length (select p (range i k)) ≤ k
  unfolding select range
  most_pass i zero = omega arith
  most_pass i (suc k) = let rest = most_pass (suc i) k in on_test (p i) (λ e. rw e (omega arith)) (λ e. rw e (omega arith))

  -- n is the number after the first k
  both_pass : (i k m n : ℕ) → n ≡ i + k
      → length (select p (range i (k + m))) ≡ length (select p (range i k)) + length (select p (range n m))
  unfolding select range
  both_pass i zero m n e = let same : n ≡ i = omega arith in rw same (simp zero-add)
  both_pass i (suc k) m n e =
      let rest = both_pass (suc i) k m n (omega arith) in
      rw suc-add (on_test (p i) (λ e. rw e (omega arith)) (λ e. rw e rest))

same_pass : (p q : ℕ → Bool) (i k : ℕ) → ((j : ℕ) → i ≤ j → j < i + k → p j ≡ q j)
    → length (select p (range i k)) ≡ length (select q (range i k))
unfolding select range
same_pass p q i zero h = refl
same_pass p q i (suc k) h =
    let rest = same_pass p q (suc i) k (λ j a b. h j (omega arith) (omega arith)) in
    rw (h i (omega arith) (omega arith)) (on_test (q i) (λ e. rw e (omega arith)) (λ e. rw e rest))

-- ---- from one number up to another

module _ (p : ℕ → Bool) (a b : ℕ) where
  -- at most all of them
  pub counted_most : counted p a b ≤ b - a
  counted_most = most_pass p a (b - a)

  pub counted_empty : b ≤ a → counted p a b ≡ 0
  counted_empty h = none_pass p a (b - a) (λ j x y. absurd (omega arith))

  pub counted_all : ((j : ℕ) → a ≤ j → j < b → p j ≡ true) → counted p a b ≡ b - a
  counted_all h = all_pass p a (b - a) (λ j x y. h j x (omega arith))

  pub counted_none : ((j : ℕ) → a ≤ j → j < b → p j ≡ false) → counted p a b ≡ 0
  counted_none h = none_pass p a (b - a) (λ j x y. h j x (omega arith))

  pub counted_split : (m : ℕ) → a ≤ m → m ≤ b → counted p a b ≡ counted p a m + counted p m b
  counted_split m x y =
      let e : b - a ≡ (m - a) + (b - m) = omega arith in
      rw e (both_pass p a (m - a) (b - m) m (omega arith))

pub counted_same : (p q : ℕ → Bool) (a b : ℕ) → ((j : ℕ) → a ≤ j → j < b → p j ≡ q j) → counted p a b ≡ counted q a b
counted_same p q a b h = same_pass p q a (b - a) (λ j x y. h j x (omega arith))
