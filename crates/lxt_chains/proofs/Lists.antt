-- Laws of lists that the walk needs: a property of each element, and takes and drops past the end.
use Prim.Native.Nat.{ℕ, zero, suc, ◌+◌, ◌≤◌, ◌<◌, min}
use native.Mathlib.Omega.{arith}
use native.Mathlib.Nat.{min-zero, zero-min, suc-min-suc}
use mathlib.Core.Path.{◌≡◌, refl, sym, ap, ◌∙◌}
use mathlib.Core.Bool.{Bool, true}
use mathlib.Core.List.{List, [], ◌∷◌, ◌++◌, map}
use lib.ListN.{length, take, drop}
use lib.Dec.{eqb}
use borrow.Author.Tests.{eqb-true, eqb-false, eq-eqb, ne_eqb}
use Rattle.lxt_format.specs.Basics.{range, all, select, joined, first_fault}
use Rattle.lxt_format.specs.BasicsLaws.{on_test, and_both, both_and, neither}
use Rattle.lxt_chains.specs.Pending.{Each}

module _ {A : Type 0} where
  -- what follows from a property of each holds of each
  pub each_map : {P Q : A → Type 0} {l : List A} → ((x : A) → P x → Q x) → Each P l → Each Q l
  each_map f Each.none = Each.none
  each_map f (Each.both {x = x} h t) = Each.both (f x h) (each_map f t)

  -- of two lists laid one after the other
  pub each_append : {P : A → Type 0} {l m : List A} → Each P l → Each P m → Each P (l ++ m)
  each_append Each.none k = k
  each_append (Each.both h t) k = Each.both h (each_append t k)

  -- of what is left of a list
  pub each_drop : {P : A → Type 0} (n : ℕ) {l : List A} → Each P l → Each P (drop n l)
  each_drop zero a = a
  each_drop (suc n) Each.none = Each.none
  each_drop (suc n) (Each.both h t) = each_drop n t

  -- of those of which a test holds
  pub each_select : {P : A → Type 0} (q : A → Bool) {l : List A} → Each P l → Each P (select q l)
  unfolding select
  each_select q Each.none = Each.none
  each_select q (Each.both {x = x} h t) =
      let rest = each_select q t in on_test (q x) (λ e. rw e (Each.both h rest)) (λ e. rw e rest)

  -- two properties of each
  pub each_both : {P Q : A → Type 0} {l : List A} → Each P l → Each Q l → Each (λ x. P x × Q x) l
  each_both Each.none Each.none = Each.none
  each_both (Each.both h t) (Each.both k u) = Each.both (h, k) (each_both t u)

  -- what a selection tests holds of each that it keeps
  pub each_selected : (q : A → Bool) (l : List A) → Each (λ x. q x ≡ true) (select q l)
  unfolding select
  each_selected q [] = Each.none
  each_selected q (x ∷ l) = let rest = each_selected q l in on_test (q x) (λ e. rw e (Each.both e rest)) (λ e. rw e rest)

  -- a selection of two lists laid one after the other
  pub select_append : (q : A → Bool) (l m : List A) → select q (l ++ m) ≡ select q l ++ select q m
  unfolding select
  select_append q [] m = refl
  select_append q (x ∷ l) m = let rest = select_append q l m in on_test (q x) (λ e. rw (e, rest)) (λ e. rw (e, rest))

  -- a test that holds of all holds of each
  pub each_all : (q : A → Bool) (l : List A) → all q l ≡ true → Each (λ x. q x ≡ true) l
  unfolding all
  each_all q [] h = Each.none
  each_all q (x ∷ l) h = let b = and_both (q x) (all q l) h in Each.both b.0 (each_all q l b.1)

  -- and back
  pub all_each : (q : A → Bool) {l : List A} → Each (λ x. q x ≡ true) l → all q l ≡ true
  unfolding all
  all_each q Each.none = refl
  all_each q (Each.both {x = x} {l = l} h t) = both_and (q x) (all q l) h (all_each q t)

  -- two tests that agree on each element of a list
  pub all_same : (p q : A → Bool) {l : List A} → Each (λ x. p x ≡ q x) l → all p l ≡ all q l
  unfolding all
  all_same p q Each.none = refl
  all_same p q (Each.both h t) = rw (h, all_same p q t)

  -- where there is no first fault, there is none
  pub faultless : (fault : A → ℕ) (l : List A) → first_fault (map fault l) ≡ 0 → Each (λ x. fault x ≡ 0) l
  unfolding first_fault
  faultless fault [] h = Each.none
  faultless fault (x ∷ l) h = let b = neither (fault x) (first_fault (map fault l)) h in Each.both b.0 (faultless fault l b.1)

  -- to take more than there is is to take all
  pub take_min : (n : ℕ) (l : List A) → take n l ≡ take (min n (length l)) l
  take_min zero l = rw zero-min
  take_min (suc n) [] = rw min-zero
  take_min (suc n) (x ∷ l) = rw suc-min-suc (ap (λ m. x ∷ m) (take_min n l))

  -- to drop more than there is is to drop all
  pub drop_min : (n : ℕ) (l : List A) → drop n l ≡ drop (min n (length l)) l
  drop_min zero l = rw zero-min
  drop_min (suc n) [] = rw min-zero
  drop_min (suc n) (x ∷ l) = rw suc-min-suc (drop_min n l)

-- of lists laid one after the other
pub each_joined : {A B : Type 0} {P : B → Type 0} (f : A → List B) {l : List A} → Each (λ x. Each P (f x)) l → Each P (joined f l)
unfolding joined
each_joined f Each.none = Each.none
each_joined f (Each.both h t) = each_append h (each_joined f t)

-- what holds of each number from i up to i + k holds of each of the range
pub each_range : {P : ℕ → Type 0} (i k : ℕ) → ((j : ℕ) → i ≤ j → j < i + k → P j) → Each P (range i k)
unfolding range
each_range i zero h = Each.none
each_range i (suc k) h = Each.both (h i (omega arith) (omega arith)) (each_range (suc i) k (λ j a b. h j (omega arith) (omega arith)))

-- two tests of equality that follow from each other
pub eqb_same : (a b c d : ℕ) → (a ≡ b → c ≡ d) → (c ≡ d → a ≡ b) → eqb a b ≡ eqb c d
eqb_same a b c d f g =
    on_test (eqb a b) (λ e. e ∙ sym (eq-eqb c d (f (eqb-true a b e)))) (λ e. e ∙ sym (ne_eqb c d (λ h. eqb-false a b e (g h))))
