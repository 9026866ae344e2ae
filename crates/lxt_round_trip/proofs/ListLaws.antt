-- Laws of lists: what holds of each element holds at each place, and a list beside the range of its places.
use Prim.Native.Nat.{ℕ, zero, suc, ◌+◌, ◌≤◌, ◌<◌}
use mathlib.Core.Path.{◌≡◌, refl, sym, ap, ◌∙◌}
use mathlib.Core.Bool.{Bool, true, false}
use mathlib.Core.List.{List, [], ◌∷◌, map, reverse, reverse-cons}
use lib.ListN.{length, get_or}
use native.Mathlib.Omega.{arith}
use native.Mathlib.Nat.{add-zero}
use Rattle.lxt_format.specs.Basics.{range, any, select}
use Rattle.lxt_format.specs.BasicsLaws.{or_true, or_none}
use Rattle.lxt_chains.specs.Pending.{Each}
use Rattle.lxt_chains.proofs.Lists.{each_append}

-- the place after i + j, counted from i or from the one after it
further : (i j : ℕ) → i + suc j ≡ suc i + j
further i j = omega arith

module _ {A : Type 0} where
  -- what holds of each holds at place i
  pub each_at : {P : A → Type 0} (d : A) {xs : List A} → Each P xs → (i : ℕ) → i < length xs → P (get_or xs i d)
  each_at d Each.none i h = absurd (omega arith)
  each_at d (Each.both p rest) zero h = p
  each_at d (Each.both p rest) (suc i) h = each_at d rest i (omega arith)

  -- and of the list turned round
  pub each_reverse : {P : A → Type 0} {xs : List A} → Each P xs → Each P (reverse xs)
  each_reverse Each.none = Each.none
  each_reverse (Each.both {x = x} {l = xs} p rest) = rw (reverse-cons x xs) (each_append (each_reverse rest) (Each.both p Each.none))

  -- and what follows from it of each image
  pub each_image : {B : Type 0} {P : A → Type 0} {Q : B → Type 0} (g : A → B) {xs : List A} → ((x : A) → P x → Q (g x)) → Each P xs → Each Q (map g xs)
  each_image g f Each.none = Each.none
  each_image g f (Each.both {x = x} p rest) = Each.both (f x p) (each_image g f rest)

  -- and what holds of each image holds of each by its image
  pub each_source : {B : Type 0} {P : B → Type 0} (g : A → B) (xs : List A) → Each P (map g xs) → Each (λ x. P (g x)) xs
  each_source g [] h = Each.none
  each_source g (x ∷ xs) (Each.both p rest) = Each.both p (each_source g xs rest)

  -- what a function gives of each place is what another gives of each element
  pub map_places : {B : Type 0} (g : ℕ → B) (h : A → B) (d : A) (i : ℕ) (xs : List A) → ((j : ℕ) → j < length xs → g (i + j) ≡ h (get_or xs j d))
      → map g (range i (length xs)) ≡ map h xs
  unfolding range
  map_places g h d i [] e = refl
  map_places g h d i (x ∷ xs) e =
      let first : g i ≡ h x = rw add-zero at (e 0 (omega arith)) in
      let rest = map_places g h d (suc i) xs (λ j l. rw (← (further i j)) (e (suc j) (omega arith))) in
      rw (first, rest)

  -- and so for a test of one
  pub any_places : (p : ℕ → Bool) (q : A → Bool) (d : A) (i : ℕ) (xs : List A) → ((j : ℕ) → j < length xs → p (i + j) ≡ q (get_or xs j d))
      → any p (range i (length xs)) ≡ any q xs
  unfolding range any
  any_places p q d i [] e = refl
  any_places p q d i (x ∷ xs) e =
      let first : p i ≡ q x = rw add-zero at (e 0 (omega arith)) in
      let rest = any_places p q d (suc i) xs (λ j l. rw (← (further i j)) (e (suc j) (omega arith))) in
      rw (first, rest)

-- all of a range of which a test holds throughout
pub select_range : (p : ℕ → Bool) (i k : ℕ) → ((j : ℕ) → i ≤ j → j < i + k → p j ≡ true) → select p (range i k) ≡ range i k
unfolding select range
select_range p i zero h = refl
select_range p i (suc k) h = rw (h i (omega arith) (omega arith), select_range p (suc i) k (λ j a b. h j (omega arith) (omega arith)))

-- none of a range of which a test holds nowhere
pub any_none : (p : ℕ → Bool) (i k : ℕ) → ((j : ℕ) → i ≤ j → j < i + k → p j ≡ false) → any p (range i k) ≡ false
unfolding any range
any_none p i zero h = refl
any_none p i (suc k) h = rw (h i (omega arith) (omega arith), any_none p (suc i) k (λ j a b. h j (omega arith) (omega arith)))

-- numbers below a bound, and 0 past their end
pub get_d_below : (bound : ℕ) {xs : List ℕ} → 0 < bound → Each (λ x. x < bound) xs → (i : ℕ) → get_or xs i 0 < bound
get_d_below bound p Each.none i = p
get_d_below bound p (Each.both h rest) zero = h
get_d_below bound p (Each.both h rest) (suc i) = get_d_below bound p rest i

-- what a function gives at a place of a range
pub map_at : (g : ℕ → ℕ) (i k j : ℕ) → j < k → get_or (map g (range i k)) j 0 ≡ g (i + j)
unfolding range
map_at g i zero j h = absurd (omega arith)
map_at g i (suc k) zero h = rw add-zero
map_at g i (suc k) (suc j) h = map_at g (suc i) k j (omega arith) ∙ ap g (sym (further i j))

-- a test that holds of none fails of each
pub none_each : {A : Type 0} (p : A → Bool) (xs : List A) → any p xs ≡ false → Each (λ x. p x ≡ false) xs
unfolding any
none_each p [] h = Each.none
none_each p (x ∷ xs) h = let b = or_none (p x) (any p xs) h in Each.both b.0 (none_each p xs b.1)

-- a test that holds at a place holds of one
pub any_at : {A : Type 0} (p : A → Bool) (d : A) (xs : List A) (i : ℕ) → i < length xs → p (get_or xs i d) ≡ true → any p xs ≡ true
unfolding any
any_at p d [] i h e = absurd (omega arith)
any_at p d (x ∷ xs) zero h e = rw e
any_at p d (x ∷ xs) (suc i) h e = or_true (p x) (any_at p d xs i (omega arith) e)

-- two functions that agree on a range give the same of it
pub map_same : (g h : ℕ → ℕ) (i k : ℕ) → ((j : ℕ) → i ≤ j → j < i + k → g j ≡ h j) → map g (range i k) ≡ map h (range i k)
unfolding range
map_same g h i zero e = refl
map_same g h i (suc k) e = rw (e i (omega arith) (omega arith), map_same g h (suc i) k (λ j a b. e j (omega arith) (omega arith)))
