-- "A way that meets a facility twice never ends, so n facilities are enough": with more of them no other root is found, and so an alias has the root of
-- the facility that it stands for. By counting: while one facility more gives some facility a root, more than before have one.
use Prim.Native.Nat.{ℕ, zero, suc, ◌+◌, ◌≤◌, ◌<◌}
use mathlib.Core.Path.{◌≡◌, refl, sym, ◌∙◌}
use mathlib.Core.Bool.{Bool, true, false}
use mathlib.Core.List.{List}
use lib.Dec.{ltb}
use native.Mathlib.Omega.{arith}
use native.Mathlib.Decide.{ℕ_discrete, dec_le}
use borrow.Author.Tests.{ltb-true, ltb-false}
use Rattle.lxt_format.specs.BasicsLaws.{on_test}
use Rattle.lxt_format.specs.Sections.{facility_count}
use Rattle.lxt_format.specs.Geometry.{rows_of, is_alias, root_within, root_of}
use Rattle.lxt_format.proofs.GeometryLaws.{root_outside, root_here, root_next}

-- ---- how many numbers below m pass a test

abbrev one : Bool → ℕ
one true = 1
one false = 0

one_le : (a b : Bool) → (a ≡ true → b ≡ true) → one a ≤ one b
one_le true b h = rw (h refl) (omega arith)
one_le false b h = omega arith

one_same : (a b : Bool) → one a ≡ one b → a ≡ b
one_same true true h = refl
one_same true false h = absurd (omega arith)
one_same false true h = absurd (omega arith)
one_same false false h = refl

unfoldable pub passing : (ℕ → Bool) → ℕ → ℕ
passing p zero = 0
passing p (suc m) = one (p m) + passing p m

passing_most : (p : ℕ → Bool) (m : ℕ) → passing p m ≤ m
unfolding passing
passing_most p zero = omega arith
passing_most p (suc m) = let l = one_le (p m) true (λ _. refl) in omega (arith, passing_most p m)

-- what passes the first test passes the second
module _ (p q : ℕ → Bool) (more : (g : ℕ) → p g ≡ true → q g ≡ true) where
  passing_more : (m : ℕ) → passing p m ≤ passing q m
  unfolding passing
  passing_more zero = omega arith
  passing_more (suc m) = omega (arith, passing_more m, one_le (p m) (q m) (more m))

  -- and where no more pass it, both tests say the same
  pub passing_same : (m : ℕ) → passing q m ≤ passing p m → (g : ℕ) → g < m → p g ≡ q g
  unfolding passing
  passing_same zero h g l = absurd (omega arith)
  passing_same (suc m) h g l =
      let a = passing_more m in
      let b = one_le (p m) (q m) (more m) in
      elim (ℕ_discrete g m) [
        | yes e ↦ rw e (one_same (p m) (q m) (omega arith))
        | no d ↦ passing_same m (omega arith) g (omega arith)
      ]

-- ---- a way of k facilities

module _ (s : List ℕ) where
  -- by cases on a facility
  by_kind : {P : Type 0} (f : ℕ) → (facility_count s ≤ f → P) → (f < facility_count s → is_alias s f ≡ true → P) → (f < facility_count s → is_alias s f ≡ false → P) → P
  by_kind f out alias plain =
      elim (dec_le (facility_count s) f) [
        | yes l ↦ out l
        | no n ↦ (let l : f < facility_count s = omega arith in on_test (is_alias s f) (alias l) (plain l))
      ]

  root_most : (k f : ℕ) → root_within k s f ≤ facility_count s
  root_most zero f = unfold root_within in omega arith
  root_most (suc k) f =
      let rest = root_most k (rows_of s f) in
      by_kind f (λ l. omega (arith, root_outside s (suc k) f l)) (λ l e. omega (arith, root_next s k f l e)) (λ l e. omega (arith, root_here s k f l e))

  -- a root that was found stays the root
  root_stays : (k f : ℕ) → root_within k s f < facility_count s → root_within (suc k) s f ≡ root_within k s f
  root_stays zero f h = absurd (unfold root_within in omega arith)
  root_stays (suc k) f h =
      by_kind f (λ l. absurd (omega (arith, root_outside s (suc k) f l)))
      (λ l e. rw (root_next s (suc k) f l e, root_next s k f l e) (root_stays k (rows_of s f) (rw (root_next s k f l e) at h)))
      (λ l e. rw (root_here s (suc k) f l e, root_here s k f l e))

  -- one facility more changes nothing
  abbrev Enough : ℕ → Type 0
  Enough k = (f : ℕ) → root_within (suc k) s f ≡ root_within k s f

  enough_next : (k : ℕ) → Enough k → Enough (suc k)
  enough_next k h f =
      by_kind f (λ l. root_outside s (suc (suc k)) f l ∙ sym (root_outside s (suc k) f l))
      (λ l e. rw (root_next s (suc k) f l e, root_next s k f l e) (h (rows_of s f)))
      (λ l e. rw (root_here s (suc k) f l e, root_here s k f l e))

  abbrev rooted : ℕ → ℕ → Bool
  rooted k f = ltb (root_within k s f) (facility_count s)

  rooted_stays : (k f : ℕ) → rooted k f ≡ true → rooted (suc k) f ≡ true
  rooted_stays k f h = rw (root_stays k f (ltb-true _ _ h)) h

  -- where it gives no facility a root that had none
  none_more : (k : ℕ) → passing (rooted (suc k)) (facility_count s) ≤ passing (rooted k) (facility_count s) → Enough k
  none_more k h f =
      elim (dec_le (facility_count s) f) [
        | yes l ↦ root_outside s (suc k) f l ∙ sym (root_outside s k f l)
        | no n ↦ (let same = passing_same (rooted k) (rooted (suc k)) (rooted_stays k) (facility_count s) h f (omega arith) in
            let a = root_most k f in
            let b = root_most (suc k) f in
            on_test (rooted k f) (λ e. root_stays k f (ltb-true _ _ e))
            (λ e. omega (arith, ltb-false (root_within k s f) (facility_count s) e, ltb-false (root_within (suc k) s f) (facility_count s) (sym same ∙ e))))
      ]

  -- k facilities are enough, or more than k have a root within one more
  enough_or : {P : Type 0} (k : ℕ) → (Enough k → P) → (k < passing (rooted (suc k)) (facility_count s) → P) → P
  enough_or zero done more =
      elim (dec_le (passing (rooted 1) (facility_count s)) 0) [ yes l ↦ done (none_more 0 (omega arith)) | no n ↦ more (omega arith) ]
  enough_or (suc k) done more =
      enough_or k (λ h. done (enough_next k h))
      (λ h. elim (dec_le (passing (rooted (suc (suc k))) (facility_count s)) (passing (rooted (suc k)) (facility_count s))) [
        | yes l ↦ done (none_more (suc k) l)
        | no n ↦ more (omega arith)
      ])

  n_enough : Enough (facility_count s)
  n_enough = enough_or (facility_count s) (λ h. h) (λ h. absurd (omega (arith, passing_most (rooted (suc (facility_count s))) (facility_count s))))

  -- an alias has the root of the facility that it stands for
  pub root_of_alias : (f : ℕ) → f < facility_count s → is_alias s f ≡ true → root_of s (rows_of s f) ≡ root_of s f
  unfolding root_of
  root_of_alias f h e = sym (root_next s (facility_count s) f h e) ∙ n_enough f
