-- A law for each way out of the functions on the real test.
use Rattle.std.specs.Prelude.{if◌then◌else◌}
use Prim.Native.Nat.{ℕ, zero, suc, ◌+◌, ◌-◌, ◌≤◌, ◌<◌}
use mathlib.Core.Path.{◌≡◌, ap}
use mathlib.Core.Bool.{Bool, true, false, ◌&&◌, and-false}
use mathlib.Core.List.{List, [], ◌∷◌, map}
use lib.ListN.{length, get_or, take, drop, drop_of_length-le}
use Rattle.std.specs.List.{list_all}
use Rattle.lxt_format.specs.Basics.{range, all}
use lib.Seq.{drop-cons}
use lib.Dec.{eqb}
use native.Mathlib.Omega.{arith}
use borrow.Author.Tests.{eq-eqb, ne_eqb, eqb-true}
use Rattle.lxt_format.specs.BasicsLaws.{on_test}
use Rattle.lxt_format.specs.Geometry.{flags_of, is_alias, kind_of_flags, facts_by, own_facts}
use Rattle.lxt_format.specs.Reals.{test_pattern, place_of, is_real, has_real}
use Rattle.lxt_tables.specs.Stage.{Geometry}
use Rattle.lxt_tables.proofs.RootsLaws.{any_root, any_begun, any_end, here, later}

-- ---- a root of kind real

abbrev pub real_root : List ℕ → ℕ → Bool
real_root s f = is_real (own_facts s f).kind

real_flags : (v m l : ℕ) → is_real (facts_by (kind_of_flags v) m l).kind ≡ eqb v 2
unfolding is_real facts_by kind_of_flags
real_flags v m l =
    on_test (eqb v 2) (λ e. let d = eqb-true v 2 e in rw d)
    (λ e. rw e (on_test (eqb v 1) (λ a. rw a) (λ a. rw a (on_test (eqb v 4) (λ b. rw b) (λ b. rw b)))))

real_is : (s : List ℕ) (f : ℕ) → real_root s f ≡ eqb (flags_of s f) 2
unfolding own_facts
real_is s f = real_flags (flags_of s f) _ _

module _ (s : List ℕ) (g n : ℕ) (p : Geometry s g n) where
  pub real_begun : any_root s (real_root s) 0 n ≡ has_real s
  unfolding has_real
  real_begun = any_begun s (real_root s) g n p

  module _ (f : ℕ) (inv : any_root s (real_root s) f n ≡ has_real s) where
    pub real_end : n ≤ f → false ≡ has_real s
    real_end h = any_end s (real_root s) g n p (has_real s) f inv h

    module _ (h : f < n) (v : ℕ) (ev : v ≡ flags_of s f) where
      pub real_here : v ≡ 2 → true ≡ has_real s
      unfolding is_alias
      real_here e = here s (real_root s) g n p (has_real s) f inv h (rw (real_is s f, ← ev, e))

      pub real_later : (v ≡ 2 → ⊥) → any_root s (real_root s) (f + 1) n ≡ has_real s
      real_later e = later s (real_root s) g n p (has_real s) f inv h (rw (real_is s f, ← ev, ne_eqb v 2 e, and-false))

-- ---- the place of a byte among eight: a turn at j, where w is what the whole gives

module _ (s : List ℕ) (at b j w : ℕ) (inv : j + place_of b (take (8 - j) (drop (at + j) s)) ≡ w) where
  pub place_end : j ≤ 8 → 8 ≤ j → 8 ≡ w
  unfolding place_of
  place_end h l = let e : j ≡ 8 = omega arith in let q = rw e at inv in q

  module _ (l : j < 8) (m : at + 8 ≤ length s) where
    opened : place_of b (take (8 - j) (drop (at + j) s)) ≡ (if eqb (get_or s (at + j) 0) b then 0 else suc (place_of b (take (8 - (j + 1)) (drop (at + (j + 1)) s))))
    unfolding place_of
    opened =
        let k : 8 - j ≡ suc (8 - (j + 1)) = omega arith in
        let i : at + j < length s = omega arith in
        let n : suc (at + j) ≡ at + (j + 1) = omega arith in
        rw (k, drop-cons s (at + j) 0 i, n)

    pub place_met : get_or s (at + j) 0 ≡ b → j ≡ w
    place_met e = let q = simp (eq-eqb (get_or s (at + j) 0) b e) at opened in omega arith

    pub place_next : (get_or s (at + j) 0 ≡ b → ⊥) → j + 1 + place_of b (take (8 - (j + 1)) (drop (at + (j + 1)) s)) ≡ w
    place_next e = let q = simp (ne_eqb (get_or s (at + j) 0) b e) at opened in omega arith

pub place_begun : (s : List ℕ) (at b : ℕ) → 0 + place_of b (take (8 - 0) (drop (at + 0) s)) ≡ place_of b (take 8 (drop at s))
place_begun s at b = let e : at + 0 ≡ at = omega arith in rw e (omega arith)

-- ---- the order

module _ (s : List ℕ) (at : ℕ) where
  pub order_is : (a b c d e f g h : ℕ) → a ≡ place_of 0x6E (take 8 (drop at s)) → b ≡ place_of 0x86 (take 8 (drop at s)) → c ≡ place_of 0x1B (take 8 (drop at s))
      → d ≡ place_of 0xF0 (take 8 (drop at s)) → e ≡ place_of 0xF9 (take 8 (drop at s)) → f ≡ place_of 0x21 (take 8 (drop at s))
      → g ≡ place_of 0x09 (take 8 (drop at s)) → h ≡ place_of 0x40 (take 8 (drop at s))
      → a ∷ b ∷ c ∷ d ∷ e ∷ f ∷ g ∷ h ∷ [] ≡ map (λ x. place_of x (take 8 (drop at s))) test_pattern
  order_is a b c d e f g h ea eb ec ed ee ef eg eh = rw (ea, eb, ec, ed, ee, ef, eg, eh)

-- a test holds of each of the last n elements, those from `a` on
pub all_from : (p : ℕ → Bool) (t : List ℕ) (n a : ℕ) → a + n ≡ length t → list_all p (drop a t) ≡ all (λ i. p (get_or t i 0)) (range a n)
unfolding all range
all_from p t zero a h = let l : length t ≤ a = omega arith in rw (drop_of_length-le t l)
all_from p t (suc n) a h = let l : a < length t = omega arith in rw (drop-cons t a 0) (ap (λ b. p (get_or t a 0) && b) (all_from p t n (suc a) (omega arith)))
