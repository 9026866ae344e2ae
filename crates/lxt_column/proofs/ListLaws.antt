-- The laws of the list of facility numbers: whether all are below n, and what is added up along it.
use Prim.Native.Nat.{ℕ, zero, suc, ◌+◌, ◌*◌, ◌≤◌, ◌<◌}
use mathlib.Core.Path.{◌≡◌, refl, ap}
use mathlib.Core.Bool.{Bool, ◌&&◌}
use mathlib.Core.List.{List, [], ◌∷◌, map}
use lib.ListN.{length, get_or, drop}
use lib.Seq.{drop-cons}
use lib.Dec.{ltb}
use native.Mathlib.Omega.{arith}
use native.Mathlib.Nat.{mul-suc}
use Rattle.std.specs.List.{list_all}
use Rattle.lxt_format.specs.Basics.{◌unless◌, all, total, first_fault}
use Rattle.lxt_format.specs.BasicsLaws.{on_test}
use Rattle.lxt_format.specs.Sections.{facility_count}
use Rattle.lxt_format.specs.Judge.{file_refusal}
use Rattle.lxt_format.specs.Questions.{facility_refusal}

-- nothing is left of a list that was gone through
pub drop_all : {A : Type 0} (l : List A) (i : ℕ) → length l ≤ i → drop i l ≡ []
drop_all [] zero h = refl
drop_all [] (suc i) h = refl
drop_all (x ∷ l) zero h = absurd (omega arith)
drop_all (x ∷ l) (suc i) h = drop_all l i (omega arith)

-- ---- a test of all

-- it is that of the library
pub all_list : (p : ℕ → Bool) (l : List ℕ) → all p l ≡ list_all p l
unfolding all
all_list p [] = refl
all_list p (x ∷ l) = ap (λ b. p x && b) (all_list p l)

-- the first refused number's refusal, in an accepted file: 18, except where all are below n
pub first_refusal : (s : List ℕ) → file_refusal s ≡ 0 → (asked : List ℕ) → first_fault (map (facility_refusal s) asked) ≡ (18 unless all (λ f. ltb f (facility_count s)) asked)
unfolding first_fault all facility_refusal
first_refusal s fine [] = refl
first_refusal s fine (f ∷ fs) =
    on_test (ltb f (facility_count s)) (λ e. rw (fine, e) (first_refusal s fine fs)) (λ e. rw (fine, e))

-- ---- a sum

-- what was added and what is left come to the whole
pub record Adding (f : ℕ → ℕ) (l : List ℕ) (i sum : ℕ) : Type 0 where
  pub left : sum + total f (drop i l) ≡ total f l

pub add_begun : {f : ℕ → ℕ} {l : List ℕ} → Adding f l 0 0
add_begun = record { left = omega arith }

module _ {f : ℕ → ℕ} {l : List ℕ} {i sum : ℕ} (w : Adding f l i sum) where
  pub add_ended : length l ≤ i → sum ≡ total f l
  unfolding total
  add_ended h = let whole : sum + 0 ≡ total f l = rw (drop_all l i h) at w.left in omega arith

  module _ (below : i < length l) where
    one_more : sum + (f (get_or l i 0) + total f (drop (suc i) l)) ≡ total f l
    unfolding total
    one_more = rw (drop-cons l i 0 below) at w.left

    pub add_turn : (k : ℕ) → k ≡ f (get_or l i 0) → Adding f l (i + 1) (sum + k)
    add_turn k e =
        let next : suc i ≡ i + 1 = omega arith in
        record { left = rw (← next, e) (omega (arith, one_more)) }

    -- what is added stays within the whole
    pub add_within : (k : ℕ) → k ≡ f (get_or l i 0) → sum + k ≤ total f l
    add_within k e = rw e (omega (arith, one_more))

-- where each is at most k
pub total_most : (f : ℕ → ℕ) (k : ℕ) (l : List ℕ) → ((i : ℕ) → i < length l → f (get_or l i 0) ≤ k) → total f l ≤ k * length l
unfolding total
total_most f k [] h = omega arith
total_most f k (x ∷ l) h =
    let first = h 0 (omega arith) in
    let rest = total_most f k l (λ i below. h (suc i) (omega arith)) in
    rw (mul-suc k (length l)) (omega arith)
