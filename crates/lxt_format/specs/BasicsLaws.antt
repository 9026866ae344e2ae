-- Laws of choices, refusals and lists of numbers.
use Prim.Native.Nat.{ℕ, zero, suc, ◌+◌, ◌-◌, ◌≤◌, ◌<◌}
use Rattle.std.specs.Prelude.{◌≡◌, Bool, false, ◌&&◌, ◌||◌, List, [], ◌∷◌, length, get_or}
use Rattle.std.proofs.Math.Path.{refl}
use Rattle.std.proofs.Common.{sym, ap, arith, eq-eqb, ne_eqb}
use Rattle.std.proofs.Math.Bool.{true}
use Rattle.std.proofs.lemmas.Bool.{false≢true}
use Rattle.std.proofs.Math.Decide.{ℕ_discrete}
use Rattle.lxt_format.specs.Basics.{◌unless◌, ◌or_else◌, Answer, given, refused, answer, range, all, any, first_fault}

-- ---- cases

-- by cases on a test; the test stands first, so that both cases know it
pub on_test {ℓ} : {P : Type ℓ} (b : Bool) → (b ≡ true → P) → (b ≡ false → P) → P
on_test true f g = f refl
on_test false f g = g refl

-- by cases on a number being 0
pub on_zero {ℓ} : {P : Type ℓ} (n : ℕ) → (n ≡ 0 → P) → (0 < n → P) → P
on_zero zero f g = f refl
on_zero (suc n) f g = g (omega arith)

pub and_both : (a b : Bool) → (a && b) ≡ true → (a ≡ true) × (b ≡ true)
and_both true b h = (refl, h)
and_both false b h = absurd (false≢true h)

pub both_and : (a b : Bool) → a ≡ true → b ≡ true → (a && b) ≡ true
both_and a b p q = rw (p, q)

pub or_either {ℓ} : {P : Type ℓ} (a b : Bool) → (a || b) ≡ true → (a ≡ true → P) → (b ≡ true → P) → P
or_either true b h f g = f refl
or_either false b h f g = g h

pub or_true : (a : Bool) {b : Bool} → b ≡ true → (a || b) ≡ true
or_true true h = refl
or_true false h = h

pub or_none : (a b : Bool) → (a || b) ≡ false → (a ≡ false) × (b ≡ false)
or_none true b h = absurd (false≢true (sym h))
or_none false b h = (refl, h)

-- ---- refusals

-- where a refusal with a number is not given, its rule is kept
pub kept : (k : ℕ) (b : Bool) → 0 < k → (k unless b) ≡ 0 → b ≡ true
kept k true p h = refl
kept k false p h = absurd (omega arith)

pub passes : (a b : ℕ) → a ≡ 0 → (a or_else b) ≡ b
passes a b e = rw e

pub stops : (a b : ℕ) → (a ≡ 0 → ⊥) → (a or_else b) ≡ a
stops a b n = simp (ne_eqb a 0 n)

-- nothing is refused exactly where neither refuses
pub neither : (a b : ℕ) → (a or_else b) ≡ 0 → (a ≡ 0) × (b ≡ 0)
neither a b h =
    elim (ℕ_discrete a 0) [ yes e ↦ (e, (rw (eq-eqb a 0 e) at h)) | no n ↦ absurd (n (simp (ne_eqb a 0 n) at h)) ]

-- where the rule k is kept, the refusals that follow decide; where it is not, k is given
pub next_check : (k rest : ℕ) (b : Bool) → b ≡ true → (k unless b or_else rest) ≡ rest
next_check k rest b e = rw e

pub this_check : (k rest : ℕ) (b : Bool) → (k ≡ 0 → ⊥) → b ≡ false → (k unless b or_else rest) ≡ k
this_check k rest b n e = rw e (simp (ne_eqb k 0 n))

-- an accepted answer, a refused one
pub answer_given : {A : Type 0} (r : ℕ) (a : A) → r ≡ 0 → answer r a ≡ given a
answer_given r a e = rw e

pub answer_refused : {A : Type 0} (r : ℕ) (a : A) → (r ≡ 0 → ⊥) → answer r a ≡ refused r
answer_refused r a n = simp (ne_eqb r 0 n)

-- and back: what is known of a refusal where an answer was given, and where it was refused
abbrev is_one : {A : Type 0} → Answer A → Bool
is_one (given a) = true
is_one (refused n) = false

abbrev one_or : {A : Type 0} → A → Answer A → A
one_or d (given a) = a
one_or d (refused n) = d

abbrev number_in : {A : Type 0} → Answer A → ℕ
number_in (given a) = 0
number_in (refused n) = n

pub was_given : {A : Type 0} (k : ℕ) (a b : A) → given b ≡ answer k a → (k ≡ 0) × (b ≡ a)
was_given {A} k a b h =
    elim (ℕ_discrete k 0) [
      | yes e ↦ (let g : given b ≡ given a = rw e at h in (e, ap (λ (r : Answer A). one_or b r) g))
      | no n ↦ (let g : given b ≡ refused k = simp (ne_eqb k 0 n) at h in absurd (false≢true (sym (ap (λ (r : Answer A). is_one r) g))))
    ]

pub was_refused : {A : Type 0} (k n : ℕ) (a : A) → refused n ≡ answer k a → (n ≡ k) × (k ≡ 0 → ⊥)
was_refused {A} k n a h =
    elim (ℕ_discrete k 0) [
      | yes e ↦ (let g : refused n ≡ given a = rw e at h in absurd (false≢true (ap (λ (r : Answer A). is_one r) g)))
      | no m ↦ (let g : refused n ≡ refused k = simp (ne_eqb k 0 m) at h in (ap (λ (r : Answer A). number_in r) g, m))
    ]

-- a refusal is passed on by the checks that begin with it
pub passed_on : {A B : Type 0} (k rest n : ℕ) (a : A) (b : B) → refused n ≡ answer k a → refused n ≡ answer (k or_else rest) b
passed_on k rest n a b h =
    let w = was_refused k n a h in
    rw w.0 (simp (ne_eqb k 0 w.1))

-- the same refusal in the place of another answer
pub same_refusal : {A B : Type 0} (k j n : ℕ) (a : A) (b : B) → j ≡ k → refused n ≡ answer k a → refused n ≡ answer j b
same_refusal k j n a b e h =
    let w = was_refused k n a h in
    rw (e, w.0) (simp (ne_eqb k 0 w.1))

-- and where they begin with none, those that follow decide
pub goes_on : {B : Type 0} (k rest : ℕ) (r : Answer B) (b : B) → k ≡ 0 → r ≡ answer rest b → r ≡ answer (k or_else rest) b
goes_on k rest r b z h = rw z h

-- a refusal of our own
pub refuses : {A : Type 0} (k n : ℕ) (a : A) → k ≡ n → (n ≡ 0 → ⊥) → refused n ≡ answer k a
refuses k n a e m = rw e (simp (ne_eqb n 0 m))

-- ---- ranges

pub length_range : (i k : ℕ) → length (range i k) ≡ k
unfolding range
length_range i zero = refl
length_range i (suc k) = ap suc (length_range (suc i) k)

pub get_d_range : (i k j d : ℕ) → j < k → get_or (range i k) j d ≡ i + j
unfolding range
get_d_range i zero j d h = absurd (omega arith)
get_d_range i (suc k) zero d h = omega arith
get_d_range i (suc k) (suc j) d h = let e : get_or (range (suc i) k) j d ≡ suc i + j = get_d_range (suc i) k j d (omega arith) in omega arith

-- what is left of the range from i up to n
pub range_upto : (i n : ℕ) → i < n → range i (n - i) ≡ i ∷ range (suc i) (n - suc i)
unfolding range
range_upto i n h = let e : n - i ≡ suc (n - suc i) = omega arith in rw e

pub range_done : (i n : ℕ) → n ≤ i → range i (n - i) ≡ []
unfolding range
range_done i n h = let e : n - i ≡ 0 = omega arith in rw e

-- ---- tests of every and of some number of a range

module _ (p : ℕ → Bool) where
  pub all_range : (i k : ℕ) → all p (range i k) ≡ true → (j : ℕ) → i ≤ j → j < i + k → p j ≡ true
  unfolding all range
  all_range i zero h j a b = absurd (omega arith)
  all_range i (suc k) h j a b =
      let both = and_both (p i) (all p (range (suc i) k)) h in
      let rest : (suc i ≤ j) → p j ≡ true = λ c. all_range (suc i) k both.1 j c (omega arith) in
      elim (ℕ_discrete j i) [ yes e ↦ rw e both.0 | no n ↦ rest (omega arith) ]

  pub range_all : (i k : ℕ) → ((j : ℕ) → i ≤ j → j < i + k → p j ≡ true) → all p (range i k) ≡ true
  unfolding all range
  range_all i zero h = refl
  range_all i (suc k) h =
      both_and (p i) (all p (range (suc i) k)) (h i (omega arith) (omega arith)) (range_all (suc i) k (λ j a b. h j (omega arith) (omega arith)))

  -- the turn of a loop that tests each number up to n
  pub all_turn : (i n : ℕ) → i < n → p i ≡ true → all p (range i (n - i)) ≡ all p (range (suc i) (n - suc i))
  unfolding all
  all_turn i n h e = rw (range_upto i n h, e)

  pub all_stop : (i n : ℕ) → i < n → p i ≡ false → all p (range i (n - i)) ≡ false
  unfolding all
  all_stop i n h e = rw (range_upto i n h, e)

  pub all_end : (i n : ℕ) → n ≤ i → all p (range i (n - i)) ≡ true
  unfolding all
  all_end i n h = rw (range_done i n h)

-- a test that holds of some number of a range
-- what holds of each holds at each place
pub all_at : {A : Type 0} (p : A → Bool) (l : List A) (i : ℕ) (d : A) → all p l ≡ true → i < length l → p (get_or l i d) ≡ true
unfolding all
all_at p [] i d a h = absurd (omega arith)
all_at p (x ∷ l) zero d a h = (and_both (p x) (all p l) a).0
all_at p (x ∷ l) (suc i) d a h = all_at p l i d (and_both (p x) (all p l) a).1 (omega arith)

pub any_range : {P : Type 0} (p : ℕ → Bool) (i k : ℕ) → any p (range i k) ≡ true → ((j : ℕ) → i ≤ j → j < i + k → p j ≡ true → P) → P
unfolding any range
any_range p i zero h found = absurd (false≢true h)
any_range {P} p i (suc k) h found =
    let rest : any p (range (suc i) k) ≡ true → P = λ e. any_range p (suc i) k e (λ j a b q. found j (omega arith) (omega arith) q) in
    or_either (p i) (any p (range (suc i) k)) h (λ e. found i (omega arith) (omega arith) e) rest

pub range_any : (p : ℕ → Bool) (i k j : ℕ) → i ≤ j → j < i + k → p j ≡ true → any p (range i k) ≡ true
unfolding any range
range_any p i zero j a b h = absurd (omega arith)
range_any p i (suc k) j a b h =
    let rest : suc i ≤ j → any p (range (suc i) k) ≡ true = λ c. range_any p (suc i) k j c (omega arith) h in
    elim (ℕ_discrete j i) [ yes e ↦ rw (← e, h) | no n ↦ or_true (p i) (rest (omega arith)) ]

-- ---- the first fault

pub fault_next : (k : ℕ) (l : List ℕ) → k ≡ 0 → first_fault (k ∷ l) ≡ first_fault l
unfolding first_fault
fault_next k l e = rw e

pub fault_here : (k : ℕ) (l : List ℕ) → (k ≡ 0 → ⊥) → first_fault (k ∷ l) ≡ k
unfolding first_fault
fault_here k l n = simp (ne_eqb k 0 n)
