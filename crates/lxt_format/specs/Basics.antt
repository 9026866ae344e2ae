-- What the definitions are written with: a choice, answers and refusals, and lists of numbers.
use Rattle.std.specs.Prelude.{ℕ, zero, suc, ◌+◌, Bool, true, false, ◌&&◌, ◌||◌, List, [], ◌∷◌, ◌++◌, eqb, if◌then◌else◌}

infixr 2 ◌or_else◌
infix 3 ◌unless◌
-- ---- refusals: a number, 0 where nothing is refused

-- the refusal k, except where a rule is kept
abbrev pub ◌unless◌ : ℕ → Bool → ℕ
k unless kept = if kept then 0 else k

-- "The lowest that applies is given, a check being made only where those before it passed."
abbrev pub ◌or_else◌ : ℕ → ℕ → ℕ
a or_else b = if eqb a 0 then b else a

-- "A refusal answers its number only"
pub data Answer (A : Type 0) : Type 0 where
  given : A → Answer A
  refused : ℕ → Answer A

abbrev pub answer : {A : Type 0} → ℕ → A → Answer A
answer refusal a = if eqb refusal 0 then given a else refused refusal

-- "changes nothing lent": what is lent holds `after` where nothing is refused, and else what it held before
abbrev pub lent_after : {A : Type 0} → ℕ → List A → List A → List A
lent_after refusal after before = if eqb refusal 0 then after else before

-- ---- lists

-- the k numbers from i on
unfoldable pub range : ℕ → ℕ → List ℕ
range i zero = []
range i (suc k) = i ∷ range (suc i) k

-- a test holds of each, of one
unfoldable pub all : {A : Type 0} → (A → Bool) → List A → Bool
all p [] = true
all p (x ∷ l) = p x && all p l

unfoldable pub any : {A : Type 0} → (A → Bool) → List A → Bool
any p [] = false
any p (x ∷ l) = p x || any p l

-- those of which a test holds, in order
unfoldable pub select : {A : Type 0} → (A → Bool) → List A → List A
select p [] = []
select p (x ∷ l) = if p x then x ∷ select p l else select p l

-- the lists that f gives, laid one after the other
unfoldable pub joined : {A B : Type 0} → (A → List B) → List A → List B
joined f [] = []
joined f (x ∷ l) = f x ++ joined f l

-- the numbers that f gives, added up
unfoldable pub total : {A : Type 0} → (A → ℕ) → List A → ℕ
total f [] = 0
total f (x ∷ l) = f x + total f l

-- the first number that is not 0, or 0
unfoldable pub first_fault : List ℕ → ℕ
first_fault [] = 0
first_fault (k ∷ l) = k or_else first_fault l
