-- The walk record over two slices of 32-bit numbers: "a version over two u32 slices" of the pairs. One slice holds the numbers, the other
-- the pending offsets.
use Rattle.std.specs.Prelude.{ℕ, List, [], ◌∷◌, ◌++◌, map, length, drop}
use Rattle.lxt_format.specs.declared.Pair.{Pair}

-- the pairs of two lists, as many as the shorter one has
abbrev pub paired : List ℕ → List ℕ → List Pair
paired [] os = []
paired (n ∷ ns) [] = []
paired (n ∷ ns) (o ∷ os) = record { number = n; offset = o } ∷ paired ns os

-- the numbers of pairs, and their offsets
abbrev pub numbers_in : List Pair → List ℕ
numbers_in pairs = map (λ p. p.number) pairs

abbrev pub offsets_in : List Pair → List ℕ
offsets_in pairs = map (λ p. p.offset) pairs

-- a list whose first elements are replaced
abbrev pub onto : {A : Type 0} → List A → List A → List A
onto first rest = first ++ drop (length first) rest
