-- What the contracts of the crate say of a list of pairs.
use Rattle.std.specs.Prelude.{ℕ, List, ◌++◌, get_or, take, drop}
use Rattle.lxt_format.specs.declared.Pair.{Pair}

-- the pair that stands past the end
abbrev pub none : Pair
none = record { number = 0; offset = 0 }

-- the i-th pair
abbrev pub pair_at : List Pair → ℕ → Pair
pair_at pairs i = get_or pairs i none

-- d, with its first n elements replaced by s's first n
abbrev pub over : {A : Type 0} → List A → List A → ℕ → List A
over d s n = take n s ++ drop n d
