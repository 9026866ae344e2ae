-- What the functions over the rows of the two tables answer and ask.
use Rattle.std.specs.Prelude.{ℕ, ◌*◌, ◌≤◌, ◌≡◌, Bool, true, false, ◌&&◌, Option, Some, None, List, [], ◌∷◌, ◌++◌, map, length, drop}
use Rattle.lxt_format.specs.Basics.{all, any}
use Rattle.lxt_format.specs.Names.{memory_of}
use Rattle.lxt_format.specs.Reals.{is_real}
use Rattle.lxt_written.specs.Input.{facility_of, facility_row_allowed}
use Rattle.lxt_written.specs.WrittenChanges.{big_endian}
use Rattle.lxt_written.specs.WrittenFile.{names_from}
use Rattle.lxt_written.specs.Writing.{facility_allowed}
use Rattle.lxt_facilities.specs.declared.names.Measured.{Measured}

-- the names of the facilities of a table
abbrev pub names_in : List ℕ → List (List ℕ) → List (List ℕ)
names_in names rows = map (λ f. f.name) (map (facility_of names) rows)

-- all rows of a table mean facilities that are allowed
unfoldable pub facilities_allowed : List ℕ → List (List ℕ) → Bool
facilities_allowed names rows = all (λ row. facility_row_allowed names row && facility_allowed (facility_of names row)) rows

-- the first pass over facilities that are all allowed: what their names take, M, and whether one is a real
pub record FacilitiesFound (names : List ℕ) (rows : List (List ℕ)) (m : Measured) : Type 0 where
  pub sound : facilities_allowed names rows ≡ true
  pub size : m.size ≡ length (names_from [] (names_in names rows))
  pub memory : m.memory ≡ memory_of (names_in names rows)
  pub real : m.real ≡ any (λ f. is_real f.kind) (map (facility_of names) rows)
  pub size_most : m.size ≤ 1026 * length rows
  pub memory_most : m.memory ≤ 1024 * length rows

-- it finds nothing exactly where one is not allowed
abbrev pub FacilitiesMeasured : List ℕ → List (List ℕ) → Option Measured → Type 0
FacilitiesMeasured names rows (Some m) = FacilitiesFound names rows m
FacilitiesMeasured names rows None = facilities_allowed names rows ≡ false

-- a name with a prefix of k bytes of the name before
abbrev pub with_prefix : ℕ → List ℕ → List ℕ
with_prefix k name = big_endian 2 k ++ (drop k name ++ (0 ∷ []))
