-- How long rows of equal length and written names are.
use Rattle.std.specs.Prelude.{ℕ, ◌+◌, ◌*◌, ◌≡◌, List, [], ◌∷◌, ◌++◌, length, drop}
use Rattle.std.proofs.Common.{sym, length-append, arith, mul-suc, mul-zero}
use Rattle.lxt_format.specs.Basics.{joined}
use Rattle.lxt_written.specs.Input.{Facility}
use Rattle.lxt_written.specs.WrittenChanges.{big_endian}
use Rattle.lxt_written.specs.WrittenFile.{words, shared, name_bytes, names_from, geometry_bytes}
use Rattle.lxt_written.specs.Stands.{length_big_endian}

-- ---- rows

-- rows of k bytes are k bytes each long
pub length_rows : {A : Type 0} (k : ℕ) (f : A → List ℕ) → ((x : A) → length (f x) ≡ k) → (xs : List A) → length (joined f xs) ≡ k * length xs
unfolding joined
length_rows k f size [] = sym (mul-zero k)
length_rows k f size (x ∷ xs) = omega (arith, length-append (f x) (joined f xs), size x, length_rows k f size xs, mul-suc k (length xs))

-- numbers of 4 bytes each
pub length_words : (xs : List ℕ) → length (words xs) ≡ 4 * length xs
length_words xs = length_rows 4 (big_endian 4) (length_big_endian 4) xs

-- a row of the geometry
pub length_geometry : (f : Facility) → length (geometry_bytes f) ≡ 16
unfolding geometry_bytes
length_geometry f = length_words _

-- ---- names

-- the bytes of a name and of those after it
pub name_long : (before name : List ℕ) (names : List (List ℕ))
    → length (names_from before (name ∷ names)) ≡ 2 + length (drop (shared before name) name) + 1 + length (names_from name names)
unfolding names_from name_bytes
name_long before name names =
    let b : List ℕ = big_endian 2 (shared before name) in
    let d : List ℕ = drop (shared before name) name in
    omega (arith, length-append (b ++ (d ++ (0 ∷ []))) (names_from name names), length-append b (d ++ (0 ∷ [])), length-append d (0 ∷ []), length_big_endian 2 (shared before name))
