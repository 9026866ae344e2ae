-- Laws of the sections of geometry and sync as they are put.
use Prim.Native.Nat.{ℕ, ◌+◌, ◌≤◌}
use native.Mathlib.Omega.{arith}
use mathlib.Core.Path.{◌≡◌, refl, ap, ◌∙◌}
use mathlib.Core.List.{List, [], ◌∷◌, ◌++◌, map}
use lib.ListN.{length, get_or}
use Rattle.lxt_format.specs.Basics.{joined}
use Rattle.lxt_format.specs.Buffers.{placed}
use Rattle.lxt_format.specs.declared.Kind.{Kind}
use Rattle.lxt_written.specs.Input.{kind_of_code, facility_of}
use Rattle.lxt_written.specs.WrittenChanges.{big_endian}
use Rattle.lxt_written.specs.WrittenFile.{words, geometry_bytes, msb_for, lsb_for, flags_for}
use Rattle.lxt_written.specs.Stands.{length_big_endian}
use Rattle.lxt_written.specs.TableSizes.{length_words, length_geometry}
use Rattle.lxt_pack.proofs.PutLaws.{Filling, fill_begun, fill_turn, fill_ended, RowsPut, rows_ended}

-- ---- a facility

-- a number and those after it
word_turn : (b : List ℕ) (at : ℕ) (text : List ℕ) (x : ℕ) (xs b' : List ℕ) (p : ℕ) → Filling b at text (words (x ∷ xs)) b' p
    → (b'' : List ℕ) → b'' ≡ placed b' p (big_endian 4 x) → (q : ℕ) → q ≡ p + 4 → Filling b at text (words xs) b'' q
unfolding joined
word_turn b at text x xs b' p w b'' e q eq = fill_turn b at text (big_endian 4 x) (words xs) b' p w b'' e q (rw (length_big_endian 4 x) eq)

-- no number is left
words_ended : (b : List ℕ) (at : ℕ) (text b' : List ℕ) (p : ℕ) → Filling b at text (words []) b' p → b' ≡ placed b at text
unfolding joined
words_ended b at text b' p w = fill_ended b at text b' p w

-- four numbers
four_put : (b : List ℕ) (at x y z w : ℕ) → at + 16 ≤ length b → (b1 b2 b3 b4 : List ℕ) → b1 ≡ placed b at (big_endian 4 x)
    → b2 ≡ placed b1 (at + 4) (big_endian 4 y) → b3 ≡ placed b2 (at + 8) (big_endian 4 z) → b4 ≡ placed b3 (at + 12) (big_endian 4 w)
    → b4 ≡ placed b at (words (x ∷ y ∷ z ∷ w ∷ []))
four_put b at x y z w h b1 b2 b3 b4 e1 e2 e3 e4 =
    let text : List ℕ = words (x ∷ y ∷ z ∷ w ∷ []) in
    let s0 = fill_begun b at text (omega (arith, length_words (x ∷ y ∷ z ∷ w ∷ []))) in
    let s1 = word_turn b at text x (y ∷ z ∷ w ∷ []) b at s0 b1 e1 (at + 4) refl in
    let s2 = word_turn b at text y (z ∷ w ∷ []) b1 (at + 4) s1 b2 e2 (at + 8) (omega arith) in
    let s3 = word_turn b at text z (w ∷ []) b2 (at + 8) s2 b3 e3 (at + 12) (omega arith) in
    let s4 = word_turn b at text w [] b3 (at + 12) s3 b4 e4 (at + 16) (omega arith) in
    words_ended b at text b4 (at + 16) s4

-- the four numbers of a facility
pub row_put : (row b : List ℕ) (at : ℕ) → at + 16 ≤ length b → {kind : Kind} → kind ≡ kind_of_code (get_or row 2 0)
    → {m l f : ℕ} → m ≡ msb_for kind (get_or row 3 0) → l ≡ lsb_for kind (get_or row 4 0) → f ≡ flags_for kind
    → {b1 b2 b3 b4 : List ℕ} → b1 ≡ placed b at (big_endian 4 0) → b2 ≡ placed b1 (at + 4) (big_endian 4 m) → b3 ≡ placed b2 (at + 8) (big_endian 4 l)
    → b4 ≡ placed b3 (at + 12) (big_endian 4 f) → b4 ≡ placed b at (geometry_bytes (facility_of [] row))
unfolding geometry_bytes facility_of
row_put row b at h {kind} ek {m} {l} {f} em el ef {b1} {b2} {b3} {b4} e1 e2 e3 e4 =
    let is : words (0 ∷ m ∷ l ∷ f ∷ []) ≡ geometry_bytes (facility_of [] row) = rw (em, el, ef, ek) in
    four_put b at 0 m l f h b1 b2 b3 b4 e1 e2 e3 e4 ∙ ap (λ t. placed b at t) is

-- ---- all facilities

-- the bytes of a row of the table
abbrev pub row_bytes : List ℕ → List ℕ
row_bytes row = geometry_bytes (facility_of [] row)

-- which are 16
pub length_row : (row : List ℕ) → length (row_bytes row) ≡ 16
length_row row = length_geometry (facility_of [] row)

-- what is joined of a list that was mapped
joined_map : {A B : Type 0} (g : B → List ℕ) (h : A → B) (xs : List A) → joined (λ x. g (h x)) xs ≡ joined g (map h xs)
unfolding joined
joined_map g h [] = refl
joined_map g h (x ∷ xs) = ap (λ l. g (h x) ++ l) (joined_map g h xs)

-- the rows that are put are those of the facilities
pub facilities_put : {rows : List (List ℕ)} {b : List ℕ} {at : ℕ} {b' : List ℕ} {p f : ℕ} → RowsPut row_bytes rows b at b' p f → length rows ≤ f
    → b' ≡ placed b at (joined geometry_bytes (map (facility_of []) rows))
facilities_put {rows} {b} {at} w h =
    rows_ended 16 row_bytes length_row [] w h ∙ ap (λ t. placed b at t) (joined_map geometry_bytes (facility_of []) rows)
