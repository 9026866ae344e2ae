-- Rows of equal length that stand in a file one after the other, and tables of numbers.
use Prim.Native.Nat.{ℕ, zero, suc, ◌+◌, ◌*◌, ◌-◌, ◌≤◌, ◌<◌}
use mathlib.Core.Path.{◌≡◌, refl, sym, ◌∙◌}
use mathlib.Core.List.{List, [], ◌∷◌, ◌++◌}
use lib.ListN.{length, get_or, take, drop, length-drop, take-append-drop}
use lib.Seq.{slice, length-take-le, length-slice, get_or-take, get_or-drop, drop-drop, ext_get_or}
use native.Mathlib.Omega.{arith}
use native.Mathlib.Nat.{mul-suc}
use Rattle.lxt_format.specs.Basics.{joined}
use Rattle.lxt_format.specs.Bytes.{number_at, u32_at, numbers_at}
use Rattle.lxt_chains.specs.Pending.{Each}
use Rattle.lxt_written.specs.WrittenChanges.{big_endian}
use Rattle.lxt_written.specs.WrittenFile.{words}
use Rattle.lxt_written.specs.Stands.{Stands, stands_front, stands_back, stands_number, length_big_endian}

module _ {A : Type 0} (k : ℕ) (f : A → List ℕ) (size : (x : A) → length (f x) ≡ k) where
  -- row i stands k bytes times i after the first
  pub stands_row : (s : List ℕ) (o : ℕ) (xs : List A) (d : A) → Stands s o (joined f xs) → (i : ℕ) → i < length xs → Stands s (o + k * i) (f (get_or xs i d))
  unfolding joined
  stands_row s o [] d h i l = absurd (omega arith)
  stands_row s o (x ∷ xs) d h zero l = let e : o + k * 0 ≡ o = omega arith in rw e (stands_front s o (f x) (joined f xs) h)
  stands_row s o (x ∷ xs) d h (suc i) l =
      let e : o + k * suc i ≡ o + length (f x) + k * i = omega (arith, mul-suc k i, size x) in
      rw e (stands_row s (o + length (f x)) xs d (stands_back s o (f x) (joined f xs) h) i (omega arith))

-- a number of 4 bytes is read as it was
pub stands_u32 : (x : ℕ) (s : List ℕ) (o : ℕ) → Stands s o (big_endian 4 x) → x < 4294967296 → u32_at s o ≡ x
unfolding u32_at
stands_u32 x s o h l = stands_number 4 x s o h l

-- and so is number i of a table
pub stands_word : (xs s : List ℕ) (o : ℕ) → Stands s o (words xs) → (i : ℕ) → i < length xs → get_or xs i 0 < 4294967296 → u32_at s (o + 4 * i) ≡ get_or xs i 0
stands_word xs s o h i l b = stands_u32 (get_or xs i 0) s (o + 4 * i) (stands_row 4 (big_endian 4) (length_big_endian 4) s o xs 0 h i l) b

-- and all of them
pub stands_words : (xs s : List ℕ) (o : ℕ) → Stands s o (words xs) → Each (λ x. x < 4294967296) xs → numbers_at 4 (length xs) s o ≡ xs
unfolding numbers_at joined
stands_words [] s o h b = refl
stands_words (x ∷ xs) s o h (Each.both l b) =
    let first : number_at 4 s o ≡ x = stands_number 4 x s o (stands_front s o (big_endian 4 x) (words xs) h) l in
    let e = length_big_endian 4 x in
    let rest : numbers_at 4 (length xs) s (o + 4) ≡ xs = stands_words xs s (o + 4) (rw e at (stands_back s o (big_endian 4 x) (words xs) h)) b in
    rw (first, rest)

-- bytes that stand at o head the part of the file from o on
pub slice_front : (s : List ℕ) (o T : ℕ) (bytes : List ℕ) → Stands s o bytes → o + length bytes ≤ T → T ≤ length s
    → slice o T s ≡ bytes ++ slice (o + length bytes) T s
slice_front s o T bytes h a b =
    let l : List ℕ = slice o T s in
    let n : ℕ = length bytes in
    let whole : length l ≡ T - o = length-slice o T s b in
    let long : length (take n l) ≡ n = length-take-le n l (omega arith) in
    let front : take n l ≡ bytes = ext_get_or 0 (take n l) bytes long (λ i k.
    let i-below : i < n = omega arith in
    let in_part_lem : o + i < T = omega arith in
    get_or-take n l i 0 i-below ∙ get_or-drop o (take T s) i 0 ∙ get_or-take T s (o + i) 0 in_part_lem ∙ h.same i i-below) in
    sym (take-append-drop n l) ∙ rw (front, drop-drop n o (take T s))

-- and are what is taken there
pub stands_part : (s : List ℕ) (o : ℕ) (bytes : List ℕ) → Stands s o bytes → take (length bytes) (drop o s) ≡ bytes
stands_part s o bytes h =
    let n : ℕ = length bytes in
    let long : length (take n (drop o s)) ≡ n = length-take-le n (drop o s) (omega (arith, length-drop o s, h.within)) in
    ext_get_or 0 (take n (drop o s)) bytes long
    (λ i k. let l : i < n = omega arith in get_or-take n (drop o s) i 0 l ∙ get_or-drop o s i 0 ∙ h.same i l)
