-- Laws on lists of pairs, and on a copy of a list's first elements over another's.
--     over_suc, length_over     a copy of a list's first elements over another's: one more copied, the length
--     numbers_at_lem, offsets_at, pairs_at     what stands at an index
-- Assumes nothing.
use mathlib.Core.Path.{◌≡◌, refl, sym, ◌∙◌, ap, subst}
use Prim.Native.Nat.{ℕ, zero, suc, ◌+◌, ◌<◌, ◌≤◌, ◌^◌, ◌*◌}
use native.Mathlib.Nat.{le_of_lt, not-suc-le-zero, le_of_suc-le-suc, add-sub_of_le}
use native.Mathlib.Numerals.{add-one}
use native.Mathlib.Omega.{arith}
use mathlib.Core.List.{List, [], ◌∷◌, ◌++◌}
use lib.ListN.{length, get_or, set, take, drop, length-append, length-drop, length-map, get_or-map}
use lib.Seq.{drop-cons, set_at, take-suc, append_snoc, length-take-le}
use Rattle.lxt_format.specs.declared.Pair.{Pair}
use Rattle.lxt_format.specs.Columns.{paired, numbers_in, offsets_in}
use Rattle.lxt_record.specs.Rooms.{none, pair_at, over}

-- the place of an element of 8 bytes, or of 4, does not wrap
pub fits8 : (n i : ℕ) → i < n → n * 8 < 2 ^ 63 → i * 8 < 2 ^ 64
fits8 n i l g = omega (arith, l, g)

pub fits4 : (n i : ℕ) → i < n → n * 4 < 2 ^ 63 → i * 4 < 2 ^ 64
fits4 n i l g = omega (arith, l, g)

pub over_suc : {A : Type 0} (d s : List A) (j : ℕ) (z : A) → j < length d → j < length s → set (over d s j) j (get_or s j z) ≡ over d s (j + 1)
over_suc {A} d s j z hd hs =
    ap (λ (r : List A). set (take j s ++ r) j (get_or s j z)) (drop-cons d j z hd)
    ∙ set_at (take j s) (get_or d j z) (drop (suc j) d) (get_or s j z) j (length-take-le j s (le_of_lt hs))
    ∙ sym (append_snoc (take j s) (get_or s j z) (drop (suc j) d))
    ∙ ap (λ (r : List A). r ++ drop (suc j) d) (sym (take-suc s j z hs))
    ∙ ap (over d s) (sym (add-one j))

pub length_over : {A : Type 0} (d s : List A) (n : ℕ) → n ≤ length d → n ≤ length s → length (over d s n) ≡ length d
length_over d s n hd hs = length-append (take n s) (drop n d) ∙ ap (λ (k : ℕ). k + length (drop n d)) (length-take-le n s hs) ∙ ap (λ (k : ℕ). n + k) (length-drop n d) ∙ add-sub_of_le hd

pub numbers_at_lem : (ps : List Pair) (i : ℕ) → get_or (numbers_in ps) i 0 ≡ (pair_at ps i).number
numbers_at_lem ps i = get_or-map (λ (p : Pair). p.number) ps i none

pub offsets_at : (ps : List Pair) (i : ℕ) → get_or (offsets_in ps) i 0 ≡ (pair_at ps i).offset
offsets_at ps i = get_or-map (λ (p : Pair). p.offset) ps i none

pub numbers_suc : (d : List ℕ) (ps : List Pair) (j : ℕ) → j < length d → j < length ps → set (over d (numbers_in ps) j) j (pair_at ps j).number ≡ over d (numbers_in ps) (j + 1)
numbers_suc d ps j hd hs = ap (set (over d (numbers_in ps) j) j) (sym (numbers_at_lem ps j)) ∙ over_suc d (numbers_in ps) j 0 hd (subst (λ (k : ℕ). j < k) (sym (length-map ps (λ (p : Pair). p.number))) hs)

pub offsets_suc : (d : List ℕ) (ps : List Pair) (j : ℕ) → j < length d → j < length ps → set (over d (offsets_in ps) j) j (pair_at ps j).offset ≡ over d (offsets_in ps) (j + 1)
offsets_suc d ps j hd hs = ap (set (over d (offsets_in ps) j) j) (sym (offsets_at ps j)) ∙ over_suc d (offsets_in ps) j 0 hd (subst (λ (k : ℕ). j < k) (sym (length-map ps (λ (p : Pair). p.offset))) hs)

pub length_numbers_over : (d : List ℕ) (ps : List Pair) (n : ℕ) → n ≤ length d → n ≤ length ps → length (over d (numbers_in ps) n) ≡ length d
length_numbers_over d ps n hd hs = length_over d (numbers_in ps) n hd (subst (λ (k : ℕ). n ≤ k) (sym (length-map ps (λ (p : Pair). p.number))) hs)

pub length_offsets_over : (d : List ℕ) (ps : List Pair) (n : ℕ) → n ≤ length d → n ≤ length ps → length (over d (offsets_in ps) n) ≡ length d
length_offsets_over d ps n hd hs = length_over d (offsets_in ps) n hd (subst (λ (k : ℕ). n ≤ k) (sym (length-map ps (λ (p : Pair). p.offset))) hs)

pub pairs_at : (ns os : List ℕ) (i : ℕ) → i < length ns → i < length os → pair_at (paired ns os) i ≡ record { number = get_or ns i 0; offset = get_or os i 0 }
pairs_at [] os i h k = absurd (not-suc-le-zero h)
pairs_at (n ∷ ns) [] i h k = absurd (not-suc-le-zero k)
pairs_at (n ∷ ns) (o ∷ os) zero h k = refl
pairs_at (n ∷ ns) (o ∷ os) (suc i) h k = pairs_at ns os i (le_of_suc-le-suc h) (le_of_suc-le-suc k)

pub lt_pairs : (ns os : List ℕ) (i : ℕ) → i < length ns → i < length os → i < length (paired ns os)
lt_pairs [] os i h k = absurd (not-suc-le-zero h)
lt_pairs (n ∷ ns) [] i h k = absurd (not-suc-le-zero k)
lt_pairs (n ∷ ns) (o ∷ os) zero h k = omega arith
lt_pairs (n ∷ ns) (o ∷ os) (suc i) h k = omega (arith, lt_pairs ns os i (le_of_suc-le-suc h) (le_of_suc-le-suc k))

pub le_pairs : (ns os : List ℕ) (i : ℕ) → i ≤ length ns → i ≤ length os → i ≤ length (paired ns os)
le_pairs ns os zero h k = omega arith
le_pairs [] os (suc i) h k = absurd (not-suc-le-zero h)
le_pairs (n ∷ ns) [] (suc i) h k = absurd (not-suc-le-zero k)
le_pairs (n ∷ ns) (o ∷ os) (suc i) h k = omega (arith, le_pairs ns os i (le_of_suc-le-suc h) (le_of_suc-le-suc k))

pub pairs_suc : (d : List Pair) (ns os : List ℕ) (j : ℕ) → j < length d → j < length ns → j < length os → set (over d (paired ns os) j) j (record { number = get_or ns j 0; offset = get_or os j 0 }) ≡ over d (paired ns os) (j + 1)
pairs_suc d ns os j hd hn ho = ap (set (over d (paired ns os) j) j) (sym (pairs_at ns os j hn ho)) ∙ over_suc d (paired ns os) j none hd (lt_pairs ns os j hn ho)

pub pairs_turn : (d l : List Pair) (ns os : List ℕ) (j : ℕ) → l ≡ over d (paired ns os) j → j < length d → j < length ns → j < length os
    → set l j (record { number = get_or ns j 0; offset = get_or os j 0 }) ≡ over d (paired ns os) (j + 1)
pairs_turn d l ns os j e hd hn ho = rw e (pairs_suc d ns os j hd hn ho)
