-- Laws of a walk record over two slices: its pairs, and what its two columns hold afterwards.
use Prim.Native.Nat.{ℕ, zero, suc, ◌≤◌, ◌<◌, min}
use native.Mathlib.Nat.{min-zero, zero-min, suc-min-suc}
use native.Mathlib.Omega.{arith}
use mathlib.Core.Path.{◌≡◌, refl, sym, ap, ◌∙◌}
use mathlib.Core.List.{List, [], ◌∷◌, ◌++◌, map, append_assoc}
use lib.ListN.{length, get_or, set, take, drop, length-append, length-map}
use lib.Seq.{take-nil, drop-drop, drop_at}
use Rattle.lxt_format.specs.Basics.{range}
use Rattle.lxt_format.specs.BasicsLaws.{length_range}
use Rattle.lxt_format.specs.Columns.{paired, numbers_in, offsets_in, onto}
use Rattle.lxt_format.specs.Walk.{numbered, with_offsets}
use Rattle.lxt_format.specs.declared.Pair.{Pair}
use Rattle.lxt_chains.specs.Pending.{pair_of}
use Rattle.lxt_walk.proofs.Record.{offsets_numbered}

-- ---- the pairs of two lists

-- as many as the shorter list has
pub length_paired : (ns os : List ℕ) → length (paired ns os) ≡ min (length ns) (length os)
length_paired [] os = rw zero-min
length_paired (n ∷ ns) [] = rw min-zero
length_paired (n ∷ ns) (o ∷ os) = rw suc-min-suc (ap suc (length_paired ns os))

-- pair i holds element i of both
pub get_d_paired : (ns os : List ℕ) (i : ℕ) (d : Pair) → i < length ns → i < length os → get_or (paired ns os) i d ≡ pair_of (get_or ns i 0) (get_or os i 0)
get_d_paired [] os i d a b = absurd (omega arith)
get_d_paired (n ∷ ns) [] i d a b = absurd (omega arith)
get_d_paired (n ∷ ns) (o ∷ os) zero d a b = refl
get_d_paired (n ∷ ns) (o ∷ os) (suc i) d a b = get_d_paired ns os i d (omega arith) (omega arith)

pub take_paired : (k : ℕ) (ns os : List ℕ) → take k (paired ns os) ≡ paired (take k ns) (take k os)
take_paired zero ns os = refl
take_paired (suc k) [] os = refl
take_paired (suc k) (n ∷ ns) [] = refl
take_paired (suc k) (n ∷ ns) (o ∷ os) = ap (λ l. pair_of n o ∷ l) (take_paired k ns os)

-- no pairs where there are no offsets
paired_none : (ns : List ℕ) → paired ns [] ≡ []
paired_none [] = refl
paired_none (n ∷ ns) = refl

pub drop_paired : (k : ℕ) (ns os : List ℕ) → drop k (paired ns os) ≡ paired (drop k ns) (drop k os)
drop_paired zero ns os = refl
drop_paired (suc k) [] os = refl
drop_paired (suc k) (n ∷ ns) [] = sym (paired_none (drop k ns))
drop_paired (suc k) (n ∷ ns) (o ∷ os) = drop_paired k ns os

-- ---- the columns of pairs

pub length_numbers : (ps : List Pair) → length (numbers_in ps) ≡ length ps
length_numbers ps = rw length-map

pub length_offsets : (ps : List Pair) → length (offsets_in ps) ≡ length ps
length_offsets ps = rw length-map

-- pairs are those of their columns
pub paired_columns : (ps : List Pair) → paired (numbers_in ps) (offsets_in ps) ≡ ps
paired_columns [] = refl
paired_columns (p ∷ ps) = ap (λ l. p ∷ l) (paired_columns ps)

-- the columns of the pairs of two lists are their beginnings
pub numbers_paired : (ns os : List ℕ) → numbers_in (paired ns os) ≡ take (length os) ns
numbers_paired [] os = sym (take-nil (length os))
numbers_paired (n ∷ ns) [] = refl
numbers_paired (n ∷ ns) (o ∷ os) = ap (λ l. n ∷ l) (numbers_paired ns os)

pub offsets_paired : (ns os : List ℕ) → offsets_in (paired ns os) ≡ take (length ns) os
offsets_paired [] os = refl
offsets_paired (n ∷ ns) [] = refl
offsets_paired (n ∷ ns) (o ∷ os) = ap (λ l. o ∷ l) (offsets_paired ns os)

-- each list holds its column of the pairs
pub numbers_onto : (ns os : List ℕ) → onto (numbers_in (paired ns os)) ns ≡ ns
numbers_onto [] os = refl
numbers_onto (n ∷ ns) [] = refl
numbers_onto (n ∷ ns) (o ∷ os) = ap (λ l. n ∷ l) (numbers_onto ns os)

pub offsets_onto : (ns os : List ℕ) → onto (offsets_in (paired ns os)) os ≡ os
offsets_onto [] os = refl
offsets_onto (n ∷ ns) [] = refl
offsets_onto (n ∷ ns) (o ∷ os) = ap (λ l. o ∷ l) (offsets_onto ns os)

-- ---- a list whose first elements are replaced

-- it keeps its length
pub length_onto : {A : Type 0} (l r : List A) → length l ≤ length r → length (onto l r) ≡ length r
length_onto [] r h = refl
length_onto (x ∷ l) [] h = absurd (omega arith)
length_onto (x ∷ l) (y ∷ r) h = ap suc (length_onto l r (omega arith))

-- to store the element that follows is to replace one more
onto_here : {A : Type 0} (l r : List A) (x : A) → length l < length r → set (onto l r) (length l) x ≡ onto (l ++ (x ∷ [])) r
onto_here [] [] x h = absurd (omega arith)
onto_here [] (y ∷ r) x h = refl
onto_here (a ∷ l) [] x h = absurd (omega arith)
onto_here (a ∷ l) (y ∷ r) x h = ap (λ q. a ∷ q) (onto_here l r x (omega arith))

pub onto_next : {A : Type 0} (l r : List A) (x : A) (k : ℕ) → length l ≡ k → k < length r → set (onto l r) k x ≡ onto (l ++ (x ∷ [])) r
onto_next l r x k e h = rw (← e) (onto_here l r x (omega arith))

-- to replace as many twice is to replace them once
pub onto_again : {A : Type 0} (l m r : List A) → length l ≡ length m → onto l (onto m r) ≡ onto l r
onto_again l m r e = ap (λ q. l ++ q) (drop_at m (drop (length m) r) (length l) (sym e) ∙ rw e)

-- ---- a record with given pending offsets

numbers_numbered : (i : ℕ) (os : List ℕ) → numbers_in (numbered i os) ≡ range i (length os)
unfolding numbered range
numbers_numbered i [] = refl
numbers_numbered i (o ∷ os) = ap (λ l. i ∷ l) (numbers_numbered (suc i) os)

map_append : {A B : Type 0} (f : A → B) (l m : List A) → map f (l ++ m) ≡ map f l ++ map f m
map_append f [] m = refl
map_append f (x ∷ l) m = ap (λ r. f x ∷ r) (map_append f l m)

-- to replace the first elements is to replace some of them, and then those that follow
pub onto_append : {A : Type 0} (l m r : List A) → onto (l ++ m) r ≡ l ++ onto m (drop (length l) r)
onto_append l m r =
    append_assoc l m (drop (length (l ++ m)) r)
    ∙ ap (λ q. l ++ (m ++ q)) (ap (λ k. drop k r) (length-append l m) ∙ sym (drop-drop (length m) (length l) r))

module _ (ns os given : List ℕ) where
  -- one column holds the numbers 0, 1, ..
  pub numbers_with : onto (numbers_in (with_offsets (paired ns os) given)) ns ≡ onto (range 0 (length given)) ns
  unfolding with_offsets
  numbers_with =
      let k : ℕ = length given in
      let left : List ℕ = numbers_in (paired (drop k ns) (drop k os)) in
      let e : numbers_in (numbered 0 given ++ drop k (paired ns os)) ≡ range 0 k ++ left =
      map_append (λ p. p.number) (numbered 0 given) (drop k (paired ns os)) ∙ rw (numbers_numbered 0 given, drop_paired k ns os) in
      ap (λ l. onto l ns) e
      ∙ onto_append (range 0 k) left ns
      ∙ rw (length_range 0 k) (ap (λ l. range 0 k ++ l) (numbers_onto (drop k ns) (drop k os)))

  -- the other one the given offsets
  pub offsets_with_given : onto (offsets_in (with_offsets (paired ns os) given)) os ≡ onto given os
  unfolding with_offsets
  offsets_with_given =
      let k : ℕ = length given in
      let left : List ℕ = offsets_in (paired (drop k ns) (drop k os)) in
      let e : offsets_in (numbered 0 given ++ drop k (paired ns os)) ≡ given ++ left =
      map_append (λ p. p.offset) (numbered 0 given) (drop k (paired ns os)) ∙ rw (offsets_numbered 0 given, drop_paired k ns os) in
      ap (λ l. onto l os) e ∙ onto_append given left os ∙ ap (λ l. given ++ l) (offsets_onto (drop k ns) (drop k os))
