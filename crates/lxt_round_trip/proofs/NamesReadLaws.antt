-- The names of a written file are read back.
use Prim.Native.Nat.{ℕ, zero, suc, ◌+◌, ◌*◌, ◌≤◌, ◌<◌}
use mathlib.Core.Path.{◌≡◌, refl, sym, ap, ◌∙◌}
use mathlib.Core.Bool.{true, not}
use mathlib.Core.List.{List, [], ◌∷◌, ◌++◌, append_assoc}
use mathlib.Core.Option.{some}
use lib.ListN.{length, take, drop, length-append, take-append-drop}
use lib.Seq.{take-append_seam, drop-append-add, drop-drop}
use lib.Dec.{eqb}
use native.Mathlib.Omega.{arith}
use native.Mathlib.Numerals.{add-one}
use borrow.Author.Tests.{eqb-true, not-true, le-leb, lt-ltb}
use Rattle.lxt_format.specs.Basics.{all}
use Rattle.lxt_format.specs.BasicsLaws.{on_test, and_both}
use Rattle.lxt_format.specs.Bytes.{u16_at, to_zero}
use Rattle.lxt_format.specs.Names.{named, names_in, names_size, memory_of}
use Rattle.lxt_chains.specs.Pending.{Each}
use Rattle.lxt_written.specs.WrittenChanges.{big_endian}
use Rattle.lxt_written.specs.WrittenFile.{shared, name_bytes, names_from}
use Rattle.lxt_written.specs.Writing.{no_zero}
use Rattle.lxt_written.specs.TableSizes.{name_long}
use Rattle.lxt_written.specs.Stands.{stands_whole, stands_front, stands_number, length_big_endian}

-- ---- the prefix that two names share

-- it is no longer than the name before
shared_before : (before name : List ℕ) → shared before name ≤ length before
unfolding shared
shared_before [] name = omega arith
shared_before (x ∷ before) [] = omega arith
shared_before (x ∷ before) (y ∷ name) =
    let ih = shared_before before name in on_test (eqb x y) (λ e. rw e (omega arith)) (λ e. rw e (omega arith))

-- nor than the name
shared_name : (before name : List ℕ) → shared before name ≤ length name
unfolding shared
shared_name [] name = omega arith
shared_name (x ∷ before) [] = omega arith
shared_name (x ∷ before) (y ∷ name) =
    let ih = shared_name before name in on_test (eqb x y) (λ e. rw e (omega arith)) (λ e. rw e (omega arith))

-- as many bytes of either are the same
shared_same : (before name : List ℕ) → take (shared before name) before ≡ take (shared before name) name
unfolding shared
shared_same [] name = refl
shared_same (x ∷ before) [] = refl
shared_same (x ∷ before) (y ∷ name) =
    let ih = shared_same before name in
    on_test (eqb x y) (λ e. rw (e, ih) (ap (λ z. z ∷ take (shared before name) name) (eqb-true x y e))) (λ e. rw e)

-- ---- bytes without a zero

-- the first zero stands after them
zero_after : (xs ys : List ℕ) → no_zero xs ≡ true → to_zero (xs ++ (0 ∷ ys)) ≡ length xs
unfolding no_zero all to_zero
zero_after [] ys h = refl
zero_after (x ∷ xs) ys h =
    let b = and_both (not (eqb x 0)) (all (λ b. not (eqb b 0)) xs) h in
    rw (not-true (eqb x 0) b.0) (ap suc (zero_after xs ys b.1))

-- what is left of them has none
no_zero_drop : (n : ℕ) (xs : List ℕ) → no_zero xs ≡ true → no_zero (drop n xs) ≡ true
unfolding no_zero all
no_zero_drop zero xs h = h
no_zero_drop (suc n) [] h = h
no_zero_drop (suc n) (x ∷ xs) h = no_zero_drop n xs (and_both (not (eqb x 0)) (all (λ b. not (eqb b 0)) xs) h).1

-- ---- one name

-- a prefix length, a suffix without a zero, a zero, and what follows
abbrev name_at : ℕ → List ℕ → List ℕ → List ℕ
name_at p suffix more = big_endian 2 p ++ (suffix ++ (0 ∷ more))

module _ (n p : ℕ) (suffix more : List ℕ) (small : p < 65536) (none : no_zero suffix ≡ true) where
  -- the prefix length is read
  prefix_read : u16_at (name_at p suffix more) 0 ≡ p
  unfolding u16_at
  prefix_read =
      let bs : List ℕ = name_at p suffix more in
      stands_number 2 p bs 0 (stands_front bs 0 (big_endian 2 p) (suffix ++ (0 ∷ more)) (stands_whole bs)) small

  -- what follows the prefix length
  after_prefix : drop 2 (name_at p suffix more) ≡ suffix ++ (0 ∷ more)
  unfolding big_endian
  after_prefix = refl

  -- what follows the zero
  after_suffix : drop (suc (length suffix)) (suffix ++ (0 ∷ more)) ≡ more
  after_suffix = rw (← (add-one (length suffix))) (drop-append-add suffix (0 ∷ more) 1)

  -- it is read as the name before, up to the prefix length, and the suffix
  name_next : (before : List ℕ) → p ≤ length before → length (take p before ++ suffix) ≤ 1023
      → names_in (suc n) (name_at p suffix more) before ≡ named (take p before ++ suffix) (names_in n more (take p before ++ suffix))
  unfolding names_in
  name_next before l short =
      let bs : List ℕ = name_at p suffix more in
      let z = zero_after suffix more none in
      let a = length-append (big_endian 2 p) (suffix ++ (0 ∷ more)) in
      let b = length-append suffix (0 ∷ more) in
      let c = length_big_endian 2 p in
      let long : 2 ≤ length bs = omega arith in
      let within : length suffix < length (suffix ++ (0 ∷ more)) = omega arith in
      rw (prefix_read, after_prefix, z, take-append_seam suffix (0 ∷ more), after_suffix)
      (rw (le-leb 2 (length bs) long, le-leb p (length before) l, lt-ltb (length suffix) _ within, le-leb _ 1023 short))

  -- it takes 2 bytes, the suffix and a zero
  size_next : names_size (suc n) (name_at p suffix more) ≡ 2 + length suffix + 1 + names_size n more
  unfolding names_size
  size_next =
      let z = zero_after suffix more none in
      let e : 2 + length suffix + 1 ≡ 2 + suc (length suffix) = omega arith in
      let d : drop (2 + suc (length suffix)) (name_at p suffix more) ≡ more =
      sym (drop-drop (suc (length suffix)) 2 (name_at p suffix more)) ∙ rw after_prefix after_suffix in
      rw (after_prefix, z, e, d)

-- ---- all names

-- a name and those after it, with what follows them
names_shape : (before name : List ℕ) (names : List (List ℕ)) (rest : List ℕ)
    → names_from before (name ∷ names) ++ rest ≡ name_at (shared before name) (drop (shared before name) name) (names_from name names ++ rest)
unfolding names_from name_bytes
names_shape before name names rest = simp append_assoc

-- a name that is not too long and has no zero
pub record NameKept (name : List ℕ) : Type 0 where
  pub short : length name ≤ 1023
  pub no_zero_lem : no_zero name ≡ true

-- the shared prefix and the rest make the name
prefix_suffix : (before name : List ℕ) → take (shared before name) before ++ drop (shared before name) name ≡ name
prefix_suffix before name = rw (shared_same before name) (take-append-drop (shared before name) name)

-- names that are written are read
pub names_read : (names : List (List ℕ)) (before rest : List ℕ) → Each NameKept names → names_in (length names) (names_from before names ++ rest) before ≡ some names
names_read [] before rest k = unfold names_in in refl
names_read (name ∷ names) before rest (Each.both h k) =
    let p : ℕ = shared before name in
    let l = shared_name before name in
    let e = prefix_suffix before name in
    let more : List ℕ = names_from name names ++ rest in
    let none = no_zero_drop p name h.no_zero_lem in
    let next = name_next (length names) p (drop p name) more (omega (arith, h.short)) none before (shared_before before name) (rw e h.short) in
    rw (names_shape before name names rest, next, e, names_read names name rest k)

-- and take the bytes that were written
pub names_size_lem : (names : List (List ℕ)) (before rest : List ℕ) → Each NameKept names → names_size (length names) (names_from before names ++ rest) ≡ length (names_from before names)
names_size_lem [] before rest k = unfold names_size names_from in refl
names_size_lem (name ∷ names) before rest (Each.both h k) =
    let p : ℕ = shared before name in
    let l = shared_name before name in
    let next = size_next (length names) p (drop p name) (names_from name names ++ rest) (omega (arith, h.short)) (no_zero_drop p name h.no_zero_lem) in
    rw (names_shape before name names rest, next, names_size_lem names name rest k) (sym (name_long before name names))

-- "M is the exact sum", which 4 bytes hold
pub memory_small : (names : List (List ℕ)) → Each NameKept names → memory_of names ≤ 1024 * length names
unfolding memory_of
memory_small [] k = omega arith
memory_small (name ∷ names) (Each.both h k) = omega (arith, h.short, memory_small names k)
