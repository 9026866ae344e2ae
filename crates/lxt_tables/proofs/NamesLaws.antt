-- The names by their lengths alone, and a law for each way out of the functions on names.
use Rattle.std.specs.Prelude.{if◌then◌else◌, Some, None}
use Rattle.std.specs.Prelude as std
use Prim.Native.Nat.{ℕ, zero, suc, ◌+◌, ◌-◌, ◌≤◌, ◌<◌, zero-le}
use mathlib.Core.Path.{◌≡◌, refl, sym, ◌∙◌, ap}
use mathlib.Core.Bool.{Bool, true, false, ◌&&◌, and-false}
use mathlib.Core.List.{List, [], ◌++◌}
use mathlib.Core.Option.{Option, none, some}
use lib.ListN.{length, take, drop, length-append, length-drop}
use lib.Seq.{slice, length-slice, length-take-le, drop-drop, get_or-drop, get_or-take}
use lib.Dec.{ltb, leb, leb-zero}
use native.Mathlib.Omega.{arith}
use native.Mathlib.Decide.{dec_le}
use native.Mathlib.Nat.{lt_of_not-le, add-zero}
use borrow.Author.Tests.{lt-ltb, le-ltb, le-leb, lt-leb, leb-true, ltb-true}
use Rattle.lxt_format.specs.Limits.{longest_name}
use Rattle.lxt_format.specs.BasicsLaws.{and_both}
use Rattle.lxt_format.specs.Bytes.{u16_at, to_zero}
use Rattle.lxt_format.specs.BytesLaws.{u16_bytes}
use Rattle.lxt_format.specs.declared.NameCursor.{NameCursor}
use Rattle.lxt_format.specs.Names.{named, names_in, memory_of, within_memory, names_size}
use Rattle.lxt_tables.specs.Steps.{end_of_names}

-- ---- lengths decide

-- the next n names in the bytes bs keep the rules, after a name of l bytes and with m bytes of memory left
unfoldable pub names_left : ℕ → List ℕ → ℕ → ℕ → Bool
names_left zero bs l m = true
names_left (suc n) bs l m =
    let prefix : ℕ = u16_at bs 0 in
    let rest : List ℕ = drop 2 bs in
    let size : ℕ = prefix + to_zero rest in
    let more : Bool = names_left n (drop (suc (to_zero rest)) rest) size (m - (size + 1)) in
    leb 2 (length bs) && (leb prefix l && (ltb (to_zero rest) (length rest) && (leb size longest_name && (leb (size + 1) m && more))))

-- one name more, and the memory
one_more : (m : ℕ) (name : List ℕ) (o : Option (List (List ℕ)))
    → (leb (length name + 1) m && within_memory (m - (length name + 1)) o) ≡ within_memory m (named name o)
unfolding memory_of
one_more m name none = simp and-false
one_more m name (some ns) =
    elim (dec_le (length name + 1) m) [
      | yes h ↦ elim (dec_le (memory_of ns) (m - (length name + 1))) [
        | yes g ↦ (let q : length name + 1 + memory_of ns ≤ m = omega arith in simp (le-leb _ _ h, le-leb _ _ g, le-leb _ _ q))
        | no g ↦ (let f = lt_of_not-le g in let q : m < length name + 1 + memory_of ns = omega arith in simp (le-leb _ _ h, lt-leb _ _ f, lt-leb _ _ q))
      ]
      | no h ↦ (let f = lt_of_not-le h in let q : m < length name + 1 + memory_of ns = omega arith in simp (lt-leb _ _ f, lt-leb _ _ q))
    ]

-- the lengths give what the names give
pub by_lengths : (n : ℕ) (bs before : List ℕ) (m : ℕ) → names_left n bs (length before) m ≡ within_memory m (names_in n bs before)
unfolding names_left names_in memory_of
by_lengths zero bs before m = simp (leb-zero m)
by_lengths (suc n) bs before m =
    let k : ℕ = u16_at bs 0 in
    let rest : List ℕ = drop 2 bs in
    let z : ℕ = to_zero rest in
    let name : List ℕ = take k before ++ take z rest in
    let ih = by_lengths n (drop (suc z) rest) name (m - (length name + 1)) in
    elim (dec_le 2 (length bs)) [
      | no a ↦ simp (lt-leb _ _ (lt_of_not-le a))
      | yes a ↦ elim (dec_le k (length before)) [
        | no b ↦ simp (le-leb _ _ a, lt-leb _ _ (lt_of_not-le b))
        | yes b ↦ elim (dec_le (suc z) (length rest)) [
          | no c ↦ simp (le-leb _ _ a, le-leb _ _ b, lt-leb _ _ (lt_of_not-le c))
          | yes c ↦ (
              let zl : z ≤ length rest = omega arith in
              let len : length name ≡ k + z = simp (length-append, length-take-le k before b, length-take-le z rest zl) in
              elim (dec_le (k + z) longest_name) [
                | no d ↦ (let f = lt_of_not-le d in let g : longest_name < length name = omega arith in simp (le-leb _ _ a, le-leb _ _ b, le-leb _ _ c, lt-leb _ _ f, lt-leb _ _ g))
                | yes d ↦ (let g : length name ≤ longest_name = omega arith in
                    simp (le-leb _ _ a, le-leb _ _ b, le-leb _ _ c, le-leb _ _ d, le-leb _ _ g)
                    (rw (← len) (ap (λ (x : Bool). leb (length name + 1) m && x) ih ∙ one_more m name (names_in n (drop (suc z) rest) name))))
              ]
              )
        ]
      ]
    ]

-- names that keep the rules take no more bytes than there are
fit_in : (n : ℕ) (bs : List ℕ) (l m : ℕ) → names_left n bs l m ≡ true → names_size n bs ≤ length bs
unfolding names_left names_size
fit_in zero bs l m h = zero-le
fit_in (suc n) bs l m h =
    let k : ℕ = u16_at bs 0 in
    let rest : List ℕ = drop 2 bs in
    let z : ℕ = to_zero rest in
    let more : Bool = names_left n (drop (suc z) rest) (k + z) (m - (k + z + 1)) in
    let a = and_both (leb 2 (length bs)) (leb k l && (ltb z (length rest) && (leb (k + z) longest_name && (leb (k + z + 1) m && more)))) h in
    let b = and_both (leb k l) (ltb z (length rest) && (leb (k + z) longest_name && (leb (k + z + 1) m && more))) a.1 in
    let c = and_both (ltb z (length rest)) (leb (k + z) longest_name && (leb (k + z + 1) m && more)) b.1 in
    let d = and_both (leb (k + z) longest_name) (leb (k + z + 1) m && more) c.1 in
    let f = and_both (leb (k + z + 1) m) more d.1 in
    let ih = fit_in n (drop (suc z) rest) (k + z) (m - (k + z + 1)) f.1 in
    let e : 2 + suc z ≡ 2 + z + 1 = omega arith in
    let g = simp (drop-drop (suc z) 2 bs, e, length-drop) at ih in
    omega (arith, g, ltb-true z (length rest) c.0, length-drop 2 bs)

-- so those from `at` up to T end at T or below it
pub end_within : (s : List ℕ) (at T n m : ℕ) → at ≤ T → T ≤ length s → within_memory m (names_in n (slice at T s) []) ≡ true
    → at + names_size n (slice at T s) ≤ T
end_within s at T n m l t h =
    let f = fit_in n (slice at T s) 0 m (by_lengths n (slice at T s) [] m ∙ h) in
    omega (arith, f, length-slice at T s t)

four_and : (a b c d r : Bool) → (a && (b && (c && (d && r)))) ≡ ((a && (b && (c && d))) && r)
four_and true true true true r = refl
four_and true true true false r = refl
four_and true true false d r = refl
four_and true false c d r = refl
four_and false b c d r = refl

shifted : (z T k : ℕ) → k ≤ z → ltb (z - k) (T - k) ≡ ltb z T
shifted z T k h =
    elim (dec_le T z) [
      | yes l ↦ (let g : T - k ≤ z - k = omega arith in simp (le-ltb _ _ l, le-ltb _ _ g))
      | no n ↦ (let l : z < T = omega arith in let g : z - k < T - k = omega arith in simp (lt-ltb _ _ l, lt-ltb _ _ g))
    ]

-- the offset after the next n names from p on up to T, after a name of l bytes and with m bytes of memory left; none where a rule is broken
unfoldable pub end_left : List ℕ → ℕ → ℕ → ℕ → ℕ → ℕ → std.Option ℕ
end_left s T n p l m = if names_left n (slice p T s) l m then Some (p + names_size n (slice p T s)) else None

-- ---- a turn of the loop over names, at offsets of the file: T is the offset of END, p that of the next name, n how many are left, l the
-- length of the name before and m the memory that is left; w is what the whole gives

module _ (s : List ℕ) (T : ℕ) (t : T ≤ length s) where
  head16 : (p : ℕ) → p + 2 ≤ T → u16_at (slice p T s) 0 ≡ u16_at s p
  head16 p h =
      let a : p < T = omega arith in
      let b : p + 1 < T = omega arith in
      simp (u16_bytes, get_or-drop p (take T s) 0 0, get_or-drop p (take T s) 1 0, add-zero, get_or-take T s p 0 a, get_or-take T s (p + 1) 0 b)

  opened : (n p l m : ℕ) → 0 < n → p + 2 ≤ T → names_left n (slice p T s) l m
      ≡ (let k : ℕ = u16_at s p in
      let y : ℕ = to_zero (slice (p + 2) T s) in
      leb k l && (ltb y (T - (p + 2)) && (leb (k + y) longest_name && (leb (k + y + 1) m && names_left (n - 1) (slice (p + 2 + suc y) T s) (k + y) (m - (k + y + 1))))))
  unfolding names_left
  opened zero p l m h room = absurd (omega arith)
  opened (suc n) p l m h room =
      let e : suc n - 1 ≡ n = omega arith in
      let two : 2 ≤ T - p = omega arith in
      simp (head16 p room, drop-drop 2 p (take T s), drop-drop (suc (to_zero (slice (p + 2) T s))) (p + 2) (take T s), length-slice p T s t, length-slice (p + 2) T s t, le-leb _ _ two, e)

  cut_off : (n p l m : ℕ) → 0 < n → T - p < 2 → names_left n (slice p T s) l m ≡ false
  unfolding names_left
  cut_off zero p l m h few = absurd (omega arith)
  cut_off (suc n) p l m h few = simp (length-slice p T s t, lt-leb _ _ few)

  size_opened : (n p : ℕ) → 0 < n → names_size n (slice p T s)
      ≡ (let size : ℕ = 2 + to_zero (slice (p + 2) T s) + 1 in size + names_size (n - 1) (slice (p + size) T s))
  unfolding names_size
  size_opened zero p h = absurd (omega arith)
  size_opened (suc n) p h =
      let e : suc n - 1 ≡ n = omega arith in
      simp (drop-drop 2 p (take T s), drop-drop (2 + to_zero (slice (p + 2) T s) + 1) p (take T s), e)

  module _ (all i p l m : ℕ) (w : std.Option ℕ) (inv : end_left s T (all - i) p l m ≡ w) (more : i < all) where
    n : ℕ
    n = all - i

    pos : 0 < n
    unfolding n
    pos = omega arith

    pub short : T - p < 2 → None ≡ w
    unfolding end_left n
    short few = rw (cut_off n p l m pos few) at inv

    -- v is what the prefix bytes say, z the offset of the first zero, b whether the name is short enough
    module _ (two : 2 ≤ T - p) (v : ℕ) (ev : v ≡ u16_at s p) (z : ℕ) (ez : z ≡ p + 2 + to_zero (slice (p + 2) T s)) (zT : z - (p + 2) ≤ T - (p + 2)) (b : Bool)
        (eb : b ≡ leb (v + (z - (p + 2))) longest_name) where
      abbrev size : ℕ
      size = v + (z - (p + 2))

      -- the tests of the next name, as the code makes them
      abbrev tests : Bool
      tests = leb v l && (ltb z T && (b && leb (size + 1) m))

      tested : names_left n (slice p T s) l m ≡ (tests && names_left (n - 1) (slice (z + 1) T s) size (m - (size + 1)))
      tested =
          let ek : u16_at s p ≡ v = sym ev in
          let ey : to_zero (slice (p + 2) T s) ≡ z - (p + 2) = omega arith in
          let e1 : p + 2 + suc (z - (p + 2)) ≡ z + 1 = omega arith in
          let el : leb (v + (z - (p + 2))) longest_name ≡ b = sym eb in
          (simp (ek, ey, e1, shifted z T (p + 2) (omega arith), el) at (opened n p l m pos (omega arith)))
          ∙ four_and (leb v l) (ltb z T) b (leb (size + 1) m) (names_left (n - 1) (slice (z + 1) T s) size (m - (size + 1)))

      after : p + names_size n (slice p T s) ≡ z + 1 + names_size (n - 1) (slice (z + 1) T s)
      after =
          let ey : to_zero (slice (p + 2) T s) ≡ z - (p + 2) = omega arith in
          let e1 : p + (2 + (z - (p + 2)) + 1) ≡ z + 1 = omega arith in
          let q = simp (ey, e1) at (size_opened n p pos) in
          omega (arith, q)

      pub broken : tests ≡ false → None ≡ w
      unfolding end_left n
      broken h = rw (rw h at tested) at inv

      module _ (h : tests ≡ true) where
        kept : (v ≤ l) × ((z < T) × ((size ≤ longest_name) × (size + 1 ≤ m)))
        kept =
            let q = and_both (leb v l) (ltb z T && (b && leb (size + 1) m)) h in
            let r = and_both (ltb z T) (b && leb (size + 1) m) q.1 in
            let f = and_both b (leb (size + 1) m) r.1 in
            (leb-true _ _ q.0, (ltb-true _ _ r.0, (leb-true _ _ (sym eb ∙ f.0), leb-true _ _ f.1)))

        pub memory_left : size + 1 ≤ m
        memory_left = kept.1.1.1

        pub within : z + 1 ≤ T
        within = omega (arith, kept.1.0)

        pub next : end_left s T (all - (i + 1)) (z + 1) size (m - (size + 1)) ≡ w
        unfolding end_left n
        next = let e : all - i - 1 ≡ all - (i + 1) = omega arith in rw e at (rw ((rw h at tested), after) at inv)

pub all_read : (s : List ℕ) (T all i p l m : ℕ) (w : std.Option ℕ) → end_left s T (all - i) p l m ≡ w → all ≤ i → Some p ≡ w
unfolding end_left names_left names_size
all_read s T all i p l m w inv h = let z : all - i ≡ 0 = omega arith in let e : p + 0 ≡ p = omega arith in rw (z, e) at inv

-- before the first name
module _ (s : List ℕ) (at T n m : ℕ) (c : NameCursor) (e : c ≡ record { at = at; before = 0; memory = m }) where
  pub first_within : at ≤ T → c.at ≤ T
  first_within h = rw e h

  pub first : end_left s T (n - 0) c.at c.before c.memory ≡ end_of_names s at T n m
  unfolding end_left end_of_names
  first = let z : n - 0 ≡ n = omega arith in rw (z, e) (rw (by_lengths n (slice at T s) [] m))
