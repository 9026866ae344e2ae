-- When packed symbols are allowed: always for 1 and 2 bits, by their bytes for 4.
use Prim.Native.Nat.{ℕ, zero, suc, ◌+◌, ◌*◌, ◌-◌, ◌≤◌, ◌<◌, ◌/◌, ◌%◌, ◌^◌}
use mathlib.Core.Path.{◌≡◌, refl, sym, ◌∙◌, ap}
use mathlib.Core.Logic.{⊎_elim}
use mathlib.Core.Bool.{Bool, true, false, ◌&&◌, and_assoc, and-true}
use mathlib.Core.List.{List, [], ◌∷◌, ◌++◌}
use lib.ListN.{length, take}
use lib.Seq.{take-nil, slice, slice-cons, slice_empty}
use lib.Dec.{leb, lit<, lit≤}
use native.Mathlib.Omega.{arith}
use native.Mathlib.Nat.{div-one, mod-lt}
use native.Mathlib.Decide.{ℕ_discrete}
use borrow.Author.Tests.{le-leb, lt-leb}
use Rattle.lxt_format.specs.Basics.{range, all, joined}
use Rattle.lxt_format.specs.BasicsLaws.{and_both, both_and}
use Rattle.lxt_format.specs.Bytes.{byte_at}
use Rattle.lxt_format.specs.Changes.{packed_size, digits, unpack, codes_at, codes_allowed}
use Rattle.lxt_changes.specs.Windows.{good_byte, all_good, Known, Answered, Data}
use Rattle.lxt_changes.specs.declared.symbols.Window.{Window}
use Rattle.std.specs.Prelude.{Some, None}
use Rattle.std.proofs.lemmas.Option.{none-some, same_Some}

-- ---- 4 bits: two codes a byte

pairing : (x : ℕ) (r q : Bool) → r ≡ q → (leb (x / 16 % 16) 8 && (leb (x / 1 % 16) 8 && r)) ≡ (good_byte x && q)
unfolding good_byte
pairing x r q e = rw (e, div-one x) (sym (and_assoc (leb (x / 16 % 16) 8) (leb (x % 16) 8) q))

-- the first 2 h codes of a part of the file are at most 8 exactly where the first h bytes are good; the rest of the codes follows
whole_bytes : (s : List ℕ) (o e h k : ℕ) → o + h ≤ e → e ≤ length s
    → all (λ code. leb code 8) (take (2 * h + k) (joined (digits 4 2) (slice o e s)))
    ≡ (all (λ i. good_byte (byte_at s i)) (range o h) && all (λ code. leb code 8) (take k (joined (digits 4 2) (slice (o + h) e s))))
unfolding all joined digits range
whole_bytes s o e zero k a b =
    let q : o + 0 ≡ o = omega arith in
    let d : 2 * 0 + k ≡ k = omega arith in
    rw (d, q)
whole_bytes s o e (suc h) k a b =
    let q : o + suc h ≡ suc o + h = omega arith in
    let d : 2 * suc h + k ≡ suc (suc (2 * h + k)) = omega arith in
    let rest : Bool = all (λ code. leb code 8) (take k (joined (digits 4 2) (slice (suc o + h) e s))) in
    rw (slice-cons o e s 0 (omega arith) b, q, d)
    (pairing (byte_at s o) _ _ (whole_bytes s (suc o) e h k (omega arith) b) ∙ sym (and_assoc (good_byte (byte_at s o)) (all (λ i. good_byte (byte_at s i)) (range (suc o) h)) rest))

-- ---- 1 and 2 bits: every code is small

small_digits : (b k x : ℕ) → 0 < 2 ^ b → 2 ^ b ≤ 8 → all (λ code. leb code 8) (digits b k x) ≡ true
unfolding all digits
small_digits b zero x p h = refl
small_digits b (suc k) x p h =
    let l : x / 2 ^ (b * k) % 2 ^ b < 2 ^ b = mod-lt (x / 2 ^ (b * k)) p in
    let g : x / 2 ^ (b * k) % 2 ^ b ≤ 8 = omega arith in
    both_and (leb (x / 2 ^ (b * k) % 2 ^ b) 8) (all (λ code. leb code 8) (digits b k x)) (le-leb _ _ g) (small_digits b k x p h)

all_append : {A : Type 0} (q : A → Bool) (l m : List A) → all q l ≡ true → all q m ≡ true → all q (l ++ m) ≡ true
unfolding all
all_append q [] m h k = k
all_append q (x ∷ l) m h k = let a = and_both (q x) (all q l) h in both_and _ _ a.0 (all_append q l m a.1 k)

all_take : {A : Type 0} (q : A → Bool) (w : ℕ) (l : List A) → all q l ≡ true → all q (take w l) ≡ true
unfolding all
all_take q zero l h = refl
all_take q (suc w) [] h = refl
all_take q (suc w) (x ∷ l) h = let a = and_both (q x) (all q l) h in both_and _ _ a.0 (all_take q w l a.1)

small_codes : (b k : ℕ) (bs : List ℕ) → 0 < 2 ^ b → 2 ^ b ≤ 8 → all (λ code. leb code 8) (joined (digits b k) bs) ≡ true
unfolding all joined
small_codes b k [] p h = refl
small_codes b k (x ∷ bs) p h = all_append (λ code. leb code 8) (digits b k x) _ (small_digits b k x p h) (small_codes b k bs p h)

-- ---- the codes of data in a file

module _ (s : List ℕ) (width o : ℕ) (fits : o + packed_size 4 width ≤ length s) where
  -- the codes of the first k places, by the data's part of the file
  small_codes_of : ℕ → Bool
  small_codes_of k = all (λ code. leb code 8) (take k (joined (digits 4 2) (slice o (o + packed_size 4 width) s)))

  good_halves : all_good s o (o + width / 2) ≡ all (λ i. good_byte (byte_at s i)) (range o (width / 2))
  unfolding all_good
  good_halves = let d : o + width / 2 - o ≡ width / 2 = omega arith in rw d

  size_is : packed_size 4 width ≡ (4 * width + 7) / 8
  unfolding packed_size
  size_is = refl

  -- an even width fills its bytes
  pub codes_even : width % 2 ≡ 0 → codes_allowed s 4 width o ≡ all_good s o (o + width / 2)
  unfolding codes_allowed codes_at unpack small_codes_of all
  codes_even e =
      let w : width ≡ 2 * (width / 2) + 0 = omega arith in
      let z = size_is in
      ap small_codes_of w ∙ whole_bytes s o (o + packed_size 4 width) (width / 2) 0 (omega arith) fits ∙ and-true _ ∙ sym good_halves

  -- the first code of a byte
  one_code : (x : ℕ) (l : List ℕ) → all (λ code. leb code 8) (take 1 (joined (digits 4 2) (x ∷ l))) ≡ leb (x / 16 % 16) 8
  unfolding all joined digits
  one_code x l = and-true _

  -- of an odd width the last byte has one code
  pub codes_odd : (width % 2 ≡ 0 → ⊥) → codes_allowed s 4 width o ≡ (all_good s o (o + width / 2) && leb (byte_at s (o + width / 2) / 16 % 16) 8)
  unfolding codes_allowed codes_at unpack small_codes_of
  codes_odd n =
      let w : width ≡ 2 * (width / 2) + 1 = omega arith in
      let z = size_is in
      ap small_codes_of w ∙ whole_bytes s o (o + packed_size 4 width) (width / 2) 1 (omega arith) fits
      ∙ rw (good_halves, slice-cons (o + width / 2) (o + packed_size 4 width) s 0 (omega arith) fits) (ap (λ b. all (λ i. good_byte (byte_at s i)) (range o (width / 2)) && b) (one_code _ _))

-- where there is no data there is no code
pub codes_none : (s : List ℕ) (width o : ℕ) → codes_allowed s 0 width o ≡ true
unfolding codes_allowed codes_at unpack packed_size all joined
codes_none s width o = let e : o + (0 * width + 7) / 8 ≡ o = omega arith in rw (e, slice_empty o s) (ap (all (λ code. leb code 8)) (take-nil width))

-- the codes of 1 and of 2 bits are always allowed
pub codes_small : (s : List ℕ) (b width o : ℕ) → 0 < 2 ^ b → 2 ^ b ≤ 8 → codes_allowed s b width o ≡ true
unfolding codes_allowed codes_at unpack
codes_small s b width o p h = all_take (λ code. leb code 8) width _ (small_codes b (8 / b) (slice o (o + packed_size b width) s) p h)

-- ---- the ways out of `codes_allowed`

module _ (s : List ℕ) (b width o : ℕ) (w : Window) (k : Known s w) (d : Data s b width o) where
  pub small : (b ≡ 4 → ⊥) → Answered s (codes_allowed s b width o) (Some w)
  small n = record { answer = sym codes; known = λ v e. rw (same_Some v w (sym e)) k }
    where
      codes : codes_allowed s b width o ≡ true
      codes =
          ⊎_elim (λ x. ⊎_elim (λ e. rw e (codes_none s width o)) (λ e. rw e (codes_small s 1 width o (lit< tt) (lit≤ tt))) x)
          (λ x. ⊎_elim (λ e. rw e (codes_small s 2 width o (lit< tt) (lit≤ tt))) (λ e. absurd (n e)) x) d.symbols

  module _ (four : b ≡ 4) where
    inside_4 : o + packed_size 4 width ≤ length s
    inside_4 = rw four at d.inside

    -- where the last code lies
    pub last_within : (o + width / 2 ≤ length s) × ((width % 2 ≡ 0 → ⊥) → o + width / 2 < length s)
    unfolding packed_size
    last_within = let i = inside_4 in (omega arith, λ n. omega arith)

    module _ (last : ℕ) (el : last ≡ o + width / 2) where
      pub wrong : Answered s (all_good s o last) None → Answered s (codes_allowed s b width o) None
      wrong a =
          record {
            answer = elim (ℕ_discrete (width % 2) 0) [
              | yes e ↦ a.answer ∙ rw (el, four) (sym (codes_even s width o inside_4 e))
              | no n ↦ (let f : all_good s o (o + width / 2) ≡ false = rw (← el) (sym a.answer) in rw four (sym (codes_odd s width o inside_4 n ∙ rw f)))
            ];
            known = λ w e. absurd (none-some w e);
          }

      module _ (x : Window) (a : Answered s (all_good s o last) (Some x)) where
        good : all_good s o (o + width / 2) ≡ true
        good = rw (← el) (sym a.answer)

        known' : (v : Window) → Some x ≡ Some v → Known s v
        known' v e = rw (same_Some v x (sym e)) (a.known x refl)

        pub even : width % 2 ≡ 0 → Answered s (codes_allowed s b width o) (Some x)
        even e = record { answer = a.answer ∙ rw (el, four) (sym (codes_even s width o inside_4 e)); known = known' }

        module _ (n : width % 2 ≡ 0 → ⊥) where
          pub odd : byte_at s last / 16 % 16 ≤ 8 → Answered s (codes_allowed s b width o) (Some x)
          odd h = record { answer = rw four (sym (codes_odd s width o inside_4 n ∙ rw (good, ← el) (le-leb _ _ h))); known = known' }

          pub odd_wrong : 8 < byte_at s last / 16 % 16 → Answered s (codes_allowed s b width o) None
          odd_wrong h = record { answer = rw four (sym (codes_odd s width o inside_4 n ∙ rw (good, ← el) (lt-leb _ _ h))); known = λ v e. absurd (none-some v e) }
