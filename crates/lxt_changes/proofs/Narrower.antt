-- A change of bits that breaks no rule at one width breaks none at any smaller one. This holds since refusal 16 no longer covers padding (paper 02,
-- Ask 6): before, the bits that a smaller width leaves unused had to be 0.
use Prim.Native.Nat.{ℕ, zero, suc, ◌+◌, ◌*◌, ◌-◌, ◌≤◌, ◌<◌, ◌/◌, ◌%◌}
use mathlib.Core.Path.{◌≡◌, sym, ◌∙◌}
use mathlib.Core.Logic.{◌⊎◌, ⊎_elim}
use mathlib.Core.Bool.{true, ◌&&◌}
use mathlib.Core.List.{List}
use lib.ListN.{length}
use lib.Dec.{leb, lit<, lit≤}
use native.Mathlib.Omega.{arith}
use native.Mathlib.Nat.{add-zero, mul-le-mul, le_refl}
use native.Mathlib.Decide.{ℕ_discrete}
use borrow.Author.Tests.{le-leb, lt-ltb}
use Rattle.lxt_format.specs.BasicsLaws.{and_both, both_and, range_all, all_range}
use Rattle.lxt_format.specs.Bytes.{byte_at}
use Rattle.lxt_format.specs.Changes.{Signal, signal, command_of, data_at, symbol_size, packed_size, codes_allowed, data_size, data_allowed, change_end, fault_at}
use Rattle.lxt_format.specs.Changes.{Sound}
use Rattle.lxt_format.proofs.ChangesLaws.{sound}
use Rattle.lxt_format.specs.declared.Kind.TheVariants.{Bits}
use Rattle.lxt_changes.specs.Windows.{good_byte, all_good}
use Rattle.lxt_changes.proofs.CodeLaws.{codes_none, codes_small, codes_even, codes_odd}
use Rattle.lxt_changes.proofs.FaultLaws.{symbol_cases}

-- ---- one symbol less

size_grows : (b width more : ℕ) → packed_size b width ≤ packed_size b (width + more)
unfolding packed_size
size_grows b width more =
    let l : width ≤ width + more = omega arith in
    let p : b * width ≤ b * (width + more) = mul-le-mul (le_refl b) l in
    omega arith

-- good bytes up to a lower end
good_shorter : (s : List ℕ) (from to end : ℕ) → to ≤ end → all_good s from end ≡ true → all_good s from to ≡ true
unfolding all_good
good_shorter s from to end h g =
    range_all (λ i. good_byte (byte_at s i)) from (to - from)
    (λ j a b. all_range (λ i. good_byte (byte_at s i)) from (end - from) g j a (omega arith))

good_at : (s : List ℕ) (from end i : ℕ) → from ≤ i → i < end → all_good s from end ≡ true → good_byte (byte_at s i) ≡ true
unfolding all_good
good_at s from end i a b g = all_range (λ j. good_byte (byte_at s j)) from (end - from) g i a (omega arith)

first_code : (x : ℕ) → good_byte x ≡ true → leb (x / 16 % 16) 8 ≡ true
unfolding good_byte
first_code x g = (and_both (leb (x / 16 % 16) 8) (leb (x % 16) 8) g).0

module _ (s : List ℕ) (width o : ℕ) (fits : o + packed_size 4 (suc width) ≤ length s) (h : codes_allowed s 4 (suc width) o ≡ true) where
  fewer_fit : o + packed_size 4 width ≤ length s
  unfolding packed_size
  fewer_fit = omega arith

  -- the symbol that goes was the first of its byte
  from_odd : width % 2 ≡ 0 → codes_allowed s 4 width o ≡ true
  from_odd e =
      let half : suc width / 2 ≡ width / 2 = omega arith in
      let n : suc width % 2 ≡ 0 → ⊥ = omega arith in
      let c : (all_good s o (o + suc width / 2) && leb (byte_at s (o + suc width / 2) / 16 % 16) 8) ≡ true = sym (codes_odd s (suc width) o fits n) ∙ h in
      codes_even s width o fewer_fit e ∙ (rw half at (and_both (all_good s o (o + suc width / 2)) (leb (byte_at s (o + suc width / 2) / 16 % 16) 8) c).0)

  -- the symbol that goes was the second
  from_even : (width % 2 ≡ 0 → ⊥) → codes_allowed s 4 width o ≡ true
  from_even n =
      let e : suc width % 2 ≡ 0 = omega arith in
      let c : all_good s o (o + suc width / 2) ≡ true = sym (codes_even s (suc width) o fits e) ∙ h in
      let last = good_at s o (o + suc width / 2) (o + width / 2) (omega arith) (omega arith) c in
      codes_odd s width o fewer_fit n ∙ both_and _ _ (good_shorter s o (o + width / 2) (o + suc width / 2) (omega arith) c) (first_code _ last)

  one_fewer : codes_allowed s 4 width o ≡ true
  one_fewer = elim (ℕ_discrete (width % 2) 0) [ yes e ↦ from_odd e | no n ↦ from_even n ]

-- ---- fewer symbols

fewer_4 : (s : List ℕ) (width more o : ℕ) → o + packed_size 4 (width + more) ≤ length s → codes_allowed s 4 (width + more) o ≡ true → codes_allowed s 4 width o ≡ true
fewer_4 s width zero o fits h = rw (add-zero width) at h
fewer_4 s width (suc more) o fits h =
    let e : width + suc more ≡ suc (width + more) = omega arith in
    let f : o + packed_size 4 (suc (width + more)) ≤ length s = rw e at fits in
    let g = size_grows 4 (width + more) 1 in
    let d : width + more + 1 ≡ suc (width + more) = omega arith in
    fewer_4 s width more o (omega (arith, rw d at g)) (one_fewer s (width + more) o f (rw e at h))

fewer : (s : List ℕ) (b width more o : ℕ) → ((b ≡ 0) ⊎ (b ≡ 1)) ⊎ ((b ≡ 2) ⊎ (b ≡ 4)) → o + packed_size b (width + more) ≤ length s
    → codes_allowed s b (width + more) o ≡ true → codes_allowed s b width o ≡ true
fewer s b width more o cases fits h =
    ⊎_elim (λ x. ⊎_elim (λ e. rw e (codes_none s width o)) (λ e. rw e (codes_small s 1 width o (lit< tt) (lit≤ tt))) x)
    (λ x. ⊎_elim (λ e. rw e (codes_small s 2 width o (lit< tt) (lit≤ tt))) (λ e. rw e (fewer_4 s width more o (rw e at fits) (rw e at h))) x) cases

-- ---- a narrower facility

-- a change that keeps all rules has no fault
pub no_fault : (s : List ℕ) (g : Signal) (o : ℕ) → Sound s g o → fault_at s g o ≡ 0
unfolding fault_at
no_fault s g o d =
    simp (le-leb g.from o d.starts, lt-ltb o g.end d.before, lt-ltb (byte_at s o) 0x40 d.top, d.command, le-leb _ _ d.ends, d.data', d.previous)

pub narrower : (s : List ℕ) (C T width more o : ℕ) → T ≤ length s → fault_at s (signal C T Bits (width + more)) o ≡ 0 → fault_at s (signal C T Bits width) o ≡ 0
unfolding change_end data_size data_allowed
narrower s C T width more o within h =
    let d = sound s (signal C T Bits (width + more)) o h in
    let b : ℕ = symbol_size (command_of s o) in
    let e = d.ends in
    let g = size_grows b width more in
    no_fault s (signal C T Bits width) o
    record {
      starts = d.starts;
      before = d.before;
      top = d.top;
      command = d.command;
      ends = omega arith;
      data' = fewer s b width more (data_at s o) (symbol_cases (command_of s o)) (omega arith) d.data';
      previous = d.previous;
    }
