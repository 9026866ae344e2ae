-- Bytes that stand in a file, and what follows from it for reading numbers and parts.
use Rattle.std.specs.Prelude.{ℕ, zero, suc, ◌+◌, ◌≤◌, ◌<◌, ◌/◌, ◌%◌, ◌^◌, ◌≡◌, refl, List, [], ◌∷◌, ◌++◌, length, get_or, take}
use Rattle.std.proofs.Common.{sym, ap, ◌∙◌, length-append, get_or-append-add, get_or-take, get_or-drop, ext_get_or, arith, mod-eq_of_lt}
use Rattle.std.proofs.Math.ListN.{get_or-append}
use Rattle.std.proofs.Math.Seq.{slice, length-slice}
use Rattle.std.proofs.Math.Nat.{pow-succ'}
use Rattle.std.proofs.Math.Arith.{mod-mul}
use Rattle.lxt_format.specs.Bytes.{byte_at, number_at}
use Rattle.lxt_written.specs.WrittenChanges.{big_endian}

-- `bytes` stand in s from the offset o on
pub record Stands (s : List ℕ) (o : ℕ) (bytes : List ℕ) : Type 0 where
  pub within : o + length bytes ≤ length s
  pub same : (i : ℕ) → i < length bytes → byte_at s (o + i) ≡ get_or bytes i 0

-- ---- parts

-- the whole file stands in itself
pub stands_whole : (s : List ℕ) → Stands s 0 s
stands_whole s = record { within = omega arith; same = λ i h. let e : 0 + i ≡ i = omega arith in rw e }

-- of bytes that stand one after the other, the first and the second stand
module _ (s : List ℕ) (o : ℕ) (xs ys : List ℕ) (h : Stands s o (xs ++ ys)) where
  pub stands_front : Stands s o xs
  stands_front =
      let e = length-append xs ys in
      record {
        within = omega (arith, h.within);
        same = λ i k. h.same i (omega arith) ∙ get_or-append xs ys 0 i k;
      }

  pub stands_back : Stands s (o + length xs) ys
  stands_back =
      let e = length-append xs ys in
      record {
        within = omega (arith, h.within);
        same = λ i k.
            let a : o + length xs + i ≡ o + (length xs + i) = omega arith in
            rw a (h.same (length xs + i) (omega arith) ∙ get_or-append-add xs ys i 0);
      }

-- what stands in s is a part of it
pub stands_slice : (s : List ℕ) (o : ℕ) (bytes : List ℕ) → Stands s o bytes → slice o (o + length bytes) s ≡ bytes
stands_slice s o bytes h =
    let long : length (slice o (o + length bytes) s) ≡ length bytes = length-slice o (o + length bytes) s h.within ∙ omega arith in
    ext_get_or 0 (slice o (o + length bytes) s) bytes long
    (λ i k.
    let l : i < length bytes = omega arith in
    let m : o + i < o + length bytes = omega arith in
    get_or-drop o (take (o + length bytes) s) i 0 ∙ get_or-take (o + length bytes) s (o + i) 0 m ∙ h.same i l)

-- ---- numbers

-- a number in k bytes is k bytes long
pub length_big_endian : (k x : ℕ) → length (big_endian k x) ≡ k
unfolding big_endian
length_big_endian zero x = refl
length_big_endian (suc k) x = ap suc (length_big_endian k x)

-- a power of 256 is not 0
power_positive : (k : ℕ) → 0 < 256 ^ k
power_positive zero = omega arith
power_positive (suc k) = let h = power_positive k in rw (pow-succ' 256 k) (omega arith)

-- a number of k bytes that stands in a file is read as it was, up to what k bytes hold
stands_mod : (k x : ℕ) (s : List ℕ) (o : ℕ) → Stands s o (big_endian k x) → number_at k s o ≡ x % 256 ^ k
unfolding number_at big_endian
stands_mod zero x s o h = omega arith
stands_mod (suc k) x s o h =
    let first : byte_at s o ≡ x / 256 ^ k % 256 =
    let e : o + 0 ≡ o = omega arith in
    sym (ap (λ p. byte_at s p) e) ∙ h.same 0 (omega arith) in
    let e : o + 1 ≡ suc o = omega arith in
    let rest : Stands s (suc o) (big_endian k x) = rw e at (stands_back s o (x / 256 ^ k % 256 ∷ []) (big_endian k x) h) in
    rw (first, stands_mod k x s (suc o) rest, pow-succ' 256 k) (sym (mod-mul x (omega arith) (power_positive k)))

-- so a number that k bytes hold is read as it was
pub stands_number : (k x : ℕ) (s : List ℕ) (o : ℕ) → Stands s o (big_endian k x) → x < 256 ^ k → number_at k s o ≡ x
stands_number k x s o h l = stands_mod k x s o h ∙ mod-eq_of_lt l
