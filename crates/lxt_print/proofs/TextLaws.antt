-- Laws of text that is put into a buffer, and of numbers as text.
use Rattle.std.specs.Prelude.{if◌then◌else◌}
use Rattle.std.specs.Int.{to_be_bytes}
use Rattle.std.proofs.Common.{w64}
use Prim.Native.Nat.{ℕ, zero, suc, ◌+◌, ◌*◌, ◌-◌, ◌/◌, ◌%◌, ◌≤◌, ◌<◌}
use native.Mathlib.Omega.{arith}
use native.Mathlib.Decide.{dec_le}
use mathlib.Core.Path.{◌≡◌, refl, sym, ap, ◌∙◌}
use mathlib.Core.List.{List, [], ◌∷◌, ◌++◌, append_assoc}
use lib.ListN.{length, get_or, set, take, length-append, length-set}
use lib.Seq.{length-take-le, take_all, take-suc}
use lib.Dec.{eqb}
use borrow.Author.Tests.{lt-ltb, le-ltb, eq-eqb, ne_eqb}
use Rattle.lxt_format.specs.Basics.{joined}
use Rattle.lxt_format.specs.Changes.{digits}
use Rattle.lxt_print.specs.Lines.{decimal_within, decimal, hex_digit, hex_byte, hex_bytes}
use Rattle.lxt_print.specs.Placing.{Put}
use Rattle.lxt_format.specs.Buffers.{placed, placed_none, placed_byte, placed_before}

-- ---- decimal digits

-- the k lowest digits of a number
unfoldable pub low : ℕ → ℕ → List ℕ
low zero n = []
low (suc k) n = low k (n / 10) ++ ((48 + n % 10) ∷ [])

pub length_low : (k n : ℕ) → length (low k n) ≡ k
unfolding low
length_low zero n = refl
length_low (suc k) n = let ih = length_low k (n / 10) in let e = length-append (low k (n / 10)) ((48 + n % 10) ∷ []) in omega arith

-- the digits of a number, as many as it has
within_low : (k n : ℕ) → decimal_within k n ≡ low (length (decimal_within k n)) n
unfolding decimal_within low
within_low zero n = refl
within_low (suc k) n =
    let ih = within_low k (n / 10) in
    let x : List ℕ = (48 + n % 10) ∷ [] in
    elim (dec_le 10 n) [
      | yes h ↦ (let e : length (decimal_within k (n / 10) ++ x) ≡ suc (length (decimal_within k (n / 10))) = length-append (decimal_within k (n / 10)) x ∙ omega arith in
          rw (le-ltb n 10 h, e) (ap (λ l. l ++ x) ih))
      | no h ↦ rw (lt-ltb n 10 (omega arith))
    ]

pub decimal_low : (n : ℕ) → decimal n ≡ low (length (decimal n)) n
unfolding decimal
decimal_low n = within_low 20 n

-- how many digits a number has above its last
unfoldable pub counted : ℕ → ℕ → ℕ
counted j m = if eqb m 0 then 0 else length (decimal_within j m)

more_digits : (j m : ℕ) → length (decimal_within (suc j) m) ≡ suc (counted j (m / 10))
unfolding decimal_within counted
more_digits j m =
    let x : List ℕ = (48 + m % 10) ∷ [] in
    elim (dec_le 10 m) [
      | yes h ↦ (let n : m / 10 ≡ 0 → ⊥ = λ e. omega arith in
          rw (le-ltb m 10 h, ne_eqb (m / 10) 0 n) (length-append (decimal_within j (m / 10)) x ∙ omega arith))
      | no h ↦ (let z : m / 10 ≡ 0 = omega arith in rw (lt-ltb m 10 (omega arith), eq-eqb (m / 10) 0 z))
    ]

counted_more : (j m : ℕ) → 0 < m → counted (suc j) m ≡ suc (counted j (m / 10))
unfolding counted
counted_more j m h = let n : m ≡ 0 → ⊥ = λ e. omega arith in rw (ne_eqb m 0 n) (more_digits j m)

-- powers of ten
unfoldable pub tens : ℕ → ℕ
tens zero = 1
tens (suc k) = 10 * tens k

-- k digits are counted, and `rest` holds those that are left
pub record Counting (n k rest : ℕ) : Type 0 where
  pub same : k + counted (20 - k) rest ≡ length (decimal n)
  pub fits : rest < tens (20 - k)
  pub most : k ≤ 20

pub count_begun : (n : ℕ) → n < 18446744073709551616 → Counting n 1 (n / 10)
unfolding decimal
count_begun n h =
    record {
      same = let e = more_digits 19 n in omega arith;
      fits = unfold tens in omega arith;
      most = omega arith;
    }

module _ (n k rest : ℕ) (w : Counting n k rest) where
  pub count_turn : 0 < rest → Counting n (k + 1) (rest / 10)
  unfolding tens
  count_turn h =
      let m = w.most in
      let f = w.fits in
      let below : k < 20 = elim (dec_le 20 k) [
        | yes q ↦ (let z : 20 - k ≡ 0 = omega arith in let g : rest < tens 0 = rw z at f in absurd (omega arith))
        | no q ↦ omega arith
      ] in
      let e : 20 - k ≡ suc (20 - (k + 1)) = omega arith in
      let one : counted (20 - k) rest ≡ suc (counted (20 - (k + 1)) (rest / 10)) =
      rw e (counted_more (20 - (k + 1)) rest h) in
      let s = w.same in
      let g : rest < tens (suc (20 - (k + 1))) = rw e at f in
      let g2 : rest < 10 * tens (20 - (k + 1)) = g in
      record { same = omega arith; fits = omega arith; most = omega arith }

  pub count_ended : rest ≤ 0 → (k ≡ length (decimal n)) × (k ≤ 20)
  unfolding counted
  count_ended h =
      let z : rest ≡ 0 = omega arith in
      let s : k + 0 ≡ length (decimal n) = rw (z) at w.same in
      (omega arith, w.most)

-- digits are stored down to place i, and `rest` holds those above
pub record Storing (b : List ℕ) (at n : ℕ) (b' : List ℕ) (i rest : ℕ) : Type 0 where
  pub same : placed b' at (low (i - at) rest) ≡ placed b at (decimal n)
  pub from : at ≤ i
  pub room : i ≤ length b
  pub long : length b' ≡ length b

pub store_begun : (b : List ℕ) (at n k : ℕ) → k ≡ length (decimal n) → k ≤ 20 → at + 20 ≤ length b → Storing b at n b (at + k) n
store_begun b at n k e m h =
    let z : at + k - at ≡ length (decimal n) = omega arith in
    let d : low (at + k - at) n ≡ decimal n = rw z (sym (decimal_low n)) in
    record { same = ap (λ t. placed b at t) d; from = omega arith; room = omega arith; long = refl }

module _ (b : List ℕ) (at n : ℕ) (b' : List ℕ) (i rest : ℕ) (w : Storing b at n b' i rest) where
  pub store_turn : at < i → Storing b at n (set b' (i - 1) (48 + rest % 10)) (i - 1) (rest / 10)
  unfolding low
  store_turn h =
      let r = w.room in
      let l = w.long in
      let j : ℕ = (i - 1) - at in
      let e : i - at ≡ suc j = omega arith in
      let long = length_low j (rest / 10) in
      let s : placed b' at (low (suc j) rest) ≡ placed b at (decimal n) = rw e at w.same in
      record {
        same = placed_before b' at (low j (rest / 10)) (48 + rest % 10) (i - 1) (omega arith) (omega arith) ∙ s;
        from = omega arith;
        room = omega arith;
        long = length-set b' (i - 1) (48 + rest % 10) ∙ w.long;
      }

  pub store_ended : i ≤ at → (k : ℕ) → k ≡ length (decimal n) → at + k ≤ length b → Put b at (decimal n) (at + k) b'
  unfolding low
  store_ended h k ek fits =
      let f = w.from in
      let z : i - at ≡ 0 = omega arith in
      let s : placed b' at [] ≡ placed b at (decimal n) = rw z at w.same in
      record { place = omega arith; holds = sym (placed_none b' at) ∙ s; fits = fits }

-- ---- hexadecimal digits

module _ (d : ℕ) where
  pub digit_low : d < 10 → 48 + d ≡ hex_digit d
  unfolding hex_digit
  digit_low h = rw (lt-ltb d 10 h)

  pub digit_high : 10 ≤ d → 87 + d ≡ hex_digit d
  unfolding hex_digit
  digit_high h = rw (le-ltb d 10 h)

hex_append : (l m : List ℕ) → hex_bytes (l ++ m) ≡ hex_bytes l ++ hex_bytes m
unfolding hex_bytes joined
hex_append [] m = refl
hex_append (x ∷ l) m = ap (λ r. hex_byte x ++ r) (hex_append l m) ∙ sym (append_assoc (hex_byte x) (hex_bytes l) (hex_bytes m))

pub length_hex : (l : List ℕ) → length (hex_bytes l) ≡ 2 * length l
unfolding hex_bytes joined hex_byte
length_hex [] = refl
length_hex (x ∷ l) = let ih = length_hex l in omega arith

hex_next : (l : List ℕ) (x : ℕ) → hex_bytes (l ++ (x ∷ [])) ≡ (hex_bytes l ++ (hex_digit (x / 16) ∷ [])) ++ (hex_digit (x % 16) ∷ [])
unfolding hex_bytes joined hex_byte
hex_next l x = hex_append l (x ∷ []) ∙ sym (append_assoc (hex_bytes l) (hex_digit (x / 16) ∷ []) (hex_digit (x % 16) ∷ []))

pub record Spelled (b : List ℕ) (at : ℕ) (bytes b' : List ℕ) (i p : ℕ) : Type 0 where
  pub holds : b' ≡ placed b at (hex_bytes (take i bytes))
  pub place : p ≡ at + 2 * i
  pub upto : i ≤ length bytes
  pub room : at + 2 * length bytes ≤ length b
  pub long : length b' ≡ length b

pub spell_begun : (b : List ℕ) (at : ℕ) (bytes : List ℕ) → at + 2 * length bytes ≤ length b → Spelled b at bytes b 0 at
unfolding hex_bytes joined
spell_begun b at bytes h = record { holds = sym (placed_none b at); place = omega arith; upto = omega arith; room = h; long = refl }

module _ (b : List ℕ) (at : ℕ) (bytes b' : List ℕ) (i p : ℕ) (w : Spelled b at bytes b' i p) where
  pub spell_turn : i < length bytes → (x : ℕ) → x ≡ get_or bytes i 0 → (u v : ℕ) → u ≡ hex_digit (x / 16) → v ≡ hex_digit (x % 16)
      → Spelled b at bytes (set (set b' p u) (p + 1) v) (i + 1) (p + 2)
  spell_turn h x ex u v eu ev =
      let l = length-take-le i bytes w.upto in
      let t : List ℕ = hex_bytes (take i bytes) in
      let lt = length_hex (take i bytes) in
      let g = length-append t (u ∷ []) in
      let r = w.room in
      let e = w.place in
      let next : take (i + 1) bytes ≡ take i bytes ++ (x ∷ []) = let e : i + 1 ≡ suc i = omega arith in rw (e, ex) (take-suc bytes i 0 h) in
      let first : set b' p u ≡ placed b at (t ++ (u ∷ [])) = rw w.holds (placed_byte b at t u p (omega arith) (omega arith)) in
      let two : (t ++ (u ∷ [])) ++ (v ∷ []) ≡ hex_bytes (take (i + 1) bytes) = rw (next, eu, ev) (sym (hex_next (take i bytes) x)) in
      record {
        holds =
            ap (λ q. set q (p + 1) v) first
            ∙ placed_byte b at (t ++ (u ∷ [])) v (p + 1) (omega arith) (omega arith)
            ∙ ap (λ q. placed b at q) two;
        place = omega arith;
        upto = omega arith;
        room = w.room;
        long = length-set (set b' p u) (p + 1) v ∙ length-set b' p u ∙ w.long;
      }

  pub spell_ended : length bytes ≤ i → Put b at (hex_bytes bytes) p b' × (p ≡ at + 2 * length bytes)
  spell_ended h =
      let u = w.upto in
      let e = w.place in
      let r = w.room in
      let l = length_hex bytes in
      (record { place = omega arith; holds = w.holds ∙ rw (take_all i bytes h); fits = omega arith }, omega arith)

-- ---- the bytes of a word

pub word_bytes : (x : ℕ) → to_be_bytes w64 x ≡ digits 8 8 x
unfolding digits
word_bytes x = let e : x % 256 ≡ x / 1 % 256 = omega arith in rw e
