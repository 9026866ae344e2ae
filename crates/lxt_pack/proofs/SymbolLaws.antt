-- Laws of the symbols of a value: what is seen of them, and the command that follows from it.
use mir.Val.{bool_byte}
use Prim.Native.Nat.{ℕ, zero, suc, ◌+◌, ◌≤◌, ◌<◌, min, max}
use native.Mathlib.Omega.{arith}
use mathlib.Core.Path.{◌≡◌, refl, sym, ap, ◌∙◌}
use mathlib.Core.Bool.{Bool, true, false, not, ◌&&◌, ◌||◌}
use mathlib.Core.List.{List, [], ◌∷◌, ◌++◌}
use lib.ListN.{length, get_or, take, drop}
use lib.Seq.{drop-cons, drop-length}
use lib.Dec.{ltb, eqb}
use native.Mathlib.Decide.{ℕ_discrete, dec_le}
use borrow.Author.Tests.{lt-ltb, le-ltb, eq-eqb, ne_eqb, eqb-true, ltb-true}
use Rattle.lxt_format.specs.Basics.{all, any}
use Rattle.lxt_format.specs.BasicsLaws.{on_test, and_both, both_and}
use Rattle.lxt_format.specs.Reals.{place_of}
use Rattle.lxt_format.specs.Values.{symbols}
use Rattle.lxt_format.specs.declared.Kind.TheVariants.{Bits}
use Rattle.lxt_written.specs.WrittenChanges.{code_of, command_for}
use Rattle.lxt_written.specs.Writing.{is_symbol, value_allowed}
use Rattle.lxt_written.specs.CommandLaws.{code_small, command_one, command_0, command_1, command_2}
use Rattle.lxt_pack.specs.Symbols.{all_below, same_all, Lower, Higher, Classed, Coded}

-- ---- one byte

below_suc : (a b : ℕ) → ltb a b ≡ ltb (suc a) (suc b)
below_suc a b =
    elim (dec_le b a) [
      | yes h ↦ rw (le-ltb a b h, le-ltb (suc a) (suc b) (omega arith))
      | no h ↦ rw (lt-ltb a b (omega arith), lt-ltb (suc a) (suc b) (omega arith))
    ]

-- a byte is among the first exactly where its place is
among : (b : ℕ) (l r : List ℕ) → any (eqb b) l ≡ ltb (place_of b (l ++ r)) (length l)
unfolding any place_of
among b [] r = sym (le-ltb (place_of b r) 0 (omega arith))
among b (x ∷ l) r =
    let ih = among b l r in
    elim (ℕ_discrete b x) [
      | yes e ↦ rw (eq-eqb b x e, eq-eqb x b (sym e), lt-ltb 0 (suc (length l)) (omega arith))
      | no n ↦ rw (ne_eqb b x n, ne_eqb x b (λ e. n (sym e)), ih) (below_suc (place_of b (l ++ r)) (length l))
    ]

module _ (b : ℕ) where
  -- the codes of 0 and 1 are below 2
  pub bit_is : (eqb b 0x30 || eqb b 0x31) ≡ ltb (code_of b) 2
  unfolding any code_of
  bit_is = flat (eqb b 0x30) (eqb b 0x31) ∙ among b (take 2 symbols) (drop 2 symbols)
    where
      flat : (x y : Bool) → (x || y) ≡ (x || (y || false))
      flat true y = refl
      flat false true = refl
      flat false false = refl

  -- with Z and X below 4
  pub four_is_one : (r : Bool) → r ≡ ltb (code_of b) 2 → (r || (eqb b 0x5A || eqb b 0x58)) ≡ ltb (code_of b) 4
  unfolding any code_of
  four_is_one r e =
      ap (λ q. q || (eqb b 0x5A || eqb b 0x58)) (e ∙ sym bit_is)
      ∙ flat (eqb b 0x30) (eqb b 0x31) (eqb b 0x5A) (eqb b 0x58)
      ∙ among b (take 4 symbols) (drop 4 symbols)
    where
      flat : (x y z v : Bool) → ((x || y) || (z || v)) ≡ (x || (y || (z || (v || false))))
      flat true y z v = refl
      flat false true z v = refl
      flat false false true v = refl
      flat false false false true = refl
      flat false false false false = refl

  -- and with H U W L - below 9
  pub nine_is_one : (r : Bool) → r ≡ ltb (code_of b) 4
      → ((r || (eqb b 0x48 || eqb b 0x4C)) || ((eqb b 0x55 || eqb b 0x57) || eqb b 0x2D)) ≡ ltb (code_of b) 9
  unfolding any code_of
  nine_is_one r e =
      ap (λ q. (q || (eqb b 0x48 || eqb b 0x4C)) || ((eqb b 0x55 || eqb b 0x57) || eqb b 0x2D)) (e ∙ sym (among b (take 4 symbols) (drop 4 symbols)))
      ∙ flat (eqb b 0x30) (eqb b 0x31) (eqb b 0x5A) (eqb b 0x58) (eqb b 0x48) (eqb b 0x55) (eqb b 0x57) (eqb b 0x4C) (eqb b 0x2D)
      ∙ among b symbols []
    where
      flat : (x y z v h u w l d : Bool)
          → (((x || (y || (z || (v || false)))) || (h || l)) || ((u || w) || d)) ≡ (x || (y || (z || (v || (h || (u || (w || (l || (d || false)))))))))
      flat true y z v h u w l d = refl
      flat false true z v h u w l d = refl
      flat false false true v h u w l d = refl
      flat false false false true h u w l d = refl
      flat false false false false true u w l d = refl
      flat false false false false false true w true d = refl
      flat false false false false false true w false d = refl
      flat false false false false false false true true d = refl
      flat false false false false false false true false d = refl
      flat false false false false false false false true d = refl
      flat false false false false false false false false true = refl
      flat false false false false false false false false false = refl

-- a byte is a symbol exactly where its code is below 9
pub symbol_code : (b : ℕ) → is_symbol b ≡ ltb (code_of b) 9
unfolding is_symbol code_of
symbol_code b = among b symbols []

pub symbols_codes : (l : List ℕ) → all is_symbol l ≡ all_below 9 l
unfolding all all_below
symbols_codes [] = refl
symbols_codes (x ∷ l) = rw (symbol_code x, symbols_codes l)

-- a class is below 1 of 0 1 Z X, and below 2 of any symbol
pub class_is : (b : ℕ) (four nine : Bool) (x y : ℕ) → four ≡ ltb (code_of b) 4 → nine ≡ ltb (code_of b) 9
    → x ≡ bool_byte (not four) → y ≡ bool_byte (not nine) → Classed b (x + y)
class_is b four nine x y ef en ex ey =
    let code : ℕ = code_of b in
    elim (dec_le 4 code) [
      | no h ↦
          let of_four = lt-ltb code 4 (omega arith) in
          let of-nine = lt-ltb code 9 (omega arith) in
          rw (ex, ey, ef, en, of_four, of-nine) (record { four = sym of_four; nine = sym of-nine })
      | yes h ↦ elim (dec_le 9 code) [
        | no k ↦
            let of_four = le-ltb code 4 h in
            let of-nine = lt-ltb code 9 (omega arith) in
            rw (ex, ey, ef, en, of_four, of-nine) (record { four = sym of_four; nine = sym of-nine })
        | yes k ↦
            let of_four = le-ltb code 4 h in
            let of-nine = le-ltb code 9 k in
            rw (ex, ey, ef, en, of_four, of-nine) (record { four = sym of_four; nine = sym of-nine })
      ]
    ]

-- ---- what is seen, symbol by symbol

and_again : (a b c : Bool) → ((a && b) && c) ≡ (a && (b && c))
and_again true b c = refl
and_again false b c = refl

and_true : (a : Bool) → (a && true) ≡ a
and_true true = refl
and_true false = refl

-- a test of each symbol: what was found up to i, with what is left, gives the whole
pub record Testing (p : ℕ → Bool) (v : List ℕ) (found : Bool) (i : ℕ) : Type 0 where
  pub left : (found && all p (drop i v)) ≡ all p v
  pub upto : i ≤ length v

module _ (p : ℕ → Bool) (v : List ℕ) where
  pub test_begun : Testing p v true 0
  test_begun = record { left = refl; upto = omega arith }

  pub test_turn : (found : Bool) (i : ℕ) → Testing p v found i → i < length v → (q : Bool) → q ≡ p (get_or v i 0) → Testing p v (found && q) (i + 1)
  unfolding all
  test_turn found i w h q e =
      let one : i + 1 ≡ suc i = omega arith in
      let next : drop i v ≡ get_or v i 0 ∷ drop (i + 1) v = rw one (drop-cons v i 0 h) in
      record { left = and_again found q (all p (drop (i + 1) v)) ∙ rw e (rw next at w.left); upto = omega arith }

  pub test_ended : (found : Bool) (i : ℕ) → Testing p v found i → length v ≤ i → found ≡ all p v
  unfolding all
  test_ended found i w h =
      let e : i ≡ length v = omega (arith, w.upto) in
      let none : drop i v ≡ [] = rw e (drop-length v) in
      sym (and_true found) ∙ (rw none at w.left)

-- ---- what is seen, by the lowest and the highest

-- the least and the greatest of two numbers
lower_of : (a b r : ℕ) → r ≡ min a b → Lower a b r
lower_of a b r e = record { left = omega arith; right = omega arith; most = λ k h l. omega arith }

higher_of : (a b r : ℕ) → r ≡ max a b → Higher a b r
higher_of a b r e = record { left = omega arith; right = omega arith; least = λ k h l. omega arith }

-- two tests are one where each gives the other
either_way : (a b : Bool) → (a ≡ true → b ≡ true) → (b ≡ true → a ≡ true) → a ≡ b
either_way true b f g = sym (f refl)
either_way false true f g = g refl
either_way false false f g = refl

is_bit_range : (b : ℕ) → ltb (code_of b) 2 ≡ true → (48 ≤ b) × (b ≤ 49)
is_bit_range b h =
    let q : (eqb b 0x30 || eqb b 0x31) ≡ true = bit_is b ∙ h in
    on_test (eqb b 0x30)
    (λ e. let x = eqb-true b 48 e in (omega arith, omega arith))
    (λ e. let y : eqb b 0x31 ≡ true = rw e at q in let x = eqb-true b 49 y in (omega arith, omega arith))

range_is_bit : (b : ℕ) → 48 ≤ b → b ≤ 49 → ltb (code_of b) 2 ≡ true
range_is_bit b h k =
    elim (ℕ_discrete b 48) [
      | yes e ↦ sym (bit_is b) ∙ rw (eq-eqb b 48 e)
      | no n ↦ sym (bit_is b) ∙ rw (ne_eqb b 48 n, eq-eqb b 49 (omega (arith, n)))
    ]

-- the symbols up to i are between two numbers, whose tests are those of the symbols
pub record Ranged (v : List ℕ) (first low high i : ℕ) : Type 0 where
  pub below : low ≤ first
  pub above : first ≤ high
  pub same : Testing (λ b. eqb b first) v (eqb low high) i
  pub bits : Testing (λ b. ltb (code_of b) 2) v (ltb (code_of low) 2 && ltb (code_of high) 2) i

module _ (low high symbol low' high' : ℕ) (l : Lower low symbol low') (h : Higher high symbol high') where
  same_turn : (first : ℕ) → low ≤ first → first ≤ high → eqb low' high' ≡ (eqb low high && eqb symbol first)
  same_turn first a b =
      let l0 = l.left in
      let l1 = l.right in
      let h0 = h.left in
      let h1 = h.right in
      either_way (eqb low' high') (eqb low high && eqb symbol first)
      (λ e.
      let x = eqb-true low' high' e in
      both_and (eqb low high) (eqb symbol first) (eq-eqb low high (omega arith)) (eq-eqb symbol first (omega arith)))
      (λ e.
      let q = and_both (eqb low high) (eqb symbol first) e in
      let x = eqb-true low high q.0 in
      let y = eqb-true symbol first q.1 in
      let most = l.most low (omega arith) (omega arith) in
      let least = h.least high (omega arith) (omega arith) in
      eq-eqb low' high' (omega arith))

  bits_turn : low ≤ high
      → (ltb (code_of low') 2 && ltb (code_of high') 2) ≡ ((ltb (code_of low) 2 && ltb (code_of high) 2) && ltb (code_of symbol) 2)
  bits_turn a =
      let l0 = l.left in
      let l1 = l.right in
      let h0 = h.left in
      let h1 = h.right in
      either_way (ltb (code_of low') 2 && ltb (code_of high') 2) ((ltb (code_of low) 2 && ltb (code_of high) 2) && ltb (code_of symbol) 2)
      (λ e.
      let q = and_both (ltb (code_of low') 2) (ltb (code_of high') 2) e in
      let x = is_bit_range low' q.0 in
      let y = is_bit_range high' q.1 in
      let x0 = x.0 in
      let y1 = y.1 in
      both_and (ltb (code_of low) 2 && ltb (code_of high) 2) (ltb (code_of symbol) 2)
      (both_and (ltb (code_of low) 2) (ltb (code_of high) 2) (range_is_bit low (omega arith) (omega arith)) (range_is_bit high (omega arith) (omega arith)))
      (range_is_bit symbol (omega arith) (omega arith)))
      (λ e.
      let q = and_both (ltb (code_of low) 2 && ltb (code_of high) 2) (ltb (code_of symbol) 2) e in
      let p = and_both (ltb (code_of low) 2) (ltb (code_of high) 2) q.0 in
      let x = is_bit_range low p.0 in
      let y = is_bit_range high p.1 in
      let z = is_bit_range symbol q.1 in
      let x0 = x.0 in
      let y1 = y.1 in
      let z0 = z.0 in
      let z1 = z.1 in
      let most = l.most 48 (omega arith) (omega arith) in
      let least = h.least 49 (omega arith) (omega arith) in
      both_and (ltb (code_of low') 2) (ltb (code_of high') 2) (range_is_bit low' (omega arith) (omega arith)) (range_is_bit high' (omega arith) (omega arith)))

-- a test with another name
test_as : (p : ℕ → Bool) (v : List ℕ) (found found' : Bool) (i : ℕ) → found' ≡ found → Testing p v found i → Testing p v found' i
test_as p v found found' i e w = record { left = rw e w.left; upto = w.upto }

module _ (v : List ℕ) where
  pub ranged_begun : 0 < length v → Ranged v (get_or v 0 0) (get_or v 0 0) (get_or v 0 0) 0
  unfolding all
  ranged_begun some =
      let first : ℕ = get_or v 0 0 in
      let next : v ≡ first ∷ drop 1 v = drop-cons v 0 0 some in
      record {
        below = omega arith;
        above = omega arith;
        same = test_as (λ b. eqb b first) v true (eqb first first) 0 (eq-eqb first first refl) (test_begun (λ b. eqb b first) v);
        bits = record { left = again (ltb (code_of first) 2) (all (λ b. ltb (code_of b) 2) v) (head v some); upto = omega arith };
      }
    where
      again : (a b : Bool) → (b ≡ true → a ≡ true) → ((a && a) && b) ≡ b
      again true b f = refl
      again false true f = f refl
      again false false f = refl

      head : (l : List ℕ) → 0 < length l → all (λ b. ltb (code_of b) 2) l ≡ true → ltb (code_of (get_or l 0 0)) 2 ≡ true
      head [] h e = absurd (omega arith)
      head (x ∷ l) h e = (and_both (ltb (code_of x) 2) (all (λ b. ltb (code_of b) 2) l) (unfold all in e)).0

  pub ranged_turn : (first low high i low' high' : ℕ) → Ranged v first low high i → i < length v
      → low' ≡ min low (get_or v i 0) → high' ≡ max high (get_or v i 0) → Ranged v first low' high' (i + 1)
  ranged_turn first low high i low' high' w less el eh =
      let symbol : ℕ = get_or v i 0 in
      let l = lower_of low symbol low' el in
      let h = higher_of high symbol high' eh in
      let a = w.below in
      let b = w.above in
      let l0 = l.left in
      let h0 = h.left in
      record {
        below = omega arith;
        above = omega arith;
        same = test_as (λ b. eqb b first) v (eqb low high && eqb symbol first) (eqb low' high') (i + 1)
            (same_turn low high symbol low' high' l h first a b)
            (test_turn (λ b. eqb b first) v (eqb low high) i w.same less (eqb symbol first) refl);
        bits = test_as (λ b. ltb (code_of b) 2) v ((ltb (code_of low) 2 && ltb (code_of high) 2) && ltb (code_of symbol) 2)
            (ltb (code_of low') 2 && ltb (code_of high') 2) (i + 1)
            (bits_turn low high symbol low' high' l h (omega arith))
            (test_turn (λ b. ltb (code_of b) 2) v (ltb (code_of low) 2 && ltb (code_of high) 2) i w.bits less (ltb (code_of symbol) 2) refl);
      }

  pub ranged_same : (low high i : ℕ) → Ranged v (get_or v 0 0) low high i → length v ≤ i → eqb low high ≡ same_all v
  unfolding same_all
  ranged_same low high i w over = test_ended (λ b. eqb b (get_or v 0 0)) v (eqb low high) i w.same over

  pub ranged_bits : (first low high i : ℕ) → Ranged v first low high i → length v ≤ i → (x y : Bool) → x ≡ ltb (code_of low) 2 → y ≡ ltb (code_of high) 2
      → (x && y) ≡ all_below 2 v
  unfolding all_below
  ranged_bits first low high i w over x y ex ey =
      rw (ex, ey) (test_ended (λ b. ltb (code_of b) 2) v (ltb (code_of low) 2 && ltb (code_of high) 2) i w.bits over)

-- ---- what is seen, by the highest class

-- the higher of two numbers is below a bound where both are
higher_below : (k a b r : ℕ) → Higher a b r → ltb r k ≡ (ltb a k && ltb b k)
higher_below zero a b r h = rw (le-ltb r 0 (omega arith), le-ltb a 0 (omega arith))
higher_below (suc k) a b r h =
    let left = h.left in
    let right = h.right in
    either_way (ltb r (suc k)) (ltb a (suc k) && ltb b (suc k))
    (λ e.
    let less = ltb-true r (suc k) e in
    both_and (ltb a (suc k)) (ltb b (suc k)) (lt-ltb a (suc k) (omega arith)) (lt-ltb b (suc k) (omega arith)))
    (λ e.
    let q = and_both (ltb a (suc k)) (ltb b (suc k)) e in
    let x = ltb-true a (suc k) q.0 in
    let y = ltb-true b (suc k) q.1 in
    let least = h.least k (omega arith) (omega arith) in
    lt-ltb r (suc k) (omega arith))

-- the highest class of the symbols up to i tells whether their codes are below 4, and 9
pub record Classes (v : List ℕ) (class i : ℕ) : Type 0 where
  pub four : Testing (λ b. ltb (code_of b) 4) v (ltb class 1) i
  pub nine : Testing (λ b. ltb (code_of b) 9) v (ltb class 2) i

module _ (v : List ℕ) where
  pub classes_begun : Classes v 0 0
  classes_begun = record { four = test_begun (λ b. ltb (code_of b) 4) v; nine = test_begun (λ b. ltb (code_of b) 9) v }

  class_turn : (k bound class i c class' : ℕ) → Testing (λ b. ltb (code_of b) bound) v (ltb class k) i → i < length v
      → ltb c k ≡ ltb (code_of (get_or v i 0)) bound → Higher class c class' → Testing (λ b. ltb (code_of b) bound) v (ltb class' k) (i + 1)
  class_turn k bound class i c class' w less e h =
      test_as (λ b. ltb (code_of b) bound) v (ltb class k && ltb c k) (ltb class' k) (i + 1) (higher_below k class c class' h)
      (test_turn (λ b. ltb (code_of b) bound) v (ltb class k) i w less (ltb c k) e)

  pub classes_turn : (class i c class' : ℕ) → Classes v class i → i < length v → Classed (get_or v i 0) c → class' ≡ max class c → Classes v class' (i + 1)
  classes_turn class i c class' w less is m =
      let h = higher_of class c class' m in
      record { four = class_turn 1 4 class i c class' w.four less is.four h; nine = class_turn 2 9 class i c class' w.nine less is.nine h }

  pub classes_four : (class i : ℕ) → Classes v class i → length v ≤ i → ltb class 1 ≡ all_below 4 v
  unfolding all_below
  classes_four class i w over = test_ended (λ b. ltb (code_of b) 4) v (ltb class 1) i w.four over

  pub classes_nine : (class i : ℕ) → Classes v class i → length v ≤ i → ltb class 2 ≡ all_below 9 v
  unfolding all_below
  classes_nine class i w over = test_ended (λ b. ltb (code_of b) 9) v (ltb class 2) i w.nine over

-- ---- the command

-- the command of a value, by what is seen of its symbols
module _ (value : List ℕ) (nine : all_below 9 value ≡ true) where
  allowed : value_allowed Bits (length value) value ≡ true
  unfolding value_allowed
  allowed =
      both_and (eqb (length value) (length value)) (all is_symbol value) (eq-eqb (length value) (length value) refl) (symbols_codes value ∙ nine)

  pub chosen_same : same_all value ≡ true → 1 ≤ length value → command_for Bits value ≡ 3 + code_of (get_or value 0 0)
  unfolding same_all
  chosen_same s n = command_one Bits (length value) value refl allowed (get_or value 0 0) n s

  module _ (mixed : same_all value ≡ false) where
    pub chosen_0 : all_below 2 value ≡ true → command_for Bits value ≡ 0
    unfolding same_all all_below
    chosen_0 h = command_0 Bits (length value) value refl allowed mixed h

    pub chosen_1 : all_below 2 value ≡ false → all_below 4 value ≡ true → command_for Bits value ≡ 1
    unfolding same_all all_below
    chosen_1 l h = command_1 (length value) value allowed mixed l h

    pub chosen_2 : all_below 2 value ≡ false → all_below 4 value ≡ false → command_for Bits value ≡ 2
    unfolding same_all all_below
    chosen_2 l h = command_2 (length value) value allowed mixed l h

-- codes below a bound are below a greater one
pub below_more : (m n : ℕ) → m ≤ n → (value : List ℕ) → all_below m value ≡ true → all_below n value ≡ true
unfolding all_below all
below_more m n h [] e = refl
below_more m n h (x ∷ l) e =
    let b = and_both (ltb (code_of x) m) (all (λ b. ltb (code_of b) m) l) e in
    both_and (ltb (code_of x) n) (all (λ b. ltb (code_of b) n) l) (let k = ltb-true (code_of x) m b.0 in lt-ltb (code_of x) n (omega arith)) (below_more m n h l b.1)

-- of symbols
module _ (value : List ℕ) (symbols-are : all is_symbol value ≡ true) where
  nine_of : all_below 9 value ≡ true
  nine_of = sym (symbols_codes value) ∙ symbols-are

  pub same_is : same_all value ≡ true → 1 ≤ length value → (symbol code : ℕ) → symbol ≡ get_or value 0 0 → Coded symbol 9 code → 3 + code ≡ command_for Bits value
  same_is s n symbol code e c =
      let small : code_of symbol < 9 = rw e (code_small _ (first_symbol value n symbols-are)) in
      let q : code ≡ code_of (get_or value 0 0) = c small ∙ rw e in
      rw q (sym (chosen_same value nine_of s n))
    where
      first_symbol : (l : List ℕ) → 1 ≤ length l → all is_symbol l ≡ true → is_symbol (get_or l 0 0) ≡ true
      first_symbol [] n h = absurd (omega arith)
      first_symbol (x ∷ l) n h = (and_both (is_symbol x) (all is_symbol l) (unfold all in h)).0

  pub bits_are : same_all value ≡ false → all_below 2 value ≡ true → 0 ≡ command_for Bits value
  bits_are s h = sym (chosen_0 value nine_of s h)

  pub four_are : same_all value ≡ false → all_below 2 value ≡ false → all_below 4 value ≡ true → 1 ≡ command_for Bits value
  four_are s l h = sym (chosen_1 value nine_of s l h)

  pub nine_are : same_all value ≡ false → all_below 2 value ≡ false → all_below 4 value ≡ false → 2 ≡ command_for Bits value
  nine_are s l f = sym (chosen_2 value nine_of s l f)
