-- Laws of bytes that are put into the lent buffer.
use Rattle.std.specs.Int.{to_be_bytes}
use Rattle.std.proofs.Common.{w32, zero}
use Rattle.lxt_written.specs.Stands.{length_big_endian}
use Prim.Native.Nat.{ℕ, suc, ◌+◌, ◌*◌, ◌-◌, ◌/◌, ◌≤◌, ◌<◌}
use native.Mathlib.Omega.{arith}
use mathlib.Core.Path.{◌≡◌, refl, sym, ap, ◌∙◌}
use mathlib.Core.List.{List, [], ◌∷◌, ◌++◌}
use lib.ListN.{length, get_or, set, take, drop, length-append, length-set}
use lib.Seq.{drop-cons, drop-length, drop-drop, length-take-le, take_all, take-suc}
use Rattle.lxt_format.specs.Buffers.{placed, length_placed, placed_none, placed_more, placed_byte, stored_one}
use Rattle.lxt_format.specs.Basics.{joined}
use Rattle.lxt_written.specs.WrittenChanges.{big_endian}
use Rattle.lxt_written.specs.TableSizes.{length_rows}

-- ---- bytes stored one by one

pub stored_two : (b : List ℕ) (at x y : ℕ) → at + 2 ≤ length b → set (set b at x) (at + 1) y ≡ placed b at (x ∷ y ∷ [])
stored_two b at x y h = rw (stored_one b at x (omega arith)) (placed_byte b at (x ∷ []) y (at + 1) (omega arith) (omega arith))

pub stored_three : (b : List ℕ) (at x y z : ℕ) → at + 3 ≤ length b → set (set (set b at x) (at + 1) y) (at + 2) z ≡ placed b at (x ∷ y ∷ z ∷ [])
stored_three b at x y z h = rw (stored_two b at x y (omega arith)) (placed_byte b at (x ∷ y ∷ []) z (at + 2) (omega arith) (omega arith))

pub stored_four : (b : List ℕ) (at x y z w : ℕ) → at + 4 ≤ length b
    → set (set (set (set b at x) (at + 1) y) (at + 2) z) (at + 3) w ≡ placed b at (x ∷ y ∷ z ∷ w ∷ [])
stored_four b at x y z w h = rw (stored_three b at x y z (omega arith)) (placed_byte b at (x ∷ y ∷ z ∷ []) w (at + 3) (omega arith) (omega arith))

-- ---- bytes copied one by one

-- after the first i
pub record Copied (b : List ℕ) (at : ℕ) (bytes b' : List ℕ) (i : ℕ) : Type 0 where
  pub holds : b' ≡ placed b at (take i bytes)
  pub upto : i ≤ length bytes
  pub room : at + length bytes ≤ length b
  pub long : length b' ≡ length b

pub copy_begun : (b : List ℕ) (at : ℕ) (bytes : List ℕ) → at + length bytes ≤ length b → Copied b at bytes b 0
copy_begun b at bytes h = record { holds = sym (placed_none b at); upto = omega arith; room = h; long = refl }

module _ (b : List ℕ) (at : ℕ) (bytes b' : List ℕ) (i : ℕ) (w : Copied b at bytes b' i) where
  pub copy_turn : i < length bytes → Copied b at bytes (set b' (at + i) (get_or bytes i 0)) (i + 1)
  copy_turn h =
      let l = length-take-le i bytes w.upto in
      let r = w.room in
      let next : take (i + 1) bytes ≡ take i bytes ++ (get_or bytes i 0 ∷ []) = let e : i + 1 ≡ suc i = omega arith in rw e (take-suc bytes i 0 h) in
      record {
        holds = rw (w.holds, next) (placed_byte b at (take i bytes) (get_or bytes i 0) (at + i) (omega arith) (omega arith));
        upto = omega arith;
        room = w.room;
        long = length-set b' (at + i) (get_or bytes i 0) ∙ w.long;
      }

  pub copy_ended : length bytes ≤ i → b' ≡ placed b at bytes
  copy_ended h = w.holds ∙ rw (take_all i bytes h)

-- ---- big-endian numbers

by_one : (x : ℕ) → x / 1 ≡ x
by_one x = omega arith

-- the last n bytes of a number of 32 bits
last_bytes : (n : ℕ) → n ≤ 4 → (x : ℕ) → take (4 - (4 - n)) (drop (4 - n) (to_be_bytes w32 x)) ≡ big_endian n x
unfolding big_endian
last_bytes zero h x = refl
last_bytes (suc zero) h x = rw (by_one x)
last_bytes (suc (suc zero)) h x = rw (by_one x)
last_bytes (suc (suc (suc zero))) h x = rw (by_one x)
last_bytes (suc (suc (suc (suc zero)))) h x = rw (by_one x)
last_bytes (suc (suc (suc (suc (suc n))))) h x = absurd (omega arith)

-- they are put where they have room
pub put_number : (n : ℕ) → n ≤ 4 → (b : List ℕ) (at x : ℕ) (bytes part : List ℕ) → bytes ≡ to_be_bytes w32 x → part ≡ take (4 - (4 - n)) (drop (4 - n) bytes)
    → take at b ++ (part ++ drop (at + n - at) (drop at b)) ≡ placed b at (big_endian n x)
put_number n h b at x bytes part e f =
    let is : part ≡ big_endian n x = f ∙ rw e (last_bytes n h x) in
    let k : at + n - at ≡ n = omega arith in
    let long = length_big_endian n x in
    rw (is, k, drop-drop n at b, long)

-- ---- texts one after the other

-- a text is put from `at` on; the rest of it, put at p, gives the whole
pub record Filling (b : List ℕ) (at : ℕ) (text rest b' : List ℕ) (p : ℕ) : Type 0 where
  pub left : placed b' p rest ≡ placed b at text
  pub room : p + length rest ≤ length b
  pub long : length b' ≡ length b

-- nothing is put yet
pub fill_begun : (b : List ℕ) (at : ℕ) (text : List ℕ) → at + length text ≤ length b → Filling b at text text b at
fill_begun b at text h = record { left = refl; room = h; long = refl }

-- one of the texts is put
pub fill_turn : (b : List ℕ) (at : ℕ) (text t rest b' : List ℕ) (p : ℕ) → Filling b at text (t ++ rest) b' p
    → (b'' : List ℕ) → b'' ≡ placed b' p t → (q : ℕ) → q ≡ p + length t → Filling b at text rest b'' q
fill_turn b at text t rest b' p w b'' eb q eq =
    let e = length-append t rest in
    let r = w.room in
    let l = w.long in
    record {
      left = rw (eb, eq) (placed_more b' p t rest (omega arith) ∙ w.left);
      room = omega arith;
      long = rw eb (length_placed b' p t (omega arith) ∙ w.long);
    }

-- nothing is left
pub fill_ended : (b : List ℕ) (at : ℕ) (text b' : List ℕ) (p : ℕ) → Filling b at text [] b' p → b' ≡ placed b at text
fill_ended b at text b' p w = sym (placed_none b' p) ∙ w.left

-- ---- rows of equal length

-- f rows are put
pub record RowsPut {A : Type 0} (g : A → List ℕ) (xs : List A) (b : List ℕ) (at : ℕ) (b' : List ℕ) (p f : ℕ) : Type 0 where
  pub filling : Filling b at (joined g xs) (joined g (drop f xs)) b' p
  pub upto : f ≤ length xs

module _ {A : Type 0} (k : ℕ) (g : A → List ℕ) (size : (x : A) → length (g x) ≡ k) {xs : List A} {b : List ℕ} {at : ℕ} where
  -- no row is put yet
  pub rows_begun : at + k * length xs ≤ length b → RowsPut g xs b at b at 0
  rows_begun h = record { filling = fill_begun b at (joined g xs) (omega (arith, length_rows k g size xs)); upto = omega arith }

  module _ (d : A) {b' : List ℕ} {p f : ℕ} (w : RowsPut g xs b at b' p f) where
    -- row f and those after it
    row_next : f < length xs → joined g (drop f xs) ≡ g (get_or xs f d) ++ joined g (drop (f + 1) xs)
    unfolding joined
    row_next h = let e : f + 1 ≡ suc f = omega arith in rw (e, drop-cons xs f d h)

    -- it has room
    pub row_room : f < length xs → p + k ≤ length b'
    row_room h =
        let e = length-append (g (get_or xs f d)) (joined g (drop (f + 1) xs)) in
        let s = size (get_or xs f d) in
        let n = ap length (row_next h) in
        let r = w.filling.room in
        let l = w.filling.long in
        omega arith

    -- it is put
    pub row_turn : f < length xs → {b'' : List ℕ} → b'' ≡ placed b' p (g (get_or xs f d)) → RowsPut g xs b at b'' (p + k) (f + 1)
    row_turn h {b''} e =
        let x : A = get_or xs f d in
        let s = size x in
        let w' : Filling b at (joined g xs) (g x ++ joined g (drop (f + 1) xs)) b' p = rw (row_next h) at w.filling in
        record {
          filling = fill_turn b at (joined g xs) (g x) (joined g (drop (f + 1) xs)) b' p w' b'' e (p + k) (omega arith);
          upto = omega arith;
        }

    -- all are put
    pub rows_ended : length xs ≤ f → b' ≡ placed b at (joined g xs)
    unfolding joined
    rows_ended h =
        let e : f ≡ length xs = omega (arith, w.upto) in
        let none : drop f xs ≡ [] = rw e (drop-length xs) in
        fill_ended b at (joined g xs) b' p (rw none at w.filling)
