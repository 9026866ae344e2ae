-- What putting bytes into a buffer does to the bytes that stand in it.
use Prim.Native.Nat.{ℕ, ◌+◌, ◌-◌, ◌≤◌, ◌<◌}
use native.Mathlib.Nat.{zero-add}
use native.Mathlib.Omega.{arith}
use mathlib.Core.Path.{◌≡◌, sym, ap, ◌∙◌}
use mathlib.Core.List.{List, ◌++◌, append_assoc}
use lib.ListN.{length, get_or, take, drop, length-append, take-append-drop, get_or-append}
use native.Mathlib.Decide.{dec_le}
use lib.Seq.{length-take-le, drop_at, drop-drop, get_or-append-add, get_or-take, get_or-drop}
use Rattle.lxt_format.specs.Buffers.{placed, length_placed}
use Rattle.lxt_format.specs.Columns.{onto}
use Rattle.lxt_written.specs.Stands.{Stands, stands_slice}

module _ (b : List ℕ) (at : ℕ) (t : List ℕ) (room : at + length t ≤ length b) where
  -- what lies below the text
  front_long : length (take at b) ≡ at
  front_long = length-take-le at b (omega arith)

  -- ---- the bytes of the buffer: below the text, in it, and above it

  byte_below : (i : ℕ) → i < at → get_or (placed b at t) i 0 ≡ get_or b i 0
  byte_below i h =
      let l = front_long in
      let k : i < length (take at b) = omega arith in
      get_or-append (take at b) (t ++ drop (at + length t) b) 0 i k ∙ get_or-take at b i 0 h

  byte_in : (i : ℕ) → i < length t → get_or (placed b at t) (at + i) 0 ≡ get_or t i 0
  byte_in i h =
      let l = front_long in
      let e : length (take at b) + i ≡ at + i = omega arith in
      let rest : List ℕ = t ++ drop (at + length t) b in
      sym (ap (λ k. get_or (placed b at t) k 0) e) ∙ get_or-append-add (take at b) rest i 0 ∙ get_or-append t (drop (at + length t) b) 0 i h

  -- what lies above the text stays
  above : drop (at + length t) (placed b at t) ≡ drop (at + length t) b
  above =
      let l = front_long in
      let e = length-append (take at b) t in
      let long : length (take at b ++ t) ≡ at + length t = omega arith in
      ap (drop (at + length t)) (sym (append_assoc (take at b) t (drop (at + length t) b))) ∙ drop_at (take at b ++ t) (drop (at + length t) b) (at + length t) long

  pub placed_tail : (k : ℕ) → at + length t ≤ k → drop k (placed b at t) ≡ drop k b
  placed_tail k h =
      let n : ℕ = at + length t in
      let e : n + (k - n) ≡ k = omega arith in
      let split : (s : List ℕ) → drop k s ≡ drop (k - n) (drop n s) = λ s. sym (drop-drop (k - n) n s ∙ ap (λ m. drop m s) e) in
      split (placed b at t) ∙ ap (drop (k - n)) above ∙ sym (split b)

  byte_above : (i : ℕ) → at + length t ≤ i → get_or (placed b at t) i 0 ≡ get_or b i 0
  byte_above i h =
      let e : i + 0 ≡ i = omega arith in
      let first : (s : List ℕ) → get_or s i 0 ≡ get_or (drop i s) 0 0 = λ s. sym (get_or-drop i s 0 0 ∙ ap (λ k. get_or s k 0) e) in
      first (placed b at t) ∙ ap (λ s. get_or s 0 0) (placed_tail i h) ∙ sym (first b)

  -- ---- the text stands in the buffer, and what stands elsewhere stands there still

  pub placed_stands : Stands (placed b at t) at t
  placed_stands = let l = length_placed b at t room in record { within = omega arith; same = byte_in }

  pub placed_below : (o : ℕ) (x : List ℕ) → Stands b o x → o + length x ≤ at → Stands (placed b at t) o x
  placed_below o x h below =
      let l = length_placed b at t room in
      record { within = omega arith; same = λ i k. byte_below (o + i) (omega arith) ∙ h.same i k }

  stay_above : (o : ℕ) (x : List ℕ) → Stands b o x → at + length t ≤ o → Stands (placed b at t) o x
  stay_above o x h from =
      let l = length_placed b at t room in
      let w = h.within in
      record { within = omega arith; same = λ i k. byte_above (o + i) (omega arith) ∙ h.same i k }

pub placed_above : (b : List ℕ) (at : ℕ) (t : List ℕ) (o : ℕ) (x : List ℕ) → Stands b o x → at + length t ≤ o → Stands (placed b at t) o x
placed_above b at t o x h from = let w = h.within in stay_above b at t (omega arith) o x h from

-- ---- bytes that stand one after the other

module _ (s : List ℕ) (o : ℕ) (xs ys : List ℕ) (h : Stands s o xs) where
  -- the second behind the first
  stands_join : Stands s (o + length xs) ys → Stands s o (xs ++ ys)
  stands_join k =
      let e = length-append xs ys in
      let w = k.within in
      record {
        within = omega arith;
        same = λ i l. elim (dec_le (length xs) i) [
          | yes a ↦ (let j : ℕ = i - length xs in
              let p : length xs + j ≡ i = omega arith in
              let q : o + length xs + j ≡ o + i = omega arith in
              sym (ap (λ m. get_or s m 0) q) ∙ k.same j (omega arith) ∙ sym (get_or-append-add xs ys j 0) ∙ ap (λ m. get_or (xs ++ ys) m 0) p)
          | no a ↦ (let b : i < length xs = omega arith in h.same i b ∙ sym (get_or-append xs ys 0 i b))
        ];
      }

  -- the second at a place that is given
  pub stands_join_at : (p : ℕ) → p ≡ o + length xs → Stands s p ys → Stands s o (xs ++ ys)
  stands_join_at p e k = stands_join (rw e at k)

-- a file that stands at the start, before what was there
pub onto_whole : (s f out : List ℕ) → Stands s 0 f → drop (length f) s ≡ drop (length f) out → s ≡ onto f out
onto_whole s f out h e =
    let front : take (length f) s ≡ f = rw zero-add at (stands_slice s 0 f h) in
    sym (take-append-drop (length f) s) ∙ rw (front, e)
