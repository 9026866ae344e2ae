-- Linked changes, newest first, are all changes from the newest one of each facility on, by falling offset.
use Prim.Native.Nat.{ℕ, ◌≤◌, ◌<◌}
use mathlib.Core.Path.{◌≡◌, refl, sym, ap, ◌∙◌}
use mathlib.Core.List.{List, [], ◌∷◌, map}
use lib.ListN.{length, get_or, set, length-set, length-map, get_or-eq_default}
use lib.Seq.{get_or-set_same, get_or-set_other, ext_get_or}
use native.Mathlib.Omega.{arith}
use native.Mathlib.Nat.{zero-add}
use native.Mathlib.Decide.{dec_le, ℕ_discrete}
use borrow.Author.Tests.{eq-eqb, ne_eqb}
use Rattle.lxt_format.specs.Basics.{range}
use Rattle.lxt_format.specs.BasicsLaws.{length_range}
use Rattle.lxt_format.specs.Walk.{top, high, step}
use Rattle.lxt_format.specs.declared.Pair.{Pair}
use Rattle.lxt_chains.specs.Sweep.{left}
use Rattle.lxt_chains.proofs.Step.{high_ge, sorted_quiet, sorted_step}
use Rattle.lxt_written.specs.WrittenChanges.{last_of}
use Rattle.lxt_round_trip.proofs.ListLaws.{map_at}
use Rattle.lxt_round_trip.proofs.ChainedLaws.{Linked, Chained, none, more, chained_from, last_under}

-- the newest change of each of n facilities
abbrev pub newest : ℕ → List Pair → List ℕ
newest n l = map (λ f. last_of f l) (range 0 n)

-- ---- lists of pending offsets

-- the highest of them is where the others are lower
top_is : (os : List ℕ) (i : ℕ) → ((j : ℕ) → (j ≡ i → ⊥) → get_or os j 0 < get_or os i 0) → top os ≡ i
top_is os i h = elim (ℕ_discrete (top os) i) [ yes e ↦ e | no n ↦ absurd (omega (arith, high_ge os i, h (top os) n)) ]

-- there is one for each facility
length_newest : (n : ℕ) (l : List Pair) → length (newest n l) ≡ n
length_newest n l = rw (length-map, length_range)

-- that of facility f
newest_at : (n : ℕ) (l : List Pair) (f : ℕ) → f < n → get_or (newest n l) f 0 ≡ last_of f l
newest_at n l f h = map_at (λ g. last_of g l) 0 n f h ∙ rw zero-add

-- none past the last facility
newest_past : (n : ℕ) (l : List Pair) (f : ℕ) → n ≤ f → get_or (newest n l) f 0 ≡ 0
newest_past n l f h = get_or-eq_default (newest n l) 0 (omega (arith, length_newest n l))

-- without a change all are 0
newest_none : (n f : ℕ) → get_or (newest n []) f 0 ≡ 0
unfolding last_of
newest_none n f = elim (dec_le n f) [ yes h ↦ newest_past n [] f h | no h ↦ newest_at n [] f (omega arith) ]

-- ---- a change before others

-- the newest change of its own facility is that change
last_here : (p : Pair) (l : List Pair) → last_of p.number (p ∷ l) ≡ p.offset
unfolding last_of
last_here p l = rw (eq-eqb p.number p.number refl)

-- that of another facility is not
last_other : (p : Pair) (l : List Pair) (f : ℕ) → (f ≡ p.number → ⊥) → last_of f (p ∷ l) ≡ last_of f l
unfolding last_of
last_other p l f h = rw (ne_eqb p.number f (λ e. h (sym e)))

module _ (s : List ℕ) (n : ℕ) (p : Pair) (l : List Pair) (h : Linked s n p l) (rest : Chained s n p.offset l) where
  -- all others lie below it
  others_lower : (j : ℕ) → (j ≡ p.number → ⊥) → get_or (newest n (p ∷ l)) j 0 < get_or (newest n (p ∷ l)) p.number 0
  others_lower j other =
      let here = newest_at n (p ∷ l) p.number h.number ∙ last_here p l in
      let from = chained_from s n rest in
      elim (dec_le n j) [
        | yes k ↦ omega (arith, newest_past n (p ∷ l) j k)
        | no k ↦ (let inside : j < n = omega arith in omega (arith, newest_at n (p ∷ l) j inside, last_other p l j other, last_under s n j rest))
      ]

  -- so it is the highest
  top_here : top (newest n (p ∷ l)) ≡ p.number
  top_here = top_is (newest n (p ∷ l)) p.number others_lower

  -- at its offset
  high_here : high (newest n (p ∷ l)) ≡ p.offset
  high_here = rw top_here (newest_at n (p ∷ l) p.number h.number ∙ last_here p l)

  -- with its previous one in its place, the newest changes are those of the others
  set_here : set (newest n (p ∷ l)) p.number (last_of p.number l) ≡ newest n l
  set_here =
      let long = length_newest n (p ∷ l) in
      let same = length_newest n l in
      let kept = length-set (newest n (p ∷ l)) p.number (last_of p.number l) in
      let number = h.number in
      ext_get_or 0 (set (newest n (p ∷ l)) p.number (last_of p.number l)) (newest n l) (omega arith)
      (λ j k.
      let inside : j < n = omega arith in
      elim (ℕ_discrete j p.number) [
        | yes e ↦ rw e (get_or-set_same (newest n (p ∷ l)) p.number (last_of p.number l) 0 (omega arith) ∙ sym (newest_at n l p.number number))
        | no e ↦ get_or-set_other (newest n (p ∷ l)) p.number j (last_of p.number l) 0 e ∙ newest_at n (p ∷ l) j inside ∙ last_other p l j e ∙ sym (newest_at n l j inside)
      ])

  -- a step takes it away
  step_here : step s (newest n (p ∷ l)) ≡ newest n l
  unfolding step
  step_here = rw (high_here, top_here, h.previous) set_here

-- the changes from the newest of each facility on, by falling offset, are these
pub chained_sorted : (s : List ℕ) (n : ℕ) {e : ℕ} {l : List Pair} → Chained s n e l → left s (newest n l) ≡ l
chained_sorted s n none = sorted_quiet s (newest n []) (newest_none n (top (newest n [])))
chained_sorted s n (more {p = p} {before = l} h rest) =
    let ih = chained_sorted s n rest in
    let high_is = high_here s n p l h rest in
    let from = chained_from s n rest in
    sorted_step s (newest n (p ∷ l)) (omega arith) ∙ rw (high_is, top_here s n p l h rest, step_here s n p l h rest) (ap (λ m. p ∷ m) ih)
