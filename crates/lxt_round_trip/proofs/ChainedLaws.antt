-- Changes that follow each other without a gap, newest first, each linked to the newest one of its facility before it: they fit below their end, are clean
-- and leave no byte out.
use Prim.Native.Nat.{ℕ, ◌+◌, ◌≤◌, ◌<◌}
use mathlib.Core.Path.{◌≡◌, refl, sym, ◌∙◌}
use mathlib.Core.Bool.{true, false, false≢true}
use mathlib.Core.List.{List, [], ◌∷◌}
use lib.Dec.{eqb}
use native.Mathlib.Omega.{arith}
use native.Mathlib.Decide.{dec_le}
use borrow.Author.Tests.{le-leb, lt-ltb, eq-eqb}
use Rattle.lxt_format.specs.BasicsLaws.{on_test, both_and}
use Rattle.lxt_format.specs.Changes.{previous_of, fault_at, clean_at}
use Rattle.lxt_format.proofs.ChangesLaws.{end_after}
use Rattle.lxt_format.specs.Judge.{signal_of, end_at}
use Rattle.lxt_format.specs.Stray.{in_change}
use Rattle.lxt_format.specs.declared.Pair.{Pair}
use Rattle.lxt_chains.specs.Pending.{Each}
use Rattle.lxt_chains.specs.Sweep.{keeps, fitting, padding_of, cleanly}
use Rattle.lxt_chains.proofs.Lists.{all_each}
use Rattle.lxt_written.specs.WrittenChanges.{last_of}

-- a change of one of n facilities without a fault, clean, whose previous change is the newest of its facility among those before it
pub record Linked (s : List ℕ) (n : ℕ) (p : Pair) (before : List Pair) : Type 0 where
  pub number : p.number < n
  pub previous : previous_of s p.offset ≡ last_of p.number before
  pub fault : fault_at s (signal_of s p.number) p.offset ≡ 0
  pub clean : clean_at s (signal_of s p.number) p.offset ≡ true

-- such changes, newest first, from offset 4 up to e without a gap
pub data Chained (s : List ℕ) (n : ℕ) : ℕ → List Pair → Type 0 where
  none : Chained s n 4 []
  more : {p : Pair} {before : List Pair} → Linked s n p before → Chained s n p.offset before → Chained s n (end_at s p) (p ∷ before)

-- a change has at least 2 bytes
end_behind : (s : List ℕ) (p : Pair) → p.offset + 2 ≤ end_at s p
unfolding end_at
end_behind s p = end_after s (signal_of s p.number) p.offset

module _ (s : List ℕ) (n : ℕ) where
  -- they end at 4 or above
  pub chained_from : {e : ℕ} {l : List Pair} → Chained s n e l → 4 ≤ e
  chained_from none = omega arith
  chained_from (more {p = p} h rest) = omega (arith, chained_from rest, end_behind s p)

  -- the newest change of a facility starts 2 bytes or more below their end
  pub last_under : {e : ℕ} {l : List Pair} (f : ℕ) → Chained s n e l → last_of f l + 2 ≤ e
  unfolding last_of
  last_under f none = omega arith
  last_under f (more {p = p} h rest) =
      let ih = last_under f rest in
      let behind = end_behind s p in
      on_test (eqb p.number f) (λ e. rw e (omega arith)) (λ e. rw e (omega arith))

  -- and at 4 or above, where the facility has one
  pub last_from : {e : ℕ} {l : List Pair} (f : ℕ) → Chained s n e l → 0 < last_of f l → 4 ≤ last_of f l
  unfolding last_of
  last_from f none = λ z. absurd (omega arith)
  last_from f (more {p = p} h rest) =
      let ih = last_from f rest in
      let from = chained_from rest in
      on_test (eqb p.number f) (λ e. rw e (λ z. from)) (λ e. rw e ih)

  -- they fit below any bound at or above their end
  pub chained_fits : {e : ℕ} {l : List Pair} (bound : ℕ) → Chained s n e l → e ≤ bound → fitting s bound l ≡ true
  unfolding fitting keeps
  chained_fits bound none b = refl
  chained_fits bound (more {p = p} h rest) b =
      let ends : end_at s p ≤ bound = omega arith in
      both_and _ _ (both_and _ _ (eq-eqb _ 0 h.fault) (le-leb (end_at s p) bound ends)) (chained_fits p.offset rest (omega arith))

  -- each of them is clean
  chained_each : {e : ℕ} {l : List Pair} → Chained s n e l → Each (λ p. padding_of s p ≡ true) l
  unfolding padding_of
  chained_each none = Each.none
  chained_each (more {p = p} h rest) = Each.both {x = p} h.clean (chained_each rest)

  -- so all are
  pub chained_clean : {e : ℕ} {l : List Pair} → Chained s n e l → cleanly s l ≡ true
  unfolding cleanly
  chained_clean c = all_each (padding_of s) (chained_each c)

  -- no byte from 4 up to their end lies in none of them
  pub chained_covers : {e : ℕ} {l : List Pair} (j : ℕ) → Chained s n e l → Each (λ p. in_change s j p ≡ false) l → 4 ≤ j → j < e → ⊥
  unfolding in_change
  chained_covers j none Each.none from below = omega arith
  chained_covers j (more {p = p} h rest) (Each.both out others) from below =
      let ih : j < p.offset → ⊥ = λ k. chained_covers j rest others from k in
      elim (dec_le p.offset j) [
        | yes k ↦ (let inside : j < end_at s p = omega arith in false≢true (sym out ∙ both_and _ _ (le-leb p.offset j k) (lt-ltb j (end_at s p) inside)))
        | no k ↦ ih (omega arith)
      ]
