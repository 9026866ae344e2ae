-- Stray bytes by the gaps between changes.
use Prim.Native.Nat.{ℕ, ◌+◌, ◌-◌, ◌≤◌, ◌<◌}
use native.Mathlib.Omega.{arith}
use mathlib.Core.Path.{◌≡◌, refl, sym, ap, ◌∙◌}
use mathlib.Core.Bool.{Bool, true, false, not, ◌&&◌, ◌||◌}
use mathlib.Core.List.{List, [], ◌∷◌}
use lib.Dec.{leb, eqb}
use borrow.Author.Tests.{leb-true, lt-ltb, le-ltb, le-leb, lt-leb, eqb-true}
use Rattle.lxt_format.specs.Basics.{any}
use Rattle.lxt_format.specs.BasicsLaws.{on_test, and_both}
use Rattle.lxt_format.specs.Sections.{end_of, changes_from}
use Rattle.lxt_format.specs.Changes.{fault_at}
use Rattle.lxt_format.proofs.ChangesLaws.{sound, end_after}
use Rattle.lxt_format.specs.Judge.{tables_refusal, signal_of, all_changes, end_at}
use Rattle.lxt_format.proofs.JudgeLaws.{passed, passed_located}
use Rattle.lxt_format.specs.Walk.{insert, sort, top, high, step}
use Rattle.lxt_format.specs.Stray.{in_change, stray_at, stray_bytes}
use Rattle.lxt_format.specs.declared.Pair.{Pair}
use Rattle.lxt_tables.specs.Parts.{in_parts, Bodies}
use Rattle.lxt_chains.specs.Pending.{pair_of, pending_changes, root_offsets}
use Rattle.lxt_chains.specs.Sweep.{keeps, fitting, left}
use Rattle.lxt_chains.specs.Free.{free_between, free_around}
use Rattle.lxt_chains.proofs.Step.{sorted_quiet, sorted_step}
use Rattle.lxt_chains.proofs.Bridge.{all_roots}
use Rattle.lxt_chains.proofs.CountLaws.{counted, counted_most, counted_empty, counted_none, counted_split, counted_same}

-- ---- a test of some pair is the same in any order

pub or_left : (a b c : Bool) → (a || (b || c)) ≡ (b || (a || c))
or_left false b c = refl
or_left true true c = refl
or_left true false c = refl

module _ (q : Pair → Bool) where
  any_insert : (p : Pair) (l : List Pair) → any q (insert p l) ≡ (q p || any q l)
  unfolding any insert
  any_insert p [] = refl
  any_insert p (x ∷ l) =
      let rest = any_insert p l in
      on_test (leb x.offset p.offset) (λ e. rw e) (λ e. rw (e, rest) (or_left (q x) (q p) (any q l)))

  any_sort : (l : List Pair) → any q (sort l) ≡ any q l
  unfolding any sort
  any_sort [] = refl
  any_sort (p ∷ l) = rw (any_insert p (sort l), any_sort l)

-- ---- the bytes of one gap

module _ (parts : List ℕ) (a b : ℕ) where
  -- at most all of them
  pub between_most : free_between parts a b ≤ b - a
  unfolding free_between
  between_most = counted_most _ a b

  -- none where there is no gap
  pub between_none : b ≤ a → free_between parts a b ≡ 0
  unfolding free_between
  between_none h = counted_empty _ a b h

  -- a sum that leaves room for all bytes below b leaves room for these
  pub sum_fits : (T free gap : ℕ) → gap ≡ free_between parts a b → free + b ≤ T → free + gap ≤ T
  sum_fits T free gap e room = let most = between_most in omega arith

-- ---- the bytes of all gaps

module _ (s : List ℕ) where
  -- a change ends above its start
  after_start : (p : Pair) → p.offset < end_at s p
  unfolding end_at
  after_start p = let after = end_after s (signal_of s p.number) p.offset in omega arith

  module _ (bound : ℕ) (p : Pair) (h : keeps s bound p ≡ true) where
    keeps_starts : changes_from s ≤ p.offset
    unfolding keeps
    keeps_starts =
        let no_fault = (and_both (eqb (fault_at s (signal_of s p.number) p.offset) 0) (leb (end_at s p) bound) h).0 in
        (sound s (signal_of s p.number) p.offset (eqb-true _ _ no_fault)).starts

    keeps_ends : end_at s p ≤ bound
    unfolding keeps
    keeps_ends = leb-true _ _ (and_both (eqb (fault_at s (signal_of s p.number) p.offset) 0) (leb (end_at s p) bound) h).1

  -- what the first of changes that fit keeps, and those below it
  record First (bound : ℕ) (p : Pair) (l : List Pair) : Type 0 where
    starts : changes_from s ≤ p.offset
    after : p.offset < end_at s p
    ends : end_at s p ≤ bound
    rest : fitting s p.offset l ≡ true

  first : (bound : ℕ) (p : Pair) (l : List Pair) → fitting s bound (p ∷ l) ≡ true → First bound p l
  unfolding fitting
  first bound p l h =
      let both = and_both (keeps s bound p) (fitting s p.offset l) h in
      record { starts = keeps_starts bound p both.0; after = after_start p; ends = keeps_ends bound p both.0; rest = both.1 }

  module _ (j : ℕ) (p : Pair) where
    -- a byte below a change, in it, above it
    under_change : j < p.offset → in_change s j p ≡ false
    unfolding in_change
    under_change h = rw (lt-leb p.offset j h)

    in_change_lem : p.offset ≤ j → j < end_at s p → in_change s j p ≡ true
    unfolding in_change
    in_change_lem h k = rw (le-leb p.offset j h, lt-ltb j (end_at s p) k)

    over_change : p.offset ≤ j → end_at s p ≤ j → in_change s j p ≡ false
    unfolding in_change
    over_change h k = rw (le-leb p.offset j h, le-ltb j (end_at s p) k)

  -- no byte from the bound on lies in a change that fits
  over_changes : (j bound : ℕ) (l : List Pair) → fitting s bound l ≡ true → bound ≤ j → any (in_change s j) l ≡ false
  unfolding any
  over_changes j bound [] h b = refl
  over_changes j bound (p ∷ l) h b =
      let f = first bound p l h in
      let rest = over_changes j p.offset l f.rest (omega (arith, f)) in
      rw (over_change j p (omega (arith, f)) (omega (arith, f)), rest)

  module _ (parts : List ℕ) (low : 4 ≤ changes_from s) where
    -- a byte that lies in none of some changes and in no part
    abbrev apart_from : List Pair → ℕ → Bool
    apart_from l j = not (any (in_change s j) l) && not (in_parts j parts)

    around_is : (bound : ℕ) (l : List Pair) → fitting s bound l ≡ true → free_around s parts bound l ≡ counted (apart_from l) 4 bound
    unfolding free_around free_between any
    around_is bound [] h = refl
    around_is bound (p ∷ l) h =
        let f = first bound p l h in
        let o : ℕ = p.offset in
        let end : ℕ = end_at s p in
        let all : ℕ → Bool = apart_from (p ∷ l) in
        let below = counted_same all (apart_from l) 4 o (λ j x y. rw (under_change j p y)) in
        let within = counted_none all o end (λ j x y. rw (in_change_lem j p x y)) in
        let above : counted all end bound ≡ free_between parts end bound =
        counted_same all _ end bound
        (λ j x y. rw (over_change j p (omega (arith, f)) x, over_changes j o l f.rest (omega (arith, f)))) in
        let whole = counted_split all 4 bound o (omega (arith, f)) (omega (arith, f)) in
        let upper = counted_split all o bound end (omega (arith, f)) f.ends in
        let rest = around_is o l f.rest in
        omega (arith, below, within, above, whole, upper, rest)

-- ---- going down the changes

module _ (s parts : List ℕ) where
  -- no change is left
  pub around_ended : (bound : ℕ) (os : List ℕ) → high os ≡ 0 → free_around s parts bound (left s os) ≡ free_between parts 4 bound
  unfolding free_around
  around_ended bound os h = rw (sorted_quiet s os h)

  -- the bytes between the highest change and the bound, then those around the changes below it
  pub around_next : (bound : ℕ) (os : List ℕ) → 0 < high os
      → free_around s parts bound (left s os)
      ≡ free_between parts (end_at s (pair_of (top os) (high os))) bound + free_around s parts (high os) (left s (step s os))
  unfolding free_around
  around_next bound os h = rw (sorted_step s os h)

  -- the same with a sum of those above the bound
  pub sum_next : (free bound : ℕ) (os : List ℕ) → 0 < high os
      → free + free_between parts (end_at s (pair_of (top os) (high os))) bound + free_around s parts (high os) (left s (step s os))
      ≡ free + free_around s parts bound (left s os)
  sum_next free bound os h = let next = around_next bound os h in omega arith

  -- a sum that is no more than what lies above the bound stays so with the next gap
  pub gap_room : (T free bound : ℕ) (p : Pair) → keeps s bound p ≡ true → free + bound ≤ T
      → free + free_between parts (end_at s p) bound + p.offset ≤ T
  gap_room T free bound p h room =
      let most = between_most parts (end_at s p) bound in
      let ends = keeps_ends s bound p h in
      let after = after_start s p in
      omega arith

-- ---- stray bytes

-- a byte lies in one of the changes by falling offset exactly where it lies in one of all changes
in_all : (s : List ℕ) (j : ℕ) → any (in_change s j) (left s (root_offsets s)) ≡ any (in_change s j) (all_changes s)
in_all s j = any_sort (in_change s j) (pending_changes s 0 (root_offsets s)) ∙ ap (any (in_change s j)) (sym (all_roots s))

module _ (s parts : List ℕ) (bodies : Bodies s parts) (fits : fitting s (end_of s) (left s (root_offsets s)) ≡ true) where
  stray_above : 4 ≤ changes_from s → free_around s parts (end_of s) (left s (root_offsets s)) ≡ stray_bytes s
  unfolding stray_bytes stray_at
  stray_above low =
      around_is s parts low (end_of s) (left s (root_offsets s)) fits
      ∙ counted_same _ _ 4 (end_of s) (λ j x y. rw (in_all s j, bodies.cover j))

  -- the bytes around all changes that lie in no body are the stray bytes
  pub stray_is : tables_refusal s ≡ 0 → free_around s parts (end_of s) (left s (root_offsets s)) ≡ stray_bytes s
  stray_is h = stray_above (passed_located s (passed s h)).changes_low
