-- What the sweep tells of a whole file: where all changes fit, checks 15 to 17 pass, and where they do not, one of them fails.
use Prim.Native.Nat.{ℕ}
use native.Mathlib.Omega.{arith}
use mathlib.Core.Path.{◌≡◌, refl, sym, ap, ◌∙◌}
use mathlib.Core.Bool.{Bool, true, false, ◌&&◌, and_assoc}
use mathlib.Core.List.{List, [], ◌∷◌, ◌++◌, map}
use lib.Dec.{leb, eqb}
use borrow.Author.Tests.{eqb-true, eq-eqb}
use Rattle.lxt_format.specs.Basics.{◌unless◌, all, joined, first_fault}
use Rattle.lxt_format.specs.BasicsLaws.{and_both, both_and, neither}
use Rattle.lxt_format.specs.Sections.{end_of}
use Rattle.lxt_format.specs.Geometry.{roots_of, sync_of}
use Rattle.lxt_format.specs.Changes.{previous_of, chain_of, fault_at, chain_fault, chain_clean}
use Rattle.lxt_format.proofs.ChangesLaws.{chain_more}
use Rattle.lxt_format.specs.Judge.{signal_of, fault_from, clean_from, chains_refusal, changes_of, all_changes, end_at, changes_apart, all_clean}
use Rattle.lxt_format.specs.declared.Pair.{Pair}
use Rattle.lxt_chains.specs.Pending.{pending_changes, root_offsets, Each, Allowed, stacked}
use Rattle.lxt_chains.specs.Reading.{Broken, chains_verdict}
use Rattle.lxt_chains.specs.Sweep.{keeps, fitting, padding_of, cleanly, left}
use Rattle.lxt_chains.proofs.Lists.{each_map, each_all}
use Rattle.lxt_chains.proofs.Sorted.{each_sort}
use Rattle.lxt_chains.proofs.Bridge.{all_roots}
use Rattle.lxt_chains.proofs.Check17.{all_sort}
use Rattle.lxt_chains.proofs.Accepted.{all_allowed, apart_stacked}

-- ---- tests of lists

all_append : {A : Type 0} (q : A → Bool) (l m : List A) → all q (l ++ m) ≡ (all q l && all q m)
unfolding all
all_append q [] m = refl
all_append q (x ∷ l) m = ap (λ b. q x && b) (all_append q l m) ∙ sym (and_assoc (q x) (all q l) (all q m))

all_joined : {A B : Type 0} (q : B → Bool) (f : A → List B) (l : List A) → all q (joined f l) ≡ all (λ x. all q (f x)) l
unfolding all joined
all_joined q f [] = refl
all_joined q f (x ∷ l) = all_append q (f x) (joined f l) ∙ ap (λ b. all q (f x) && b) (all_joined q f l)

all_map : {A B : Type 0} (q : B → Bool) (f : A → B) (l : List A) → all q (map f l) ≡ all (λ x. q (f x)) l
unfolding all
all_map q f [] = refl
all_map q f (x ∷ l) = ap (λ b. q (f x) && b) (all_map q f l)

-- where a test holds of all, no fault is the first
pub no_first : {A : Type 0} (fault : A → ℕ) (l : List A) → Each (λ x. fault x ≡ 0) l → first_fault (map fault l) ≡ 0
unfolding first_fault
no_first fault [] h = refl
no_first fault (x ∷ l) (Each.both h t) = rw (h, no_first fault l t)

-- ---- faults

-- a change has no fault
unfoldable sound_at : List ℕ → Pair → Bool
sound_at s p = eqb (fault_at s (signal_of s p.number) p.offset) 0

module _ (s : List ℕ) where
  -- where all fit, none has a fault
  fitting_sound : (bound : ℕ) (l : List Pair) → fitting s bound l ≡ true → all (sound_at s) l ≡ true
  unfolding fitting keeps all sound_at
  fitting_sound bound [] h = refl
  fitting_sound bound (p ∷ l) h =
      let a = and_both (keeps s bound p) (fitting s p.offset l) h in
      let b = and_both (eqb (fault_at s (signal_of s p.number) p.offset) 0) (leb (end_at s p) bound) a.0 in
      both_and _ _ b.0 (fitting_sound p.offset l a.1)

  -- where none has a fault, they fit exactly where they are stacked
  fitting_stacked : (bound : ℕ) (l : List Pair) → Each (λ p. sound_at s p ≡ true) l → fitting s bound l ≡ stacked (end_at s) bound l
  unfolding fitting keeps stacked sound_at
  fitting_stacked bound [] h = refl
  fitting_stacked bound (p ∷ l) (Each.both h t) = rw (h, fitting_stacked p.offset l t)

  -- the changes of a chain have no fault
  chain_sound : (f : ℕ) → all (sound_at s) (changes_of s f) ≡ true → fault_from s f (sync_of s f) ≡ 0
  unfolding changes_of fault_from chain_fault sound_at
  chain_sound f h =
      no_first (fault_at s (signal_of s f)) (chain_of s (sync_of s f))
      (each_map (λ o e. eqb-true _ _ e) (each_all _ (chain_of s (sync_of s f)) (sym (all_map (sound_at s) _ (chain_of s (sync_of s f))) ∙ h)))

  chains_sound : all (sound_at s) (all_changes s) ≡ true → chains_refusal s ≡ 0
  unfolding all_changes chains_refusal
  chains_sound h =
      no_first (λ f. fault_from s f (sync_of s f)) (roots_of s)
      (each_map (λ f e. chain_sound f e) (each_all _ (roots_of s) (sym (all_joined (sound_at s) (changes_of s) (roots_of s)) ∙ h)))

  -- an allowed change has none
  allowed_sound_at : (p : Pair) → Allowed s p → sound_at s p ≡ true
  unfolding sound_at fault_from chain_fault first_fault
  allowed_sound_at p a =
      let h = a.chain in
      let e = chain_more s p.offset a.change in
      eq-eqb _ 0
      (neither (fault_at s (signal_of s p.number) p.offset) (first_fault (map (fault_at s (signal_of s p.number)) (chain_of s (previous_of s p.offset)))) (rw e at h)).0

  -- ---- all changes of the file

  abbrev changes : List Pair
  changes = left s (root_offsets s)

  module _ (fits : fitting s (end_of s) changes ≡ true) where
    all_sound : all (sound_at s) (all_changes s) ≡ true
    all_sound = rw (all_roots s) (sym (all_sort (sound_at s) (pending_changes s 0 (root_offsets s))) ∙ fitting_sound (end_of s) changes fits)

    pub fits_faultless : chains_refusal s ≡ 0
    fits_faultless = chains_sound all_sound

    pub fits_pass : chains_verdict s ≡ 0
    unfolding chains_verdict
    fits_pass =
        let each = each_sort (each_all (sound_at s) _ (rw (all_roots s) at all_sound)) in
        let apart : changes_apart s ≡ true = apart_stacked s fits_faultless ∙ sym (fitting_stacked (end_of s) changes each) ∙ fits in
        rw (fits_faultless, apart)

  pub unfit : fitting s (end_of s) changes ≡ false → Broken s
  unfolding chains_verdict
  unfit broken h =
      let a = neither (chains_refusal s) _ h in
      let each = each_sort (rw (all_roots s) at (each_map (λ p k. allowed_sound_at p k) (all_allowed s a.0))) in
      let apart : changes_apart s ≡ false = apart_stacked s a.0 ∙ sym (fitting_stacked (end_of s) changes each) ∙ broken in
      let z : (17 unless false) ≡ 0 = rw apart at a.1 in
      absurd (omega arith)

  pub clean_is : cleanly s changes ≡ all_clean s
  unfolding cleanly all_clean all_changes all changes_of clean_from chain_clean padding_of
  clean_is =
      all_sort (padding_of s) (pending_changes s 0 (root_offsets s)) ∙ ap (all (padding_of s)) (sym (all_roots s)) ∙ all_joined (padding_of s) (changes_of s) (roots_of s)
      ∙ all_over (roots_of s)
    where
      all_over : (l : List ℕ) → all (λ f. all (padding_of s) (changes_of s f)) l ≡ all (λ f. clean_from s f (sync_of s f)) l
      all_over [] = refl
      all_over (f ∷ l) = rw (all_map (padding_of s) (λ o. record { number = f; offset = o }) (chain_of s (sync_of s f)), all_over l)
