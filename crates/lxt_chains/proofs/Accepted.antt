-- What the changes of an accepted file keep: each lies on a root's chain that has no fault from there on down.
use Prim.Native.Nat.{ℕ, zero, suc, ◌≤◌, ◌<◌}
use native.Mathlib.Nat.{le_refl}
use native.Mathlib.Omega.{arith}
use mathlib.Core.Path.{◌≡◌, ◌∙◌}
use mathlib.Core.Bool.{false, not}
use mathlib.Core.List.{List}
use borrow.Author.Tests.{not-true}
use Rattle.lxt_format.specs.Basics.{range}
use Rattle.lxt_format.specs.BasicsLaws.{on_zero}
use Rattle.lxt_format.specs.Sections.{facility_count, end_of}
use Rattle.lxt_format.specs.Geometry.{is_alias, roots_of, sync_of}
use Rattle.lxt_format.specs.Changes.{previous_of}
use Rattle.lxt_format.proofs.ChangesLaws.{previous_lt, end_after}
use Rattle.lxt_format.specs.Changes.{Sound}
use Rattle.lxt_format.specs.Judge.{signal_of, fault_from, chains_refusal, changes_of, all_changes, end_at, changes_apart}
use Rattle.lxt_format.proofs.JudgeLaws.{newest_sound}
use Rattle.lxt_format.specs.Walk.{sort}
use Rattle.lxt_format.specs.declared.Pair.{Pair}
use Rattle.lxt_chains.specs.Pending.{chain_pairs, pending_changes, root_offsets, Each, stacked, Allowed}
use Rattle.lxt_chains.proofs.Lists.{each_map, each_both, each_joined, each_selected, faultless}
use Rattle.lxt_chains.proofs.Step.{changes_none, changes_more}
use Rattle.lxt_chains.proofs.Bridge.{all_roots}
use Rattle.lxt_chains.proofs.Check17.{Fits, check_17}

module _ (s : List ℕ) where
  -- each change of a chain without a fault is allowed, k bounding their offsets
  chain_within_lem : (k f o : ℕ) → o ≤ k → is_alias s f ≡ false → fault_from s f o ≡ 0 → Each (Allowed s) (chain_pairs s f o)
  chain_within_lem zero f o b a h = let e : o ≡ 0 = omega arith in rw (e, changes_none s f) Each.none
  chain_within_lem (suc k) f o b a h =
      let rest : 0 < o → Each (Allowed s) (chain_pairs s f (previous_of s o)) =
      λ p. chain_within_lem k f (previous_of s o) (omega (arith, previous_lt s o p)) a (newest_sound s f o p h).1 in
      on_zero o (λ e. rw (e, changes_none s f) Each.none)
      (λ p. rw (changes_more s f o p) (Each.both (record { root = a; change = p; chain = h }) (rest p)))

  -- each change of a root's chain without a fault is allowed
  pub chain_allowed : (f o : ℕ) → is_alias s f ≡ false → fault_from s f o ≡ 0 → Each (Allowed s) (chain_pairs s f o)
  chain_allowed f o a h = chain_within_lem o f o (le_refl o) a h

  -- where 15 and 16 are not given, each change of the file is allowed
  pub all_allowed : chains_refusal s ≡ 0 → Each (Allowed s) (all_changes s)
  unfolding chains_refusal all_changes roots_of changes_of chain_pairs
  all_allowed h =
      each_joined (changes_of s)
      (each_map (λ f k. chain_allowed f (sync_of s f) (not-true _ k.0) k.1)
      (each_both (each_selected (λ f. not (is_alias s f)) (range 0 (facility_count s))) (faultless (λ f. fault_from s f (sync_of s f)) (roots_of s) h)))

  -- an allowed change keeps all rules of 15 and 16
  pub allowed_sound : {p : Pair} → Allowed s p → Sound s (signal_of s p.number) p.offset
  allowed_sound {p} a = (newest_sound s p.number p.offset a.change a.chain).0

  -- so it ends above its start and at or below T
  pub allowed_fits : {p : Pair} → Allowed s p → Fits (end_at s) (end_of s) p
  unfolding end_at
  allowed_fits {p} a =
      let after = end_after s (signal_of s p.number) p.offset in
      record { starts = omega arith; ends = (allowed_sound a).ends }

  -- check 17, by the changes from the sync entries of all roots
  pub apart_stacked : chains_refusal s ≡ 0 → changes_apart s ≡ stacked (end_at s) (end_of s) (sort (pending_changes s 0 (root_offsets s)))
  unfolding changes_apart
  apart_stacked h = check_17 (end_at s) (end_of s) (all_changes s) (each_map (λ p a. allowed_fits a) (all_allowed h)) ∙ rw (all_roots s)
