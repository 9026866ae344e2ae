-- The pending offsets from which all changes of the file follow.
use Prim.Native.Nat.{ℕ, ◌+◌, ◌≤◌, ◌<◌}
use native.Mathlib.Omega.{arith}
use native.Mathlib.Decide.{dec_le, ℕ_discrete}
use mathlib.Core.Path.{◌≡◌, refl, sym, ◌∙◌}
use mathlib.Core.Bool.{Bool, true, false}
use mathlib.Core.List.{List}
use lib.ListN.{length, get_or, set, drop, length-set, get_or-eq_default}
use lib.Seq.{get_or-set_same, get_or-set_other}
use Rattle.lxt_format.specs.BasicsLaws.{on_test}
use Rattle.lxt_format.specs.Geometry.{is_alias, sync_of}
use Rattle.lxt_chains.specs.Pending.{pending_changes, root_offsets}
use Rattle.lxt_format.specs.Judge.{chains_refusal}
use Rattle.lxt_chains.proofs.Sorted.{each_sort}
use Rattle.lxt_chains.proofs.Bridge.{all_roots, length_roots, get_d_roots}
use Rattle.lxt_chains.proofs.Accepted.{all_allowed}
use Rattle.lxt_chains.specs.Reading.{Ready, Pending, root_offset, FirstOffsets}
use Rattle.lxt_chains.specs.Tree.{Holding}
use Rattle.lxt_chains.proofs.TreeLaws.{Filled, fill_ended}
use Rattle.lxt_chains.proofs.NextLaws.{same_changes}
use Rattle.lxt_chains.specs.declared.chains.Chains.{Chains}

module _ (s : List ℕ) (f : ℕ) (a : Bool) (ea : a ≡ is_alias s f) where
  pub alias_offset : a ≡ true → 0 ≡ root_offset s f
  unfolding root_offset
  alias_offset h = rw (← ea, h)

  pub sync_offset : a ≡ false → (o : ℕ) → o ≡ sync_of s f → o ≡ root_offset s f
  unfolding root_offset
  sync_offset h o eo = eo ∙ rw (← ea, h)

-- the leaves of a tree hold the offset of each facility at the end
pub roots_ended : (s : List ℕ) (c : Chains) (m f : ℕ) (nodes : List ℕ) → Filled (root_offset s) c.facilities m f nodes → Ready s c → c.facilities ≤ f
    → Holding (root_offsets s) m nodes
unfolding root_offset
roots_ended s c m f nodes w r h =
    let k = r.geometry.count in
    fill_ended (root_offset s) c.facilities m f nodes w (root_offsets s) (length_roots s ∙ sym k) (λ i b. sym (get_d_roots s i (omega arith))) h

module _ (s : List ℕ) (m : ℕ) (nodes : List ℕ) (w : Holding (root_offsets s) m nodes) (os : List ℕ) (e : os ≡ drop m nodes) where
  pub root_changes : pending_changes s 0 os ≡ pending_changes s 0 (root_offsets s)
  root_changes = rw e (same_changes s 0 (drop m nodes) (root_offsets s) w.leaves)

  pub pending_roots : (c : Chains) → Ready s c → chains_refusal s ≡ 0 → Pending s c os
  pending_roots c r h =
      let k = r.geometry.count in
      let long = length_roots s in
      record {
        past = λ i q. rw e (w.leaves i ∙ get_or-eq_default (root_offsets s) 0 {n = i} (omega arith));
        each = rw root_changes (each_sort (rw (all_roots s) at (all_allowed s h)));
      }

-- ---- in a slice

-- the first f offsets are stored
pub record Stored (s : List ℕ) (k f : ℕ) (os : List ℕ) : Type 0 where
  pub long : length os ≡ k
  pub upto : f ≤ k
  pub are : (g : ℕ) → g < f → get_or os g 0 ≡ root_offset s g

pub stored_begun : (s os : List ℕ) → Stored s (length os) 0 os
stored_begun s os = record { long = refl; upto = omega arith; are = λ g h. absurd (omega arith) }

module _ (s : List ℕ) (k f : ℕ) (os : List ℕ) (w : Stored s k f os) where
  pub stored_next : f < k → (o : ℕ) → o ≡ root_offset s f → Stored s k (f + 1) (set os f o)
  stored_next h o eo =
      let l = w.long in
      record {
        long = length-set os f o ∙ w.long;
        upto = omega arith;
        are = λ g b. elim (ℕ_discrete g f) [
          | yes q ↦ rw q (get_or-set_same os f o 0 (omega arith) ∙ eo)
          | no q ↦ get_or-set_other os f g o 0 q ∙ w.are g (omega arith)
        ];
      }

  pub stored_ended : k ≤ f → FirstOffsets s k os
  stored_ended h = let l = w.long in record { long = w.long; are = λ g b. w.are g (omega arith) }

-- ---- what they stand for

-- an alias has no pending offset
root_plain : (s : List ℕ) (f : ℕ) → 0 < root_offset s f → is_alias s f ≡ false
unfolding root_offset
root_plain s f h = on_test (is_alias s f) (λ e. absurd (let z : 0 < 0 = (rw e at h) in omega arith)) (λ e. e)

module _ (s : List ℕ) (k : ℕ) (os : List ℕ) (w : FirstOffsets s k os) where
  pub first_plain : (f : ℕ) → 0 < get_or os f 0 → is_alias s f ≡ false
  first_plain f h =
      let l = w.long in
      elim (dec_le k f) [
        | yes q ↦ absurd (let z = get_or-eq_default os 0 {n = f} (omega arith) in omega arith)
        | no q ↦ root_plain s f (rw (w.are f (omega arith)) at h)
      ]

  pub all_changes_lem : (c : Chains) → Ready s c → k ≡ c.facilities → pending_changes s 0 os ≡ pending_changes s 0 (root_offsets s)
  unfolding root_offset
  all_changes_lem c r e =
      let n = r.geometry.count in
      let l = length_roots s in
      let l' = w.long in
      same_changes s 0 os (root_offsets s)
      (λ f. elim (dec_le k f) [
        | yes q ↦ get_or-eq_default os 0 {n = f} (omega arith) ∙ sym (get_or-eq_default (root_offsets s) 0 {n = f} (omega arith))
        | no q ↦ w.are f (omega arith) ∙ sym (get_d_roots s f (omega arith))
      ])
