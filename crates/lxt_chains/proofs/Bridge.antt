-- Lists of changes root by root, against the pending offsets from which they follow.
use Rattle.std.specs.Prelude.{if◌then◌else◌}
use Prim.Native.Nat.{ℕ, zero, suc, ◌+◌, ◌<◌}
use native.Mathlib.Nat.{zero-add}
use native.Mathlib.Omega.{arith}
use mathlib.Core.Path.{◌≡◌, refl, ap, ◌∙◌}
use mathlib.Core.Bool.{Bool, not}
use mathlib.Core.List.{List, map}
use lib.ListN.{length, get_or, length-map}
use Rattle.lxt_format.specs.Basics.{range, select, joined}
use Rattle.lxt_format.specs.BasicsLaws.{on_test, length_range}
use Rattle.lxt_format.specs.Sections.{facility_count}
use Rattle.lxt_format.specs.Geometry.{is_alias, roots_of, sync_of}
use Rattle.lxt_format.specs.Judge.{changes_of, all_changes}
use Rattle.lxt_format.specs.Walk.{asks, sort, full_list, start_offsets}
use Rattle.lxt_chains.specs.Pending.{chain_pairs, pending_changes, root_offsets}
use Rattle.lxt_chains.proofs.Step.{changes_none}

-- what a function gives of each number of a range
get_d_over : (g : ℕ → ℕ) (i k f : ℕ) → f < k → get_or (map g (range i k)) f 0 ≡ g (i + f)
unfolding range
get_d_over g i zero f h = absurd (omega arith)
get_d_over g i (suc k) zero h = let e : i ≡ i + 0 = omega arith in ap g e
get_d_over g i (suc k) (suc f) h = let e : suc i + f ≡ i + suc f = omega arith in get_d_over g (suc i) k f (omega arith) ∙ ap g e

module _ (s : List ℕ) where
  -- the changes of the facilities of which a test holds: those from the sync entry of each, and from 0 of the others
  chosen : (c : ℕ → Bool) (i k : ℕ)
      → joined (changes_of s) (select c (range i k)) ≡ pending_changes s i (map (λ f. if c f then sync_of s f else 0) (range i k))
  unfolding joined select range pending_changes changes_of chain_pairs
  chosen c i zero = refl
  chosen c i (suc k) =
      let rest = chosen c (suc i) k in
      on_test (c i) (λ e. rw (e, rest)) (λ e. rw (e, rest, changes_none s i))

  -- ---- a start

  -- the full list is made of the changes from the pending offsets of a start
  pub full_start : (asked : List ℕ) → full_list s asked ≡ sort (pending_changes s 0 (start_offsets s asked))
  unfolding full_list start_offsets
  full_start asked = rw (chosen (asks s asked) 0 (facility_count s))

  -- a start has a pending offset for each facility
  pub length_start : (asked : List ℕ) → length (start_offsets s asked) ≡ facility_count s
  unfolding start_offsets
  length_start asked = rw (length-map, length_range)

  -- the sync entry where the facility is asked for, and else 0
  pub get_d_start : (asked : List ℕ) (f : ℕ) → f < facility_count s → get_or (start_offsets s asked) f 0 ≡ (if asks s asked f then sync_of s f else 0)
  unfolding start_offsets
  get_d_start asked f h = get_d_over _ 0 (facility_count s) f h ∙ rw zero-add

  -- ---- all roots

  -- to take the sync entry of what is no alias is to take 0 of an alias
  each_root : (i k : ℕ) → map (λ f. if not (is_alias s f) then sync_of s f else 0) (range i k) ≡ map (λ f. if is_alias s f then 0 else sync_of s f) (range i k)
  unfolding range
  each_root i zero = refl
  each_root i (suc k) = let rest = each_root (suc i) k in on_test (is_alias s i) (λ e. rw (e, rest)) (λ e. rw (e, rest))

  -- all changes of the file are those from the sync entries of its roots
  pub all_roots : all_changes s ≡ pending_changes s 0 (root_offsets s)
  unfolding all_changes roots_of root_offsets
  all_roots = chosen (λ f. not (is_alias s f)) 0 (facility_count s) ∙ ap (pending_changes s 0) (each_root 0 (facility_count s))

  -- there is one for each facility
  pub length_roots : length (root_offsets s) ≡ facility_count s
  unfolding root_offsets
  length_roots = rw (length-map, length_range)

  -- the sync entry of a root, and 0 of an alias
  pub get_d_roots : (f : ℕ) → f < facility_count s → get_or (root_offsets s) f 0 ≡ (if is_alias s f then 0 else sync_of s f)
  unfolding root_offsets
  get_d_roots f h = get_d_over _ 0 (facility_count s) f h ∙ rw zero-add
