-- Laws of aliases and roots.
use Prim.Native.Nat.{ℕ, zero, suc, ◌≤◌, ◌<◌}
use Rattle.std.specs.Prelude.{◌≡◌, true, List}
use Rattle.std.proofs.Math.Path.{refl}
use Rattle.std.proofs.Math.Bool.{false}
use Rattle.std.proofs.Math.Dec.{ltb}
use native.Mathlib.Omega.{arith}
use Rattle.std.proofs.Math.Decide.{dec_le}
use borrow.Author.Tests.{lt-leb, le-leb, ltb-true}
use Rattle.lxt_format.specs.BasicsLaws.{on_test, all_range}
use Rattle.lxt_format.specs.Sections.{facility_count}
use Rattle.lxt_format.specs.Geometry.{rows_of, is_alias, root_within, root_of, aliases_allowed}

module _ (s : List ℕ) where
  -- ---- one step of the way to a root

  pub root_outside : (k f : ℕ) → facility_count s ≤ f → root_within k s f ≡ facility_count s
  unfolding root_within
  root_outside zero f h = refl
  root_outside (suc k) f h = simp (le-leb _ _ h)

  pub root_here : (k f : ℕ) → f < facility_count s → is_alias s f ≡ false → root_within (suc k) s f ≡ f
  unfolding root_within
  root_here k f h e = simp (lt-leb _ _ h, e)

  pub root_next : (k f : ℕ) → f < facility_count s → is_alias s f ≡ true → root_within (suc k) s f ≡ root_within k s (rows_of s f)
  unfolding root_within
  root_next k f h e = simp (lt-leb _ _ h, e)

  -- ---- a root is no alias, and its own root

  root_plain : (k f : ℕ) → root_within k s f < facility_count s → is_alias s (root_within k s f) ≡ false
  root_plain zero f h = absurd (unfold root_within in omega arith)
  root_plain (suc k) f h =
      let more : root_within k s (rows_of s f) < facility_count s → is_alias s (root_within k s (rows_of s f)) ≡ false = λ g. root_plain k (rows_of s f) g in
      elim (dec_le (facility_count s) f) [
        | yes l ↦ absurd (omega (arith, root_outside (suc k) f l))
        | no n ↦ (let l : f < facility_count s = omega arith in
            on_test (is_alias s f) (λ e. rw (root_next k f l e) (more (rw (root_next k f l e) at h))) (λ e. rw (root_here k f l e) e))
      ]

  pub root_no_alias : (f : ℕ) → root_of s f < facility_count s → is_alias s (root_of s f) ≡ false
  unfolding root_of
  root_no_alias f h = root_plain (facility_count s) f h

  root_some : (k f : ℕ) → 0 < k → f < facility_count s → is_alias s f ≡ false → root_within k s f ≡ f
  root_some zero f p h e = absurd (omega arith)
  root_some (suc k) f p h e = root_here k f h e

  -- "A root's root is itself."
  pub root_self : (f : ℕ) → f < facility_count s → is_alias s f ≡ false → root_of s f ≡ f
  unfolding root_of
  root_self f h e = root_some (facility_count s) f (omega arith) h e

  -- where refusal 12 is not given, every facility has a root
  pub root_below : aliases_allowed s ≡ true → (f : ℕ) → f < facility_count s → root_of s f < facility_count s
  unfolding aliases_allowed
  root_below h f l = ltb-true _ _ (all_range (λ g. ltb (root_of s g) (facility_count s)) 0 (facility_count s) h f (omega arith) (omega arith))
