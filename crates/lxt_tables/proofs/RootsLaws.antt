-- A loop over the facilities that asks whether a test holds of a root: what is left of it, and a law for each way out.
use Prim.Native.Nat.{ℕ, ◌+◌, ◌-◌, ◌≤◌, ◌<◌}
use mathlib.Core.Path.{◌≡◌, sym, ◌∙◌}
use mathlib.Core.Bool.{Bool, true, false, not, ◌&&◌, ◌||◌}
use mathlib.Core.List.{List}
use lib.Dec.{eqb}
use native.Mathlib.Omega.{arith}
use native.Mathlib.Numerals.{add-one}
use Rattle.lxt_format.specs.Basics.{range, any, select}
use Rattle.lxt_format.specs.BasicsLaws.{on_test, range_upto, range_done}
use Rattle.lxt_format.specs.Geometry.{is_alias, roots_of, sync_of}
use Rattle.lxt_tables.specs.Stage.{Geometry}

-- the test holds of a root from facility f on
unfoldable pub any_root : List ℕ → (ℕ → Bool) → ℕ → ℕ → Bool
any_root s q f n = any q (select (λ g. not (is_alias s g)) (range f (n - f)))

module _ (s : List ℕ) (q : ℕ → Bool) (g n : ℕ) (p : Geometry s g n) where
  pub any_begun : any_root s q 0 n ≡ any q (roots_of s)
  unfolding any_root roots_of
  any_begun = let e : n - 0 ≡ n = omega arith in rw (e, p.count)

  module _ (w : Bool) (f : ℕ) (inv : any_root s q f n ≡ w) where
    pub any_end : n ≤ f → false ≡ w
    unfolding any_root any select
    any_end h = rw (range_done f n h) at inv

    module _ (h : f < n) where
      opened : any_root s q f n ≡ ((not (is_alias s f) && q f) || any_root s q (f + 1) n)
      unfolding any_root any select
      opened = rw (add-one, range_upto f n h) (on_test (is_alias s f) (λ e. rw e) (λ e. rw e))

      pub here : (not (is_alias s f) && q f) ≡ true → true ≡ w
      here e = sym (opened ∙ rw e) ∙ inv

      pub later : (not (is_alias s f) && q f) ≡ false → any_root s q (f + 1) n ≡ w
      later e = sym (opened ∙ rw e) ∙ inv

-- ---- a sync entry is not 0

abbrev pub synced : List ℕ → ℕ → Bool
synced s f = not (eqb (sync_of s f) 0)

module _ (s : List ℕ) (g n : ℕ) (p : Geometry s g n) (w : Bool) (f : ℕ) (inv : any_root s (synced s) f n ≡ w) (h : f < n) (a : Bool)
    (ea : a ≡ is_alias s f) (v : ℕ) (ev : v ≡ sync_of s f) where
  pub sync_here : (not a && not (eqb v 0)) ≡ true → true ≡ w
  sync_here e = here s (synced s) g n p w f inv h (rw (← ea, ← ev) e)

  pub sync_later : (not a && not (eqb v 0)) ≡ false → any_root s (synced s) (f + 1) n ≡ w
  sync_later e = later s (synced s) g n p w f inv h (rw (← ea, ← ev) e)
