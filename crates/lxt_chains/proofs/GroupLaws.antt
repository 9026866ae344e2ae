-- Groups by windows: what is tested of a change, and what a slot holds after a group has come there.
use Prim.Native.Nat.{ℕ, suc, ◌+◌, ◌*◌, ◌-◌, ◌/◌, ◌%◌, ◌<◌, max}
use native.Mathlib.Omega.{arith}
use mathlib.Core.Path.{◌≡◌, refl, ◌∙◌}
use mathlib.Core.List.{List}
use lib.ListN.{length, get_or, set}
use Rattle.lxt_chains.specs.Windows.{Entering}
use Rattle.lxt_chains.specs.Groups.{both_kinds, Settles, Settling}

-- ---- the kinds of two groups

module _ (a b x y z : ℕ) (ex : x ≡ max (a % 2) (b % 2)) (ey : y ≡ max (a / 2 % 2) (b / 2 % 2)) (ez : z ≡ max (a / 4 % 2) (b / 4 % 2)) where
  pub both_kinds_are : x + (2 * y + 4 * z) ≡ both_kinds a b
  unfolding both_kinds
  both_kinds_are = rw (ex, ey, ez)

-- ---- a group is put into its slot, or added to the one that holds it

module _ (base f : ℕ) (os slots widths kinds : List ℕ) (w : Settles base f os slots widths kinds) (held : ℕ) (slots' : List ℕ)
    (e : Entering base f (get_or os f 0) slots held slots') where
  pub settle_put : held ≡ 0 → Settling base f os slots widths kinds os slots' widths kinds
  settle_put z = by e
    where
      by : Entering base f (get_or os f 0) slots held slots' → Settling base f os slots widths kinds os slots' widths kinds
      by (Entering.outside q _ same) = Settling.outside q refl same refl refl
      by (Entering.put k free _ same) = Settling.put k free refl same refl refl
      by (Entering.taken k q n _) = absurd (n z)

  module _ (g : ℕ) (eg : held ≡ suc g) where
    -- the slot is that of a group
    pub holder : g < length os
    holder = by e
      where
        by : Entering base f (get_or os f 0) slots held slots' → g < length os
        by (Entering.outside q z _) = absurd (omega arith)
        by (Entering.put k free z _) = absurd (omega arith)
        by (Entering.taken k q _ _) = w.numbers (get_or os f 0 - base) (g) (q ∙ eg)

    pub holder_width : g < length widths
    holder_width = let a = holder in omega (arith, w.widths_long)

    pub holder_kinds : g < length kinds
    holder_kinds = let a = holder in omega (arith, w.kinds_long)

    pub settle_added : (v k : ℕ) → v ≡ max (get_or widths (g) 0) (get_or widths f 0) → k ≡ both_kinds (get_or kinds (g) 0) (get_or kinds f 0)
        → Settling base f os slots widths kinds (set os f 0) slots' (set widths (g) v) (set kinds (g) k)
    settle_added v k ev ek = by e
      where
        by : Entering base f (get_or os f 0) slots held slots' → Settling base f os slots widths kinds (set os f 0) slots' (set widths (g) v) (set kinds (g) k)
        by (Entering.outside q z _) = absurd (omega arith)
        by (Entering.put i free z _) = absurd (omega arith)
        by (Entering.taken i q _ same) = Settling.added (g) i (q ∙ eg) refl same (rw ev) (rw ek)
