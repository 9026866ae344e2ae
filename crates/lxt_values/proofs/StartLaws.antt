-- The laws of what a facility shows at a time: before its first change, and by its latest one.
use mathlib.Core.Logic.{◌⊎◌, inl, inr}
use Rattle.std.specs.Prelude.{Option}
use Prim.Native.Nat.{ℕ}
use mathlib.Core.Path.{◌≡◌, refl, ◌∙◌}
use mathlib.Core.List.{List, ◌++◌}
use lib.ListN.{drop, replicate, length-replicate}
use lib.IntN.{ℤ}
use native.Mathlib.Omega.{arith}
use borrow.Author.Tests.{ne_eqb, eq-eqb}
use Rattle.lxt_format.specs.BasicsLaws.{on_zero}
use Rattle.lxt_format.specs.Sections.{initial_of}
use Rattle.lxt_format.specs.Geometry.{own_facts}
use Rattle.lxt_format.specs.Values.{bits, symbol_of, content_of, change_at, initial_by, content_at}
use Rattle.lxt_format.specs.Answers.{bits_of, nothing, shown}
use Rattle.lxt_format.specs.Questions.{written, holding_bits}
use Rattle.lxt_format.specs.declared.Kind.{Kind}
use Rattle.lxt_format.specs.declared.Kind.TheVariants.{Bits, Integer, Real, Text}
use Rattle.lxt_values.specs.Times.{found_at}
use Rattle.lxt_values.specs.Value.{start_content, content_from}

-- ---- before the first change

filled : (width x : ℕ) (before after : List ℕ) → after ≡ replicate width x ++ drop width before
    → (bits_of width ≡ shown (bits (replicate width x))) × (after ≡ holding_bits (bits (replicate width x)) before)
unfolding holding_bits written
filled width x before after h = (rw (length-replicate width x), h ∙ rw (length-replicate width x))

module _ (kind : Kind) (width code : ℕ) where
  pub symbols_start : (kind ≡ Bits) ⊎ (kind ≡ Integer) → (x : ℕ) → x ≡ symbol_of code → (before after : List ℕ) → after ≡ replicate width x ++ drop width before
      → (bits_of width ≡ shown (start_content kind width code)) × (after ≡ holding_bits (start_content kind width code) before)
  unfolding start_content
  symbols_start (inl e) x ex before after h = rw (e, ← ex) (filled width x before after h)
  symbols_start (inr e) x ex before after h = rw (e, ← ex) (filled width x before after h)

  pub others_start : (kind ≡ Real) ⊎ (kind ≡ Text) → (before : List ℕ) → (nothing ≡ shown (start_content kind width code)) × (before ≡ holding_bits (start_content kind width code) before)
  unfolding start_content holding_bits written
  others_start (inl e) before = (rw e, rw e)
  others_start (inr e) before = (rw e, rw e)

start_is : (s : List ℕ) (kind : Kind) (width : ℕ) → start_content kind width (initial_of s) ≡ initial_by s kind width
unfolding start_content initial_by
start_is s Bits width = refl
start_is s Integer width = refl
start_is s Real width = refl
start_is s Text width = refl

-- ---- by the latest change

-- the value at a time, by the change that it is of
pub content_at_lem : (s : List ℕ) (f : ℕ) (t : ℤ) (o : Option ℕ) → o ≡ found_at (change_at s f t)
    → content_from s (initial_of s) (own_facts s f).kind (own_facts s f).width o ≡ content_at s f t
unfolding found_at content_from content_at content_of
content_at_lem s f t o e =
    let n = change_at s f t in
    rw e
    (on_zero n (λ z. simp (eq-eqb n 0 z) (start_is s (own_facts s f).kind (own_facts s f).width)) (λ p. let some : n ≡ 0 → ⊥ = omega arith in simp (ne_eqb n 0 some)))
