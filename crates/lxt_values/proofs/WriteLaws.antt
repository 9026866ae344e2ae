-- The ways through `write`.
use Prim.Native.Nat.{ℕ, ◌+◌, ◌*◌, ◌-◌, ◌≤◌, ◌/◌, ◌%◌}
use mathlib.Core.Path.{◌≡◌, refl, ◌∙◌}
use mathlib.Core.List.{List, ◌++◌}
use lib.ListN.{length, drop, replicate}
use native.Mathlib.Omega.{arith}
use borrow.Author.Tests.{ne_eqb}
use Rattle.lxt_format.specs.Bytes.{byte_at}
use Rattle.lxt_format.specs.Changes.{command_of, data_at, symbol_size}
use Rattle.lxt_format.specs.UnpackLaws.{Size}
use Rattle.lxt_format.specs.Values.{symbol_of, symbols_at}
use Rattle.lxt_values.specs.Steps.{after_steps}
use Rattle.lxt_values.specs.Symbols.{Packed, Drawn}
use Rattle.lxt_values.proofs.SymbolLaws.{some_bits}
use Rattle.lxt_values.proofs.StepLaws.{all_steps}

-- the sizes of the symbols of commands 0, 1 and 2
pub size_0 : symbol_size 0 ≡ 1
unfolding symbol_size
size_0 = refl

pub size_1 : symbol_size 1 ≡ 2
unfolding symbol_size
size_1 = refl

pub size_2 : symbol_size 2 ≡ 4
unfolding symbol_size
size_2 = refl

-- one of these commands, c, whose symbols have b bits
module _ (s : List ℕ) (width o : ℕ) (k : Drawn s width o) (at : ℕ) (at-is : at ≡ data_at s o) (b : ℕ) (z : Size b)
    (c : ℕ) (e : byte_at s o % 16 ≡ c) (size : symbol_size c ≡ b) where
  size_is : symbol_size (command_of s o) ≡ b
  unfolding command_of
  size_is = rw e size

  -- its data
  pub drawn_data : Packed s b width at
  drawn_data = record { size = z; inside = rw (size_is, ← at-is) at k.inside }

  -- all steps write the symbols of the change
  pub drawn_symbols : (d₀ d' : List ℕ) → width ≤ length d₀ → (r : ℕ) → (r ≡ (b * width + 7) / 8) × (d' ≡ after_steps s b width at r d₀)
      → d' ≡ symbols_at s width o ++ drop width d₀
  unfolding symbols_at
  drawn_symbols d₀ d' room r w =
      let some = some_bits b z in
      rw (size_is, ← at-is) (simp (ne_eqb b 0 (omega arith)) (w.1 ∙ rw w.0 (all_steps s b width at drawn_data d₀ room)))

-- commands 3 to B: one symbol is written at every place
pub wrote_all : (s : List ℕ) (width o : ℕ) → (byte_at s o % 16 ≡ 0 → ⊥) → (byte_at s o % 16 ≡ 1 → ⊥) → (byte_at s o % 16 ≡ 2 → ⊥)
    → (x : ℕ) → x ≡ symbol_of (byte_at s o % 16 - 3) → (d₀ d' : List ℕ) → d' ≡ replicate width x ++ drop width d₀ → d' ≡ symbols_at s width o ++ drop width d₀
unfolding symbols_at symbol_size command_of
wrote_all s width o a b c x ex d₀ d' e = simp (ne_eqb _ 0 a, ne_eqb _ 1 b, ne_eqb _ 2 c) (e ∙ rw ex)
