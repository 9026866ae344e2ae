-- Times with and without their bias, from and to the bits of a signed number.
use Prim.Native.Nat.{ℕ, suc, ◌+◌, ◌-◌, ◌≤◌, ◌<◌, ◌%◌}
use mathlib.Core.Path.{◌≡◌, ◌∙◌, ap}
use mathlib.Core.List.{List}
use Rattle.std.specs.Prelude.{Option}
use lib.IntN.{ℤ, pos, negsuc}
use native.Mathlib.Decide.{dec_le}
use native.Mathlib.Omega.{arith}
use borrow.Author.Tests.{lt-ltb, le-ltb}
use mir.Syntax.{w64}
use mir.Val.{SFits, to_z, of_z}
use mir.ValLaws.{to_z-of_z}
use Rattle.lxt_format.specs.BiasedTimes.{bias, biased, unbiased}
use Rattle.lxt_format.proofs.BiasedTimesLaws.{unbiased_biased}
use Rattle.lxt_format.specs.Changes.{chain_of}
use Rattle.lxt_format.specs.Values.{latest_at, visited_in}
use Rattle.lxt_values.specs.Times.{Limit, found_at}

module _ (t : ℤ) (f : SFits w64 t) where
  back : to_z w64 (of_z w64 t) ≡ t
  back = to_z-of_z w64 t f

-- ---- with the bias

with : (t : ℤ) → SFits w64 t → (of_z w64 t + bias) % 18446744073709551616 ≡ biased t
with (pos n) f = let small = f.sfits in omega arith
with (negsuc n) f = let small = f.sfits in omega arith

pub with_bias_is : (t : ℤ) → SFits w64 t → (x : ℕ) → x ≡ of_z w64 (to_z w64 (of_z w64 t)) → (x + bias) % 18446744073709551616 ≡ biased t
with_bias_is t f x e = rw (e, back t f) (with t f)

-- ---- without the bias

without : (x : ℕ) → x < 18446744073709551616 → to_z w64 ((x + bias) % 18446744073709551616) ≡ unbiased x
without x top =
    elim (dec_le bias x) [
      | yes h ↦ (let y : (x + bias) % 18446744073709551616 ≡ x - bias = omega arith in
          let l : x - bias < bias = omega arith in
          rw y (simp (lt-ltb (x - bias) bias l, le-ltb x bias h)))
      | no n ↦ (let h : x < bias = omega arith in
          let y : (x + bias) % 18446744073709551616 ≡ x + bias = omega arith in
          let l : bias ≤ x + bias = omega arith in
          let d : 18446744073709551616 - suc (x + bias) ≡ bias - suc x = omega arith in
          rw y (simp (le-ltb (x + bias) bias l, lt-ltb x bias h, d)))
    ]

pub without_bias_is : (x : ℕ) → x < 18446744073709551616 → (a : ℤ) → SFits w64 a → a ≡ to_z w64 ((x + bias) % 18446744073709551616) → to_z w64 (of_z w64 a) ≡ unbiased x
without_bias_is x top a f e = back a f ∙ (e ∙ without x top)

-- ---- a time that is asked for

module _ (s : List ℕ) (t : ℤ) (f : SFits w64 t) where
  pub limit_at : (x P : ℕ) → x ≡ biased (to_z w64 (of_z w64 t)) → Limit s (unbiased x) P → Limit s t P
  limit_at x P e h = let same : unbiased x ≡ t = ap unbiased (e ∙ ap biased (back t f)) ∙ unbiased_biased t f.sfits in rw same at h

  pub limit_asked : (P : ℕ) → Limit s (to_z w64 (of_z w64 t)) P → Limit s t P
  limit_asked P h = rw (back t f) at h

  pub latest_at_lem : (r : Option ℕ) (visited from : ℕ)
      → (r ≡ found_at (latest_at s (to_z w64 (of_z w64 t)) (chain_of s from))) × (visited ≡ visited_in s (to_z w64 (of_z w64 t)) (chain_of s from))
      → (r ≡ found_at (latest_at s t (chain_of s from))) × (visited ≡ visited_in s t (chain_of s from))
  latest_at_lem r visited from h =
      (h.0 ∙ ap (λ z. found_at (latest_at s z (chain_of s from))) (back t f), h.1 ∙ ap (λ z. visited_in s z (chain_of s from)) (back t f))
