-- The changes of a chain without a fault can be read.
use Prim.Native.Nat.{ℕ, ◌≤◌}
use mathlib.Core.Path.{◌≡◌}
use mathlib.Core.List.{List, [], ◌∷◌, map}
use lib.ListN.{length}
use native.Mathlib.Omega.{arith}
use Rattle.lxt_format.specs.Basics.{first_fault}
use Rattle.lxt_format.specs.BasicsLaws.{neither}
use Rattle.lxt_format.specs.Changes.{Signal, change_end, fault_at, chain_of, chain_fault}
use Rattle.lxt_format.proofs.ChangesLaws.{sound}
use Rattle.lxt_values.specs.Times.{Readable, no_change, change}

module _ (s : List ℕ) (g : Signal) where
  -- changes without a fault are readable
  sound_readable : (os : List ℕ) → g.end ≤ length s → first_fault (map (fault_at s g) os) ≡ 0 → Readable s os
  unfolding first_fault change_end
  sound_readable [] t h = no_change
  sound_readable (o ∷ os) t h =
      let both = neither (fault_at s g o) (first_fault (map (fault_at s g) os)) h in
      let k = sound s g o both.0 in
      let l = k.before in
      let e = k.ends in
      change {o = o} (omega arith) (omega arith) (sound_readable os t both.1)

  -- and so is a chain
  pub chain_readable : (from : ℕ) → chain_fault s g from ≡ 0 → g.end ≤ length s → Readable s (chain_of s from)
  unfolding chain_fault
  chain_readable from h t = sound_readable (chain_of s from) t h
