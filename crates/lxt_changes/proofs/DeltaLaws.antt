-- A law for each way out of the functions on deltas.
use Prim.Native.Nat.{ℕ, ◌+◌, ◌*◌, ◌-◌, ◌≤◌, ◌<◌, ◌/◌, ◌%◌}
use mathlib.Core.Path.{◌≡◌, sym, ◌∙◌}
use mathlib.Core.Bool.{false, ◌||◌}
use mathlib.Core.List.{List}
use lib.ListN.{length}
use lib.Dec.{leb, eqb}
use native.Mathlib.Omega.{arith}
use borrow.Author.Tests.{le-leb, lt-leb}
use Rattle.lxt_format.specs.Bytes.{byte_at, number_at, u16_at, u32_at}
use Rattle.lxt_format.specs.BytesLaws.{number_1, number_2, number_3, u16_bytes}
use Rattle.lxt_format.specs.Changes.{delta_size, delta_of, data_at, previous_of, previous_allowed}

module _ (s : List ℕ) where
  pub size_is : (o r : ℕ) → r ≡ byte_at s o / 16 % 4 → (r + 1 ≡ delta_size s o) × ((1 ≤ r + 1) × (r + 1 ≤ 4))
  unfolding delta_size
  size_is o r e = (rw e, (omega arith, omega arith))

  module _ (size at : ℕ) where
    pub one : size ≡ 1 → (r : ℕ) → r ≡ byte_at s at → r ≡ number_at size s at
    one h r e = rw h (e ∙ sym (number_1 s at))

    pub two : size ≡ 2 → (r : ℕ) → r ≡ u16_at s at → r ≡ number_at size s at
    two h r e = rw h (e ∙ u16_bytes s at ∙ sym (number_2 s at))

    pub three : size ≡ 3 → (a b : ℕ) → a ≡ u16_at s at → b ≡ byte_at s (at + 2) → a * 256 + b ≡ number_at size s at
    three h a b ea eb = rw (h, number_3 s at, ea, eb, u16_bytes s at) (omega arith)

    pub four : size ≡ 4 → (r : ℕ) → r ≡ u32_at s at → r ≡ number_at size s at
    unfolding u32_at
    four k r e = rw k e

  pub number_fits : (o size : ℕ) → size ≡ delta_size s o → data_at s o ≤ length s → (o + 1) + size ≤ length s
  unfolding data_at
  number_fits o size es h = rw es h

  module _ (o size d : ℕ) (es : size ≡ delta_size s o) (ed : d ≡ number_at size s (o + 1)) where
    delta_is : d ≡ delta_of s o
    unfolding delta_of
    delta_is = ed ∙ rw es

    pub before : o - (d + 2) ≡ previous_of s o
    unfolding previous_of
    before = rw delta_is

    pub refused : o < d + 2 → (C : ℕ) → false ≡ previous_allowed s C o
    unfolding previous_allowed
    refused h C = let g : o < delta_of s o + 2 = (let e = delta_is in omega arith) in simp (lt-leb _ _ g)

    pub allowed : d + 2 ≤ o → (C : ℕ) → (eqb (o - (d + 2)) 0 || leb C (o - (d + 2))) ≡ previous_allowed s C o
    unfolding previous_allowed
    allowed h C = let g : delta_of s o + 2 ≤ o = (let e = delta_is in omega arith) in simp (le-leb _ _ g) (rw before)
