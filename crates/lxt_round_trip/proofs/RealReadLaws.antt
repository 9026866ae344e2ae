-- What is read of the written bytes of a real.
use Prim.Native.Nat.{ℕ, suc, ◌+◌, ◌*◌, ◌<◌, ◌/◌, ◌%◌}
use mathlib.Core.Path.{◌≡◌, refl, sym, ap, ◌∙◌}
use mathlib.Core.List.{List, [], ◌∷◌}
use lib.ListN.{length, get_or}
use native.Mathlib.Omega.{arith}
use Rattle.lxt_format.specs.Basics.{range}
use Rattle.lxt_format.specs.Bytes.{byte_at, little_endian}
use Rattle.lxt_format.specs.BytesLaws.{AreBytes}
use Rattle.lxt_format.specs.Reals.{byte_order, bits_in_order, real_bits}
use Rattle.lxt_written.specs.Stands.{Stands}
use Rattle.lxt_round_trip.specs.Steps.{lowest_first}

-- the bytes of the number of bytes that stand in order are these bytes
bytes_in_order : (s : List ℕ) (o i : ℕ) (value : List ℕ) → AreBytes value → ((j : ℕ) → j < length value → byte_at s (o + (i + j)) ≡ get_or value j 0)
    → little_endian (length value) (bits_in_order s o (range i (length value))) ≡ value
unfolding little_endian bits_in_order range
bytes_in_order s o i [] bytes same = refl
bytes_in_order s o i (x ∷ l) bytes same =
    let bits : ℕ = bits_in_order s o (range (suc i) (length l)) in
    let small : x < 256 = bytes 0 in
    let e : i + 0 ≡ i = omega arith in
    let first : byte_at s (o + i) ≡ x = ap (λ p. byte_at s (o + p)) (sym e) ∙ same 0 (omega arith) in
    let low : (x + 256 * bits) % 256 ≡ x = omega arith in
    let high : (x + 256 * bits) / 256 ≡ bits = omega arith in
    let rest = bytes_in_order s o (suc i) l (λ j. bytes (suc j)) (λ j h. let q : suc i + j ≡ i + suc j = omega arith in rw q (same (suc j) (omega arith))) in
    rw (first, low, high, rest)

-- a real whose 8 bytes stand lowest first
pub real_read : (s : List ℕ) (o : ℕ) (value : List ℕ) → AreBytes value → length value ≡ 8 → byte_order s ≡ lowest_first → Stands s o value
    → little_endian 8 (real_bits s o) ≡ value
unfolding real_bits range
real_read s o value bytes long order there =
    rw order (rw long at (bytes_in_order s o 0 value bytes (λ j h. let e : 0 + j ≡ j = omega arith in rw e (there.same j h))))
