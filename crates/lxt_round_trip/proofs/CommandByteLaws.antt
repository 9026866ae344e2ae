-- What is read of a written change's command byte and delta, and where its data stands.
use Prim.Native.Nat.{ℕ, ◌+◌, ◌*◌, ◌-◌, ◌<◌}
use mathlib.Core.Path.{◌≡◌, sym, ap, ◌∙◌}
use mathlib.Core.List.{List, [], ◌∷◌, ◌++◌}
use native.Mathlib.Omega.{arith}
use Rattle.lxt_format.specs.Bytes.{byte_at}
use Rattle.lxt_format.specs.Changes.{command_of, delta_size, delta_of, data_at}
use Rattle.lxt_format.specs.declared.Kind.{Kind}
use Rattle.lxt_written.specs.WrittenChanges.{big_endian, command_for, data_for, fewest_bytes, change_bytes}
use Rattle.lxt_written.specs.Stands.{Stands, stands_front, stands_back, length_big_endian, stands_number}
use Rattle.lxt_written.specs.CommandLaws.{fewest_bytes_lem, command_small, head_small}

-- the command, the delta and the data of a written change at o
pub record HeadRead (s : List ℕ) (o : ℕ) (kind : Kind) (delta : ℕ) (value : List ℕ) : Type 0 where
  pub top : byte_at s o < 64
  pub command : command_of s o ≡ command_for kind value
  pub delta_is : delta_of s o ≡ delta
  pub at : data_at s o ≡ o + 1 + fewest_bytes delta
  pub stands : Stands s (data_at s o) (data_for kind value)

module _ (s : List ℕ) (o : ℕ) (kind : Kind) (delta : ℕ) (value : List ℕ) (h : Stands s o (change_bytes kind delta value)) where
  -- the command byte stands first
  first_byte : byte_at s o ≡ 16 * (fewest_bytes delta - 1) + command_for kind value
  unfolding change_bytes
  first_byte = let e : o + 0 ≡ o = omega arith in sym (ap (λ p. byte_at s p) e) ∙ h.same 0 (omega arith)

  -- the delta stands behind it, and then the data
  behind : Stands s (o + 1) (big_endian (fewest_bytes delta) delta ++ data_for kind value)
  unfolding change_bytes
  behind = stands_back s o ((16 * (fewest_bytes delta - 1) + command_for kind value) ∷ []) (big_endian (fewest_bytes delta) delta ++ data_for kind value) h

  -- its delta has as many bytes
  size_read : delta_size s o ≡ fewest_bytes delta
  unfolding delta_size
  size_read = let b = first_byte in let f = fewest_bytes_lem delta in let c = command_small kind value in omega arith

  -- what is read of the command byte and the delta
  pub head_read : delta < 4294967296 → HeadRead s o kind delta value
  unfolding command_of delta_of data_at
  head_read l =
      let b = first_byte in
      let f = fewest_bytes_lem delta in
      let c = command_small kind value in
      let e = length_big_endian (fewest_bytes delta) delta in
      record {
        top = let g = head_small kind delta value in omega arith;
        command = omega arith;
        delta_is = rw size_read
            (stands_number (fewest_bytes delta) delta s (o + 1) (stands_front s (o + 1) (big_endian (fewest_bytes delta) delta) (data_for kind value) behind) (f.hold l));
        at = rw size_read;
        stands = rw size_read (rw e at (stands_back s (o + 1) (big_endian (fewest_bytes delta) delta) (data_for kind value) behind));
      }
