-- The laws of the part of the bits that an item is put into, from its start on.
use Prim.Native.Nat.{ℕ, ◌-◌}
use mathlib.Core.Path.{◌≡◌, ◌∙◌, ap}
use mathlib.Core.List.{List}
use lib.ListN.{length}
use Rattle.lxt_format.specs.Buffers.{placed, part_from, part_back, part_long, part_put}
use Rattle.lxt_format.specs.Values.{Content}
use Rattle.lxt_format.specs.Questions.{written, holding_bits}
use Rattle.lxt_format.specs.declared.Kind.{Kind}
use Rattle.std.specs.Prelude.{Option}
use Rattle.lxt_values.specs.Value.{Shows}

module _ (buffer : List ℕ) (at : ℕ) where
  pub part_shows : (s : List ℕ) (end : ℕ) (order : List ℕ) (kind : Kind) (width : ℕ) (o : Option ℕ) → Shows s end order kind width o (length buffer - at)
      → Shows s end order kind width o (length (part_from buffer at))
  part_shows s end order kind width o h = rw (part_long buffer at) h

  -- back in its place, with the symbols of a value at its start
  pub part_back_lem : (value : Content) (after : List ℕ) → after ≡ holding_bits value (part_from buffer at) → part_back buffer at after ≡ placed buffer at (written value)
  unfolding holding_bits
  part_back_lem value after e = ap (part_back buffer at) e ∙ part_put buffer at (written value)
