-- A law for each way out of reading a value.
use Prim.Native.Nat.{ℕ, ◌+◌, ◌≤◌, ◌<◌}
use mathlib.Core.Path.{◌≡◌, ◌∙◌}
use mathlib.Core.Bool.{true}
use mathlib.Core.List.{List, ◌++◌}
use lib.ListN.{length, drop, length-replicate}
use lib.Seq.{slice}
use lib.Ieee.{Float}
use lib.Dec.{lit<}
use native.Mathlib.Omega.{arith}
use native.Mathlib.Decide.{ℕ_discrete}
use borrow.Author.Tests.{eq-eqb, ne_eqb}
use Rattle.lxt_format.specs.Bytes.{to_zero}
use Rattle.lxt_format.specs.Sections.{changes_from, end_of}
use Rattle.lxt_format.specs.Reals.{byte_order, bits_in_order, real_bits}
use Rattle.lxt_format.specs.Reals as R
use Rattle.lxt_format.specs.Changes.{command_of, data_at, symbol_size, change_end, data_size}
use Rattle.lxt_format.specs.Values.{symbols_at, content_by}
use Rattle.lxt_format.specs.Answers.{bits_of, real_of, text_of, shown}
use Rattle.lxt_format.specs.Questions.{written, holding_bits}
use Rattle.lxt_format.specs.declared.Kind.{Kind}
use Rattle.lxt_format.specs.declared.Kind.TheVariants.{Bits, Integer, Real, Text}
use Rattle.lxt_changes.specs.Faults.{symbolic}
use Rattle.lxt_values.specs.Symbols.{Drawn}
use Rattle.lxt_format.specs.UnpackLaws.{Size}
use Rattle.lxt_values.proofs.SymbolLaws.{symbols_length}
use Rattle.lxt_values.proofs.SoundSymbols.{sound_drawn}
use Rattle.lxt_values.specs.Reals.{Places}
use Rattle.lxt_values.specs.Value.{Readies}

-- ---- symbols

-- as many symbols as the width
pub symbols_long : (s : List ℕ) (width o : ℕ) → Drawn s width o → length (symbols_at s width o) ≡ width
unfolding symbols_at symbol_size
symbols_long s width o d =
    let c : ℕ = command_of s o in
    elim (ℕ_discrete c 0) [
      | yes e ↦ packed_long 1 Size.one (simp (eq-eqb c 0 e)) (lit< tt)
      | no n ↦ elim (ℕ_discrete c 1) [
        | yes e ↦ packed_long 2 Size.two (simp (ne_eqb c 0 n, eq-eqb c 1 e)) (lit< tt)
        | no m ↦ elim (ℕ_discrete c 2) [
          | yes e ↦ packed_long 4 Size.four (simp (ne_eqb c 0 n, ne_eqb c 1 m, eq-eqb c 2 e)) (lit< tt)
          | no k ↦ none_long (simp (ne_eqb c 0 n, ne_eqb c 1 m, ne_eqb c 2 k))
        ]
      ]
    ]
  where
    packed_long : (b : ℕ) → Size b → symbol_size (command_of s o) ≡ b → 0 < b → length (symbols_at s width o) ≡ width
    packed_long b z e l =
        let n : symbol_size (command_of s o) ≡ 0 → ⊥ = omega arith in
        simp (ne_eqb _ 0 n) (rw e (symbols_length s b width (data_at s o) (record { size = z; inside = rw (← e) d.inside })))

    none_long : symbol_size (command_of s o) ≡ 0 → length (symbols_at s width o) ≡ width
    none_long e = simp (eq-eqb _ 0 e) (length-replicate width _)

-- ---- the value of a change

module _ (s : List ℕ) (end : ℕ) (order : List ℕ) (kind : Kind) (width o room : ℕ) (w : Readies s end order kind width o room) where
  drawn : symbolic kind ≡ true → Drawn s width o
  drawn k = let e = w.limit in sound_drawn s (changes_from s) (end_of s) kind width o k (rw (← e) w.within) w.sound

  module _ (e : kind ≡ Bits) where
    pub bits_drawn : Drawn s width o × (width ≤ room)
    unfolding symbolic
    bits_drawn = (drawn (rw e), w.enough)

    pub bits_read : (before after : List ℕ) → after ≡ symbols_at s width o ++ drop width before
        → (bits_of width ≡ shown (content_by s kind width o)) × (after ≡ holding_bits (content_by s kind width o) before)
    unfolding content_by holding_bits written
    bits_read before after h =
        let long = symbols_long s width o bits_drawn.0 in
        (rw (e, long), h ∙ rw (e, long))

  module _ (e : kind ≡ Integer) where
    pub integer_drawn : Drawn s width o × (width ≤ room)
    unfolding symbolic
    integer_drawn = (drawn (rw e), w.enough)

    pub integer_read : (before after : List ℕ) → after ≡ symbols_at s width o ++ drop width before
        → (bits_of width ≡ shown (content_by s kind width o)) × (after ≡ holding_bits (content_by s kind width o) before)
    unfolding content_by holding_bits written
    integer_read before after h =
        let long = symbols_long s width o integer_drawn.0 in
        (rw (e, long), h ∙ rw (e, long))

  module _ (at : ℕ) (at-is : at ≡ data_at s o) where
    module _ (e : kind ≡ Real) where
      pub real_asks : Places order × (at + 8 ≤ length s)
      unfolding change_end data_size
      real_asks =
          let g : data_at s o + 8 ≤ end_of s = rw e at w.sound.ends in
          let l = w.limit in
          let h = w.within in
          (w.places e, omega arith)

      pub real_read : (word : ℕ) → word ≡ bits_in_order s at order → (x : Float) → x ≡ R.real_of word → (before : List ℕ)
          → (real_of x word ≡ shown (content_by s kind width o)) × (before ≡ holding_bits (content_by s kind width o) before)
      unfolding content_by holding_bits written real_bits
      real_read word ew x ex before =
          let v : word ≡ bits_in_order s (data_at s o) (byte_order s) = ew ∙ rw (at-is, w.ordered e) in
          (rw (e, ex, v), rw e)

    module _ (e : kind ≡ Text) (n : ℕ) (en : n ≡ to_zero (slice at end s)) where
      pub length_small : n < 4294967296
      unfolding change_end data_size
      length_small =
          let z : n ≡ to_zero (slice (data_at s o) (end_of s) s) = en ∙ rw (at-is, w.limit) in
          let g : data_at s o + (to_zero (slice (data_at s o) (end_of s) s) + 1) ≤ end_of s = rw e at w.sound.ends in
          let l = w.limit in
          let h = w.within in
          let q = w.short in
          omega arith

      pub text_read : (before : List ℕ)
          → (text_of at n ≡ shown (content_by s kind width o)) × (before ≡ holding_bits (content_by s kind width o) before)
      unfolding content_by holding_bits written
      text_read before = (rw (e, en, at-is, w.limit), rw e)
