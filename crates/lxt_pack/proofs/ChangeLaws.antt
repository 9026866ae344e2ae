-- Laws of the bytes of one change: its command byte, its delta and its data.
use Rattle.std.specs.Prelude.{if◌then◌else◌}
use Prim.Native.Nat.{ℕ, ◌+◌, ◌*◌, ◌-◌, ◌/◌, ◌%◌, ◌^◌, ◌≤◌, ◌<◌}
use native.Mathlib.Omega.{arith}
use native.Mathlib.Nat.{add-zero}
use native.Mathlib.Decide.{ℕ_discrete}
use mathlib.Core.Path.{◌≡◌, refl, sym, ◌∙◌}
use mathlib.Core.Bool.{true}
use Rattle.std.proofs.Common.{◌⊎◌, inl, inr}
use mathlib.Core.List.{List, [], ◌∷◌, ◌++◌, map}
use lib.ListN.{length, get_or, set, length-append}
use lib.Seq.{set-get_or, get_or-set_other}
use lib.Dec.{ltb, eqb}
use borrow.Author.Tests.{ltb-true, eqb-true, eq-eqb, ne_eqb}
use Rattle.lxt_format.specs.Basics.{all}
use Rattle.lxt_format.specs.BasicsLaws.{and_both, both_and, all_at}
use Rattle.lxt_format.specs.Buffers.{placed, length_placed, placed_none, placed_more}
use Rattle.lxt_format.specs.Changes.{symbol_size, packed_size}
use Rattle.lxt_format.specs.declared.Kind.{Kind}
use Rattle.lxt_format.specs.declared.Kind.TheVariants.{Bits, Integer, Real, Text}
use Rattle.lxt_written.specs.Stands.{length_big_endian}
use Rattle.lxt_written.specs.WrittenChanges.{big_endian, code_of, command_for, pack, packed_symbols, data_for, fewest_bytes, change_bytes}
use Rattle.lxt_written.specs.Writing.{is_symbol, is_bit, value_allowed}
use Rattle.lxt_written.specs.CommandLaws.{code_small, length_change, length_packed, value_symbols, value_length, command_bound, command_holds, held_codes}
use Rattle.lxt_format.specs.UnpackLaws.{Size}
use Rattle.lxt_pack.specs.Symbols.{Packing}
use Rattle.lxt_pack.specs.Change.{head_of, Scales, HeadAsked, Held, Sound, Puts}
use Rattle.lxt_pack.proofs.PutLaws.{stored_two, stored_three, stored_four}
use Rattle.lxt_pack.proofs.SizeLaws.{one_small, two_small, bits_symbols, integer_command}

-- ---- the command byte and the delta

pub one_byte : (x : ℕ) → x < 256 → big_endian 1 x ≡ x ∷ []
unfolding big_endian
one_byte x h = let e : x / 1 % 256 ≡ x = omega arith in rw e

-- the bytes before the data
pub head_long : (command delta : ℕ) → length (head_of command delta) ≡ 1 + fewest_bytes delta
unfolding head_of
head_long command delta = let e = length_big_endian (fewest_bytes delta) delta in omega arith

-- a byte stored where it was
stored_again : (b : List ℕ) (i x : ℕ) → x ≡ get_or b i 0 → set b i x ≡ b
stored_again b i x e = rw e (set-get_or b i 0)

-- what stands behind is as it was
behind_two : (b : List ℕ) (at x y i : ℕ) → (i ≡ at → ⊥) → (i ≡ at + 1 → ⊥) → get_or (set (set b at x) (at + 1) y) i 0 ≡ get_or b i 0
behind_two b at x y i n m = get_or-set_other (set b at x) (at + 1) i y 0 m ∙ get_or-set_other b at i x 0 n

-- 1, 2 or 3 bytes of a delta at the top of three, and the bytes behind them as they were
pub head_put : (out : List ℕ) (at command delta k scale second third c d : ℕ) → HeadAsked command delta out at
    → k ≡ fewest_bytes delta → Scales k scale → second ≡ get_or out (at + 2) 0 → third ≡ get_or out (at + 3) 0
    → c ≡ (if ltb 1 k then delta * scale / 256 % 256 else second) → d ≡ (if ltb 2 k then delta * scale % 256 else third)
    → set (set (set (set out at (16 * (k - 1) + command)) (at + 1) (delta * scale / 65536)) (at + 2) c) (at + 3) d ≡ placed out at (head_of command delta)
unfolding head_of big_endian
head_put out at command delta k scale second third c d a ek Scales.one es et ec ed =
    let x : ℕ = 16 * (k - 1) + command in
    let y : ℕ = delta * scale / 65536 in
    let small = one_small delta (sym ek) in
    let two : List ℕ = set (set out at x) (at + 1) y in
    let b₂ : set two (at + 2) c ≡ two = stored_again two (at + 2) c (ec ∙ es ∙ sym (behind_two out at x y (at + 2) (λ e. omega arith) (λ e. omega arith))) in
    let b₃ : set two (at + 3) d ≡ two = stored_again two (at + 3) d (ed ∙ et ∙ sym (behind_two out at x y (at + 3) (λ e. omega arith) (λ e. omega arith))) in
    let same : y ≡ delta / 1 % 256 = omega arith in
    rw (b₂, b₃, ← ek) (stored_two out at x y (omega (arith, a.room)) ∙ rw same)
head_put out at command delta k scale second third c d a ek Scales.two es et ec ed =
    let x : ℕ = 16 * (k - 1) + command in
    let y : ℕ = delta * scale / 65536 in
    let small = two_small delta (sym ek) in
    let three : List ℕ = set (set (set out at x) (at + 1) y) (at + 2) c in
    let old : get_or three (at + 3) 0 ≡ get_or out (at + 3) 0 =
    get_or-set_other (set (set out at x) (at + 1) y) (at + 2) (at + 3) c 0 (λ e. omega arith) ∙ behind_two out at x y (at + 3) (λ e. omega arith) (λ e. omega arith) in
    let b₃ : set three (at + 3) d ≡ three = stored_again three (at + 3) d (ed ∙ et ∙ sym old) in
    let first : y ≡ delta / 256 % 256 = omega arith in
    let last : c ≡ delta / 1 % 256 = ec ∙ omega arith in
    rw (b₃, ← ek) (stored_three out at x y c (omega (arith, a.room)) ∙ rw (first, last))
head_put out at command delta k scale second third c d a ek Scales.three es et ec ed =
    let x : ℕ = 16 * (k - 1) + command in
    let y : ℕ = delta * scale / 65536 in
    let small = a.delta_small in
    let first : y ≡ delta / 65536 % 256 = omega arith in
    let middle : c ≡ delta / 256 % 256 = ec ∙ omega arith in
    let last : d ≡ delta / 1 % 256 = ed ∙ omega arith in
    rw (← ek) (stored_four out at x y c d (omega (arith, a.room)) ∙ rw (first, middle, last))

-- ---- symbols

-- without data nothing is put
pub symbols_none : (v : List ℕ) (command : ℕ) (out : List ℕ) (at b : ℕ) → b ≡ symbol_size command → b ≡ 0
    → (out ≡ placed out at (packed_symbols command v)) × (at ≡ at + packed_size (symbol_size command) (length v))
unfolding packed_symbols packed_size pack
symbols_none v command out at b e z =
    let q : symbol_size command ≡ 0 = sym e ∙ z in
    let n : (0 * (length v) + 7) / 8 ≡ 0 = omega arith in
    rw (q, n) (sym (placed_none out at), sym (add-zero at))

-- the commands with data have symbols of 1, 2 or 4 bits
sizes : (command : ℕ) → (symbol_size command ≡ 0 → ⊥) → Size (symbol_size command) × (command < 3)
unfolding symbol_size
sizes command some =
    elim (ℕ_discrete command 0) [
      | yes e ↦ rw e (Size.one, omega arith)
      | no n ↦ elim (ℕ_discrete command 1) [
        | yes e ↦ rw e (Size.two, omega arith)
        | no m ↦ elim (ℕ_discrete command 2) [
          | yes e ↦ rw e (Size.four, omega arith)
          | no l ↦ absurd (some (rw (ne_eqb command 0 n, ne_eqb command 1 m, ne_eqb command 2 l)))
        ]
      ]
    ]

-- symbols that a command with data holds can be packed
pub pack_held : (v : List ℕ) (command : ℕ) (out : List ℕ) (at b : ℕ) → Held v command out at
    → b ≡ symbol_size command → (b ≡ 0 → ⊥) → Packing v b out at
pack_held v command out at b h e some =
    let s = sizes command (λ z. some (e ∙ z)) in
    let codes = held_codes Bits v command s.1 h.holds in
    record {
      holding =
          record {
            size = rw e s.0;
            upto = omega arith;
            within = omega arith;
            codes = λ i from below. rw e (ltb-true _ _ (all_at (λ x. ltb (code_of x) (2 ^ symbol_size command)) v i 0 codes below));
            known = λ i from below. code_small _ (all_at is_symbol v i 0 h.symbols below);
          };
      room = rw e h.room;
    }

pub symbols_put : (v : List ℕ) (command : ℕ) (out out' : List ℕ) (at b : ℕ) → b ≡ symbol_size command
    → out' ≡ placed out at (pack b (packed_size b (length v)) (map code_of v))
    → out' ≡ placed out at (packed_symbols command v)
unfolding packed_symbols
symbols_put v command out out' at b e h = h ∙ rw e

-- ---- a change

-- its length, by its parts
module _ (kind : Kind) (v : List ℕ) (delta : ℕ) (out : List ℕ) (at : ℕ) (s : Sound kind v delta out at) where
  pub sound_room : at + (1 + fewest_bytes delta) + length (data_for kind v) ≤ length out
  sound_room = let e = length_change kind delta v in omega (arith, s.room)

  -- the command byte and the delta leave the buffer as long as it was
  head_kept_lem : (one : List ℕ) (command : ℕ) → one ≡ placed out at (head_of command delta) → length one ≡ length out
  head_kept_lem one command first =
      let long = head_long command delta in
      let room = sound_room in
      rw first (length_placed out at (head_of command delta) (omega arith))

  -- the command byte and the delta, and then the data
  pub change_put : (one two : List ℕ) (command d : ℕ) (bytes : List ℕ) → command ≡ command_for kind v → bytes ≡ data_for kind v
      → one ≡ placed out at (head_of command delta) → d ≡ at + (1 + fewest_bytes delta) → two ≡ placed one d bytes
      → two ≡ placed out at (change_bytes kind delta v)
  unfolding head_of change_bytes
  change_put one two command d bytes ec eb first ed second =
      let long = head_long command delta in
      let room = sound_room in
      let place : d ≡ at + length (head_of command delta) = omega arith in
      let joined : two ≡ placed out at (head_of command delta ++ bytes) =
      second ∙ rw (first, place) (placed_more out at (head_of command delta) bytes (omega arith)) in
      rw (← ec, ← eb) joined

  -- it ends after its data
  pub change_ends : (r k : ℕ) → k ≡ length (data_for kind v) → r ≡ at + (1 + fewest_bytes delta) + k
      → r ≡ at + length (change_bytes kind delta v)
  change_ends r k e h = let l = length_change kind delta v in omega arith

-- ---- a change of bits

module _ (v : List ℕ) (delta : ℕ) (out : List ℕ) (at : ℕ) (s : Sound Bits v delta out at) where
  bits_width_lem : length v ≡ s.width
  bits_width_lem = value_length Bits s.width v refl s.allowed

  pub bits_some : (0 < length v) × (all is_symbol v ≡ true)
  bits_some =
      let e = bits_width_lem in
      (omega (arith, s.wide.0), value_symbols Bits s.width v refl s.allowed)

  pub bits_head : (c : ℕ) → c ≡ command_for Bits v → HeadAsked c delta out at
  bits_head c h =
      let e = h in
      let b = command_bound Bits v in
      record { command_small = omega arith; delta_small = s.delta_small; room = s.spare }

  data_long : (c : ℕ) → c ≡ command_for Bits v → packed_size (symbol_size c) (length v) ≡ length (data_for Bits v)
  unfolding data_for
  data_long c h =
      rw h (sym (length_packed (command_for Bits v) v))

  pub bits_held : (c d : ℕ) (one : List ℕ) → c ≡ command_for Bits v → d ≡ at + (1 + fewest_bytes delta) → one ≡ placed out at (head_of c delta)
      → Held v c one d
  bits_held c d one h e first =
      let l = head_kept_lem Bits v delta out at s one c first in
      let r = sound_room Bits v delta out at s in
      let w = bits_width_lem in
      let k = data_long c h in
      record {
        most = omega (arith, s.wide.1);
        symbols = value_symbols Bits s.width v refl s.allowed;
        holds = rw h (command_holds Bits s.width v refl s.allowed);
        room = omega arith;
      }

  pub bits_put : (c d r : ℕ) (one two : List ℕ) → c ≡ command_for Bits v → one ≡ placed out at (head_of c delta) → d ≡ at + (1 + fewest_bytes delta)
      → two ≡ placed one d (packed_symbols c v) → r ≡ d + packed_size (symbol_size c) (length v)
      → Puts Bits v delta out at two r
  unfolding data_for
  bits_put c d r one two h first e second last =
      record {
        puts = change_put Bits v delta out at s one two c d (packed_symbols c v) h (rw h) first e second;
        ends = change_ends Bits v delta out at s r (packed_size (symbol_size c) (length v)) (data_long c h) (omega arith);
      }

-- ---- a real

module _ (v : List ℕ) (delta : ℕ) (out : List ℕ) (at : ℕ) (s : Sound Real v delta out at) where
  pub real_head : HeadAsked 0 delta out at
  real_head = record { command_small = omega arith; delta_small = s.delta_small; room = s.spare }

  real_long : length v ≡ length (data_for Real v)
  unfolding data_for
  real_long = refl

  pub real_room : (d : ℕ) → d ≡ at + (1 + fewest_bytes delta) → d + length v ≤ length out
  real_room d e =
      let r = sound_room Real v delta out at s in
      let k = real_long in
      omega arith

  pub real_copy : (d : ℕ) (one : List ℕ) → d ≡ at + (1 + fewest_bytes delta) → one ≡ placed out at (head_of 0 delta)
      → d + length v ≤ length one
  real_copy d one e first =
      let l = head_kept_lem Real v delta out at s one 0 first in
      let r = real_room d e in
      omega arith

  pub real_put : (d r : ℕ) (one two : List ℕ) → one ≡ placed out at (head_of 0 delta) → d ≡ at + (1 + fewest_bytes delta) → two ≡ placed one d v
      → r ≡ d + length v → Puts Real v delta out at two r
  unfolding data_for command_for
  real_put d r one two first e second last =
      record {
        puts = change_put Real v delta out at s one two 0 d v refl refl first e second;
        ends = change_ends Real v delta out at s r (length v) real_long (omega arith);
      }

-- ---- a text

module _ (v : List ℕ) (delta : ℕ) (out : List ℕ) (at : ℕ) (s : Sound Text v delta out at) where
  pub text_head : HeadAsked 0 delta out at
  text_head = record { command_small = omega arith; delta_small = s.delta_small; room = s.spare }

  text_long : length v + 1 ≡ length (data_for Text v)
  unfolding data_for
  text_long = sym (length-append v (0 ∷ []))

  pub text_room : (d : ℕ) → d ≡ at + (1 + fewest_bytes delta) → d + length v + 1 ≤ length out
  text_room d e =
      let r = sound_room Text v delta out at s in
      let k = text_long in
      omega arith

  pub text_copy : (d : ℕ) (one : List ℕ) → d ≡ at + (1 + fewest_bytes delta) → one ≡ placed out at (head_of 0 delta)
      → d + length v ≤ length one
  text_copy d one e first =
      let l = head_kept_lem Text v delta out at s one 0 first in let r = text_room d e in omega arith

  pub text_put : (d r : ℕ) (one two three : List ℕ) → one ≡ placed out at (head_of 0 delta) → d ≡ at + (1 + fewest_bytes delta)
      → two ≡ placed one d v → three ≡ placed two (d + length v) (big_endian 1 0)
      → r ≡ d + length v + 1 → Puts Text v delta out at three r
  unfolding data_for command_for
  text_put d r one two three first e second third last =
      let l = head_kept_lem Text v delta out at s one 0 first in
      let room = text_room d e in
      let place : d + length v ≡ d + length v = omega arith in
      let whole : three ≡ placed one d (v ++ (0 ∷ [])) =
      third ∙ rw (second, place, one_byte 0 (omega arith)) (placed_more one d v (0 ∷ []) (omega arith)) in
      record {
        puts = change_put Text v delta out at s one three 0 d (v ++ (0 ∷ [])) refl refl first e whole;
        ends = change_ends Text v delta out at s r (length v + 1) text_long (omega arith);
      }

-- ---- an integer is written as bits are

module _ (v : List ℕ) (delta : ℕ) (out : List ℕ) (at : ℕ) (s : Sound Integer v delta out at) where
  integer_bits : (length v ≡ 32) × (all is_bit v ≡ true)
  unfolding value_allowed
  integer_bits =
      let w : s.width ≡ 32 = s.wide in
      let b = and_both (eqb (length v) s.width) (all is_bit v) s.allowed in
      (eqb-true _ _ b.0 ∙ w, b.1)

  same_change : change_bytes Integer delta v ≡ change_bytes Bits delta v
  unfolding change_bytes data_for
  same_change = let b = integer_bits in rw (integer_command v (omega arith) b.1)

  pub integer_sound : Sound Bits v delta out at
  unfolding value_allowed
  integer_sound =
      let b = integer_bits in
      record {
        size = s.size;
        width = 32;
        wide = (omega arith, omega arith);
        allowed = both_and (eqb (length v) 32) (all is_symbol v) (eq-eqb _ _ b.0) (bits_symbols v b.1);
        room = rw (← same_change) s.room;
        spare = s.spare;
        delta_small = s.delta_small;
      }

  pub integer_put : (two : List ℕ) (r : ℕ) → Puts Bits v delta out at two r → Puts Integer v delta out at two r
  integer_put two r p = record { puts = rw same_change p.puts; ends = rw same_change p.ends }

-- ---- by the kind

-- bits and integers have symbols
pub by_kind_sound : (kind : Kind) (v : List ℕ) (delta : ℕ) (out : List ℕ) (at : ℕ) → (kind ≡ Bits) ⊎ (kind ≡ Integer)
    → Sound kind v delta out at → Sound Bits v delta out at
by_kind_sound kind v delta out at (inl e) s = rw e at s
by_kind_sound kind v delta out at (inr e) s = integer_sound v delta out at (rw e at s)

pub by_kind_put : (kind : Kind) (v : List ℕ) (delta : ℕ) (out : List ℕ) (at : ℕ) → (kind ≡ Bits) ⊎ (kind ≡ Integer)
    → Sound kind v delta out at → (two : List ℕ) (r : ℕ) → Puts Bits v delta out at two r → Puts kind v delta out at two r
by_kind_put kind v delta out at (inl e) s two r p = rw e p
by_kind_put kind v delta out at (inr e) s two r p = rw e (integer_put v delta out at (rw e at s) two r p)
