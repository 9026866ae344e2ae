-- Laws of how many bytes a change takes.
use Rattle.std.specs.Prelude.{Option, Some, None, if◌then◌else◌}
use Rattle.std.proofs.lemmas.Option.{none-some, cond_some}
use mir.Val.{bool_byte}
use Prim.Native.Nat.{ℕ, zero, suc, ◌+◌, ◌*◌, ◌/◌, ◌≤◌, ◌<◌}
use native.Mathlib.Omega.{arith}
use native.Mathlib.Nat.{mul-le-mul}
use mathlib.Core.Path.{◌≡◌, refl, sym, ap, ◌∙◌}
use mathlib.Core.Bool.{Bool, true, false, not, ◌||◌}
use mathlib.Core.List.{List, [], ◌∷◌}
use lib.ListN.{length, get_or, length-append}
use lib.Dec.{ltb, eqb}
use native.Mathlib.Decide.{dec_le}
use borrow.Author.Tests.{lt-ltb, le-ltb, eq-eqb, ne_eqb}
use Rattle.lxt_format.specs.Basics.{all, any}
use Rattle.lxt_format.specs.BasicsLaws.{on_test, both_and, and_both}
use Rattle.lxt_format.specs.Changes.{symbol_size, packed_size}
use Rattle.lxt_format.specs.declared.Kind.{Kind}
use Rattle.lxt_format.specs.declared.Kind.TheVariants.{Bits, Integer, Real, Text}
use Rattle.lxt_written.specs.WrittenChanges.{code_of, command_for, data_for, fewest_bytes, change_bytes}
use Rattle.lxt_written.specs.Writing.{no_zero, is_symbol, is_bit, value_allowed}
use Rattle.lxt_written.specs.CommandLaws.{length_change, length_packed, integer_codes, command_one, command_0, bit_symbol, no_data}
use Rattle.lxt_pack.specs.Symbols.{all_below, same_all}
use Rattle.lxt_pack.proofs.SymbolLaws.{bit_is, symbols_codes, below_more, chosen_same, chosen_0, chosen_1, chosen_2}
use Rattle.lxt_pack.specs.Change.{WidthFor, size_for, change_size, Sizes, Scales}

-- ---- deltas

abbrev Few : ℕ → ℕ → Type 0
Few delta k = (k ≡ fewest_bytes delta) × (1 ≤ k) × (k ≤ 4)

-- one byte, and one more from each power of 256 on
pub few_sum : (delta a b c : ℕ) → a ≡ bool_byte (ltb 255 delta) → b ≡ bool_byte (ltb 65535 delta) → c ≡ bool_byte (ltb 16777215 delta)
    → Few delta (1 + a + b + c)
unfolding fewest_bytes
few_sum delta a b c ea eb ec =
    elim (dec_le delta 255) [
      | yes h ↦
          let x = le-ltb 255 delta h in
          let y = le-ltb 65535 delta (omega arith) in
          let z = le-ltb 16777215 delta (omega arith) in
          rw (ea, eb, ec, x, y, z, lt-ltb delta 256 (omega arith)) (refl, omega arith, omega arith)
      | no h ↦
          let x = lt-ltb 255 delta (omega arith) in
          let not_one = le-ltb delta 256 (omega arith) in
          elim (dec_le delta 65535) [
            | yes k ↦
                let y = le-ltb 65535 delta k in
                let z = le-ltb 16777215 delta (omega arith) in
                rw (ea, eb, ec, x, y, z, not_one, lt-ltb delta 65536 (omega arith)) (refl, omega arith, omega arith)
            | no k ↦
                let y = lt-ltb 65535 delta (omega arith) in
                let not-two = le-ltb delta 65536 (omega arith) in
                elim (dec_le delta 16777215) [
                  | yes l ↦
                      let z = le-ltb 16777215 delta l in
                      rw (ea, eb, ec, x, y, z, not_one, not-two, lt-ltb delta 16777216 (omega arith)) (refl, omega arith, omega arith)
                  | no l ↦
                      let z = lt-ltb 16777215 delta (omega arith) in
                      rw (ea, eb, ec, x, y, z, not_one, not-two, le-ltb delta 16777216 (omega arith)) (refl, omega arith, omega arith)
                ]
          ]
    ]

-- a delta that takes so many bytes is small
module _ (delta : ℕ) where
  pub one_small : fewest_bytes delta ≡ 1 → delta < 256
  unfolding fewest_bytes
  one_small e =
      elim (dec_le 256 delta) [
        | yes h ↦ on_test (ltb delta 65536)
            (λ y. let q : 2 ≡ 1 = rw (le-ltb delta 256 h, y) at e in absurd (omega arith))
            (λ y.
            on_test (ltb delta 16777216)
            (λ z. let q : 3 ≡ 1 = rw (le-ltb delta 256 h, y, z) at e in absurd (omega arith))
            (λ z. let q : 4 ≡ 1 = rw (le-ltb delta 256 h, y, z) at e in absurd (omega arith)))
        | no h ↦ omega arith
      ]

  pub two_small : fewest_bytes delta ≡ 2 → delta < 65536
  unfolding fewest_bytes
  two_small e =
      elim (dec_le 65536 delta) [
        | yes h ↦ on_test (ltb delta 16777216)
            (λ z. let q : 3 ≡ 2 = rw (le-ltb delta 256 (omega arith), le-ltb delta 65536 h, z) at e in absurd (omega arith))
            (λ z. let q : 4 ≡ 2 = rw (le-ltb delta 256 (omega arith), le-ltb delta 65536 h, z) at e in absurd (omega arith))
        | no h ↦ omega arith
      ]

  pub small_most : delta < 16777216 → fewest_bytes delta ≤ 3
  unfolding fewest_bytes
  small_most h =
      on_test (ltb delta 256)
      (λ x. rw x (omega arith))
      (λ x. on_test (ltb delta 65536) (λ y. rw (x, y) (omega arith)) (λ y. rw (x, y, lt-ltb delta 16777216 h) (omega arith)))

-- what brings it to the top
pub scales_1 : (k : ℕ) → k ≡ 1 → Scales k 65536
scales_1 k e = rw e Scales.one

pub scales_2 : (k : ℕ) → k ≡ 2 → Scales k 256
scales_2 k e = rw e Scales.two

pub scales_3 : (k : ℕ) → 1 ≤ k → k ≤ 3 → (k ≡ 1 → ⊥) → (k ≡ 2 → ⊥) → Scales k 1
scales_3 zero a b n m = absurd (omega arith)
scales_3 (suc zero) a b n m = absurd (n refl)
scales_3 (suc (suc zero)) a b n m = absurd (m refl)
scales_3 (suc (suc (suc k))) a b n m = let e : suc (suc (suc k)) ≡ 3 = omega arith in rw e Scales.three

-- then it has 3 bytes
pub scaled_small : (delta k scale : ℕ) → delta < 16777216 → k ≡ fewest_bytes delta → Scales k scale → delta * scale < 16777216
scaled_small delta k scale h e Scales.one = let s = one_small delta (sym e) in omega arith
scaled_small delta k scale h e Scales.two = let s = two_small delta (sym e) in omega arith
scaled_small delta k scale h e Scales.three = omega arith

-- ---- symbols

abbrev Bitsize : ℕ → ℕ → Type 0
Bitsize c b = (b ≡ symbol_size c) × (b ≤ 4)

module _ (c : ℕ) where
  pub bits_0 : c ≡ 0 → Bitsize c 1
  unfolding symbol_size
  bits_0 e = (rw e, omega arith)

  pub bits_1 : c ≡ 1 → Bitsize c 2
  unfolding symbol_size
  bits_1 e = (rw e, omega arith)

  pub bits_2 : c ≡ 2 → Bitsize c 4
  unfolding symbol_size
  bits_2 e = (rw e, omega arith)

  pub bits_3 : (c ≡ 0 → ⊥) → (c ≡ 1 → ⊥) → (c ≡ 2 → ⊥) → Bitsize c 0
  unfolding symbol_size
  bits_3 a b d = (rw (ne_eqb c 0 a, ne_eqb c 1 b, ne_eqb c 2 d), omega arith)

-- the bits of few symbols
pub few_bits : (b width : ℕ) → b ≤ 4 → width ≤ 4096 → b * width ≤ 16384
few_bits b width h k = mul-le-mul h k

pub packed_is : (b width : ℕ) → b ≤ 4 → width ≤ 4096 → ((b * width + 7) / 8 ≡ packed_size b width) × ((b * width + 7) / 8 ≤ 2048)
unfolding packed_size
packed_is b width h k = let m = few_bits b width h k in (refl, omega arith)

pub packed_by : (b c width r : ℕ) → b ≡ symbol_size c → r ≡ packed_size b width → r ≡ packed_size (symbol_size c) width
packed_by b c width r e h = rw (← e) h

-- ---- the command of an integer

-- bits are the symbols 0 and 1
bits_below : (l : List ℕ) → all is_bit l ≡ all_below 2 l
unfolding all all_below is_bit any
bits_below [] = refl
bits_below (x ∷ l) = rw (flat (eqb x 0x30) (eqb x 0x31) ∙ bit_is x, bits_below l)
  where
    flat : (a b : Bool) → (a || (b || false)) ≡ (a || b)
    flat true b = refl
    flat false true = refl
    flat false false = refl

pub bits_symbols : (l : List ℕ) → all is_bit l ≡ true → all is_symbol l ≡ true
unfolding all
bits_symbols [] h = refl
bits_symbols (x ∷ l) h =
    let b = and_both (is_bit x) (all is_bit l) h in both_and (is_symbol x) (all is_symbol l) (bit_symbol x b.0) (bits_symbols l b.1)

module _ (value : List ℕ) (some : 1 ≤ length value) where
  as_bits : (symbols : all is_symbol value ≡ true) → value_allowed Bits (length value) value ≡ true
  unfolding value_allowed
  as_bits h = both_and (eqb (length value) (length value)) (all is_symbol value) (eq-eqb (length value) (length value) refl) h

  as_integer : all is_bit value ≡ true → value_allowed Integer (length value) value ≡ true
  unfolding value_allowed
  as_integer h = both_and (eqb (length value) (length value)) (all is_bit value) (eq-eqb (length value) (length value) refl) h

  -- it is that of bits
  pub integer_command : all is_bit value ≡ true → command_for Integer value ≡ command_for Bits value
  integer_command h =
      let i = as_integer h in
      let b = as_bits (bits_symbols value h) in
      let codes = integer_codes (length value) value i in
      on_test (all (λ x. eqb x (get_or value 0 0)) value)
      (λ e. command_one Integer (length value) value refl i (get_or value 0 0) some e ∙ sym (command_one Bits (length value) value refl b (get_or value 0 0) some e))
      (λ e. command_0 Integer (length value) value refl i e codes ∙ sym (command_0 Bits (length value) value refl b e codes))

-- ---- values

byte_small : (b : Bool) (x : ℕ) → x ≡ bool_byte b → x ≤ 1
byte_small true x e = omega arith
byte_small false x e = omega arith

pub each_most : (a b c : Bool) (x y z : ℕ) → x ≡ bool_byte a → y ≡ bool_byte b → z ≡ bool_byte c → (1 + x + 2 * y) * z ≤ 4
each_most a b c x y z ex ey ez =
    let sum : 1 + x + 2 * y ≤ 4 = omega (arith, byte_small a x ex, byte_small b y ey) in mul-le-mul sum (byte_small c z ez)

-- the bits of a symbol, by what is seen of all: all are one, all are 0 or 1, all are 0 1 Z X
unfoldable bits_each : Bool → Bool → Bool → ℕ
bits_each same bits four = if same then 0 else (if bits then 1 else (if four then 2 else 4))

each_of_two : (same four : Bool) (x : ℕ) → x ≡ bool_byte (not same) → x ≡ bits_each same true four
unfolding bits_each
each_of_two true four x e = e
each_of_two false four x e = e

-- counted without a branch
each_sum : (same bits four : Bool) → (bits ≡ true → four ≡ true) → (x y z : ℕ) → x ≡ bool_byte (not bits) → y ≡ bool_byte (not four)
    → z ≡ bool_byte (not same) → (1 + x + 2 * y) * z ≡ bits_each same bits four
unfolding bits_each
each_sum true bits four h x y z ex ey ez = rw (ez) (omega arith)
each_sum false true four h x y z ex ey ez = rw (ex, ey, ez, h refl)
each_sum false false true h x y z ex ey ez = rw (ex, ey, ez)
each_sum false false false h x y z ex ey ez = rw (ex, ey, ez)

-- a value that is allowed has the bytes of its data, one that is not has none
size_given : (kind : Kind) (width : ℕ) (value : List ℕ) → value_allowed kind width value ≡ true → size_for kind width value ≡ Some (length (data_for kind value))
unfolding size_for
size_given kind width value e = rw e

size_refused : (kind : Kind) (width : ℕ) (value : List ℕ) → value_allowed kind width value ≡ false → size_for kind width value ≡ None
unfolding size_for
size_refused kind width value e = rw e

-- a value of one byte
single : (v : List ℕ) → length v ≡ 1 → v ≡ get_or v 0 0 ∷ []
single [] h = absurd (omega arith)
single (x ∷ []) h = refl
single (x ∷ y ∷ v) h = absurd (omega arith)

module _ (v : List ℕ) where
  -- ---- bits

  pub bits_long : (width : ℕ) → (length v ≡ width → ⊥) → None ≡ size_for Bits width v
  unfolding value_allowed
  bits_long width n =
      sym (size_refused Bits width v (rw (ne_eqb (length v) width n)))

  module _ (width : ℕ) (e : length v ≡ width) where
    -- where a byte is no symbol
    pub bits_none : all_below 9 v ≡ false → None ≡ size_for Bits width v
    unfolding value_allowed
    bits_none n = sym (size_refused Bits width v (rw (eq-eqb (length v) width e, symbols_codes v ∙ n)))

    -- symbols under their command
    bits_given : all_below 9 v ≡ true → (c : ℕ) → command_for Bits v ≡ c
        → Some (packed_size (symbol_size c) (length v)) ≡ size_for Bits width v
    unfolding value_allowed data_for
    bits_given nine c q =
        let value : List ℕ = v in
        let allowed : value_allowed Bits width value ≡ true = rw (eq-eqb (length v) width e, symbols_codes value ∙ nine) in
        sym (size_given Bits width value allowed ∙ ap Some (length_packed (command_for Bits value) value ∙ rw q))

    module _ (nine : all_below 9 v ≡ true) where
      -- all are one
      bits_same : same_all v ≡ true → 1 ≤ width → Some (packed_size 0 (length v)) ≡ size_for Bits width v
      bits_same s n =
          let value : List ℕ = v in
          let some : 1 ≤ length value = omega arith in
          let command : ℕ = 3 + code_of (get_or value 0 0) in
          rw (no_data command (omega arith)) at (bits_given nine command (chosen_same value nine s some))

      module _ (mixed : same_all v ≡ false) where
        bits_two : all_below 2 v ≡ true → Some (packed_size 1 (length v)) ≡ size_for Bits width v
        unfolding symbol_size
        bits_two h = bits_given nine 0 (chosen_0 v nine mixed h)

        module _ (more : all_below 2 v ≡ false) where
          bits_four : all_below 4 v ≡ true → Some (packed_size 2 (length v)) ≡ size_for Bits width v
          unfolding symbol_size
          bits_four h = bits_given nine 1 (chosen_1 v nine mixed more h)

          bits_nine : all_below 4 v ≡ false → Some (packed_size 4 (length v)) ≡ size_for Bits width v
          unfolding symbol_size
          bits_nine h = bits_given nine 2 (chosen_2 v nine mixed more h)

      -- by what is seen
      bits_each_lem : 1 ≤ width
          → Some (packed_size (bits_each (same_all v) (all_below 2 v) (all_below 4 v)) (length v))
          ≡ size_for Bits width v
      unfolding bits_each
      bits_each_lem n =
          let value : List ℕ = v in
          on_test (same_all value)
          (λ s. rw s (bits_same s n))
          (λ s.
          on_test (all_below 2 value)
          (λ t. rw (s, t) (bits_two s t))
          (λ t. on_test (all_below 4 value) (λ f. rw (s, t, f) (bits_four s t f)) (λ f. rw (s, t, f) (bits_nine s t f))))

    -- one symbol
    pub bits_one : length v ≡ 1 → (r : Option ℕ) → r ≡ (if ltb (code_of (get_or v 0 0)) 9 then Some 0 else None) → r ≡ size_for Bits width v
    unfolding same_all all_below all packed_size
    bits_one one r er =
        let first : ℕ = get_or v 0 0 in
        let is : v ≡ first ∷ [] = single v one in
        on_test (ltb (code_of first) 9)
        (λ y.
        let nine : all_below 9 v ≡ true = rw (is, y) in
        let same : same_all v ≡ true = rw (is, eq-eqb first first refl) in
        let none : 0 ≡ (0 * (length v) + 7) / 8 = omega arith in
        er ∙ rw y (ap Some none ∙ bits_same nine same (omega arith)))
        (λ y.
        let no_symbol : all_below 9 v ≡ false = rw (is, y) in
        er ∙ rw y (bits_none no_symbol))

    -- bits, of which it is seen whether all are one
    pub bits_of_two : 1 ≤ width → (same bits : Bool) → same ≡ same_all v → bits ≡ all_below 2 v → bits ≡ true
        → (x r : ℕ) → x ≡ bool_byte (not same) → r ≡ packed_size x (length v) → Some r ≡ size_for Bits width v
    bits_of_two n same bits es eb h x r ex er =
        let value : List ℕ = v in
        let two = sym eb ∙ h in
        let x-is = each_of_two same (all_below 4 value) x ex in
        let b : x ≡ bits_each (same_all value) (all_below 2 value) (all_below 4 value) = rw (← es, two) x-is in
        ap Some er ∙ ap (λ k. Some (packed_size k (length v))) b ∙ bits_each_lem (below_more 2 9 (omega arith) value two) n

    -- symbols, of which all is seen
    pub bits_seen : 1 ≤ width → (same bits four nine : Bool) → same ≡ same_all v → bits ≡ all_below 2 v
        → four ≡ all_below 4 v → nine ≡ all_below 9 v → nine ≡ true
        → (x y z r : ℕ) → x ≡ bool_byte (not bits) → y ≡ bool_byte (not four) → z ≡ bool_byte (not same)
        → r ≡ packed_size ((1 + x + 2 * y) * z) (length v) → Some r ≡ size_for Bits width v
    bits_seen n same bits four nine es eb ef en h x y z r ex ey ez er =
        let value : List ℕ = v in
        let more : bits ≡ true → four ≡ true = λ t. ef ∙ below_more 2 4 (omega arith) value (sym eb ∙ t) in
        let sum = each_sum same bits four more x y z ex ey ez in
        let b : (1 + x + 2 * y) * z ≡ bits_each (same_all value) (all_below 2 value) (all_below 4 value) = rw (← es, ← eb, ← ef) sum in
        ap Some er ∙ ap (λ k. Some (packed_size k (length v))) b ∙ bits_each_lem (sym en ∙ h) n

  -- ---- integers

  pub integer_long : (length v ≡ 32 → ⊥) → None ≡ size_for Integer 32 v
  unfolding value_allowed
  integer_long n = sym (size_refused Integer 32 v (rw (ne_eqb (length v) 32 n)))

  module _ (e : length v ≡ 32) where
    some : 1 ≤ length v
    some = omega arith

    -- bits under their command
    integer_size : all is_bit v ≡ true → (c : ℕ) → command_for Integer v ≡ c → Some (packed_size (symbol_size c) 32) ≡ size_for Integer 32 v
    unfolding value_allowed data_for
    integer_size bits c q =
        let value : List ℕ = v in
        let allowed : value_allowed Integer 32 value ≡ true = rw (eq-eqb (length v) 32 e, bits) in
        sym (size_given Integer 32 value allowed ∙ ap Some (length_packed (command_for Integer value) value ∙ rw (q, e)))

    pub integer_none : all_below 2 v ≡ false → None ≡ size_for Integer 32 v
    unfolding value_allowed
    integer_none n =
        let value : List ℕ = v in
        sym (size_refused Integer 32 value (rw (eq-eqb (length v) 32 e, bits_below value ∙ n)))

    module _ (bits : all_below 2 v ≡ true) where
      are_bits : all is_bit v ≡ true
      are_bits = bits_below v ∙ bits

      pub integer_same : same_all v ≡ true → Some 0 ≡ size_for Integer 32 v
      unfolding same_all packed_size
      integer_same s =
          let value : List ℕ = v in
          let c = command_one Integer (length value) value refl (as_integer value some are_bits) (get_or value 0 0) some s in
          rw (no_data (3 + code_of (get_or value 0 0)) (omega arith)) at (integer_size are_bits (3 + code_of (get_or value 0 0)) c)

      pub integer_mixed : same_all v ≡ false → Some 4 ≡ size_for Integer 32 v
      unfolding same_all symbol_size packed_size
      integer_mixed s =
          let value : List ℕ = v in
          let i = as_integer value some are_bits in
          integer_size are_bits 0 (command_0 Integer (length value) value refl i s (integer_codes (length value) value i))

  -- ---- reals

  pub real_given : length v ≡ 8 → Some 8 ≡ size_for Real 0 v
  unfolding value_allowed data_for
  real_given e = sym (size_given Real 0 v (rw (eq-eqb (length v) 8 e)) ∙ ap Some e)

  pub real_none : (length v ≡ 8 → ⊥) → None ≡ size_for Real 0 v
  unfolding value_allowed
  real_none n = sym (size_refused Real 0 v (rw (ne_eqb (length v) 8 n)))

  -- ---- texts

  pub text_given : no_zero v ≡ true → Some (length v + 1) ≡ size_for Text 0 v
  unfolding value_allowed data_for
  text_given e =
      sym (size_given Text 0 v e ∙ ap Some (length-append v (0 ∷ [])))

  pub text_none : no_zero v ≡ false → None ≡ size_for Text 0 v
  unfolding value_allowed
  text_none e = sym (size_refused Text 0 v e)

-- ---- by the kind

pub width_bits : (kind : Kind) (width : ℕ) → kind ≡ Bits → WidthFor kind width → (1 ≤ width) × (width ≤ 4096)
width_bits kind width e h = rw e at h

pub width_integer : (kind : Kind) (width : ℕ) → kind ≡ Integer → WidthFor kind width → width ≡ 32
width_integer kind width e h = rw e at h

pub width_real : (kind : Kind) (width : ℕ) → kind ≡ Real → WidthFor kind width → width ≡ 0
width_real kind width e h = rw e at h

pub width_text : (kind : Kind) (width : ℕ) → kind ≡ Text → WidthFor kind width → width ≡ 0
width_text kind width e h = rw e at h

pub sizes_of_lem : (kind k : Kind) (width w : ℕ) (value : List ℕ) (r : Option ℕ) → kind ≡ k → width ≡ w → Sizes k w value r → Sizes kind width value r
sizes_of_lem kind k width w value r e h s = rw (e, h) s

-- ---- a change

module _ (kind : Kind) (width delta : ℕ) (value : List ℕ) where
  -- none, where its value is not allowed
  pub change_refused : None ≡ size_for kind width value → None ≡ change_size kind width delta value
  unfolding size_for change_size
  change_refused e = on_test (value_allowed kind width value) (λ y. absurd (none-some (length (data_for kind value)) (e ∙ rw y))) (λ y. rw y)

  -- its command byte and its delta, and then its data
  pub change_given : (n k : ℕ) → Some n ≡ size_for kind width value → k ≡ fewest_bytes delta → Some (1 + k + n) ≡ change_size kind width delta value
  unfolding size_for change_size
  change_given n k e f =
      let given = cond_some (value_allowed kind width value) (length (data_for kind value)) n (sym e) in
      let sum : 1 + k + n ≡ length (change_bytes kind delta value) = omega (arith, length_change kind delta value, given.1, f) in
      rw given.0 (ap Some sum)
