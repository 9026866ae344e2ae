-- What is read of the written data of symbols.
use Prim.Native.Nat.{ℕ, zero, suc, ◌+◌, ◌*◌, ◌-◌, ◌≤◌, ◌<◌, ◌/◌, ◌%◌, ◌^◌}
use mathlib.Core.Path.{◌≡◌, refl, sym, ap, ◌∙◌}
use mathlib.Core.Bool.{true}
use mathlib.Core.List.{List, [], ◌∷◌, map}
use lib.ListN.{length, get_or, replicate, length-map}
use lib.Seq.{slice, slice_empty, take-nil}
use lib.Dec.{ltb, leb, eqb}
use lib.Pow.{pow_pos}
use native.Mathlib.Omega.{arith}
use native.Mathlib.Decide.{dec_le}
use native.Mathlib.Nat.{mod-one}
use borrow.Author.Tests.{le-leb, ne_eqb, eqb-true}
use Rattle.lxt_format.specs.Basics.{all, joined}
use Rattle.lxt_format.specs.BasicsLaws.{and_both, both_and, on_zero}
use Rattle.lxt_format.specs.Bytes.{byte_at}
use Rattle.lxt_format.specs.Changes.{command_of, data_at, symbol_size, packed_size, unpack, codes_at, codes_allowed, unused_bits, padding_clean}
use Rattle.lxt_format.specs.Values.{symbol_of, symbols_at}
use Rattle.lxt_format.specs.declared.Kind.{Kind}
use Rattle.lxt_written.specs.WrittenChanges.{code_of, command_for, pack, packed_symbols}
use Rattle.lxt_written.specs.Writing.{is_symbol, value_allowed}
use Rattle.lxt_written.specs.Stands.{Stands, stands_slice}
use Rattle.lxt_written.specs.CommandLaws.{code_small, symbol_of_code, codes_below, length_pack, length_packed, no_data, has_symbols, value_symbols, command_holds, held_one, held_codes}
use Rattle.lxt_round_trip.proofs.PackLaws.{Fits, fits_1, fits_2, fits_4, unpack_pack, last_byte_clean}

-- ---- symbols and codes

-- the symbols of the codes are the symbols
symbols_back : (value : List ℕ) → all is_symbol value ≡ true → map symbol_of (map code_of value) ≡ value
unfolding all
symbols_back [] h = refl
symbols_back (x ∷ l) h =
    let both = and_both (is_symbol x) (all is_symbol l) h in
    rw (symbol_of_code x both.0, symbols_back l both.1)

-- the codes are of the nine
codes_nine : (value : List ℕ) → all is_symbol value ≡ true → all (λ code. leb code 8) (map code_of value) ≡ true
unfolding all
codes_nine [] h = refl
codes_nine (x ∷ l) h =
    let both = and_both (is_symbol x) (all is_symbol l) h in
    let small = code_small x both.0 in
    both_and (leb (code_of x) 8) (all (λ code. leb code 8) (map code_of l)) (le-leb (code_of x) 8 (omega arith)) (codes_nine l both.1)

-- where all are one, they are that one so many times
all_one : (x : ℕ) (value : List ℕ) → all (λ y. eqb y x) value ≡ true → replicate (length value) x ≡ value
unfolding all
all_one x [] h = refl
all_one x (y ∷ l) h =
    let both = and_both (eqb y x) (all (λ z. eqb z x) l) h in
    rw (eqb-true y x both.0, all_one x l both.1)

-- ---- data

-- the padding of no data is clean
padding_none : (s : List ℕ) (b width o : ℕ) → b * width ≡ 0 → padding_clean s b width o ≡ true
unfolding padding_clean unused_bits packed_size
padding_none s b width o h =
    let e : 8 * ((b * width + 7) / 8) - b * width ≡ 0 = omega arith in
    rw (e, mod-one (byte_at s (o + (b * width + 7) / 8 - 1)))

-- symbols packed by b bits, whose data stands at o
module _ (s : List ℕ) (o b : ℕ) (fits : Fits b) (value : List ℕ) (below : all (λ x. ltb (code_of x) (2 ^ b)) value ≡ true)
    (there : Stands s o (pack b (packed_size b (length value)) (map code_of value))) where
  -- their codes are read as they were
  codes_read : codes_at s b (length value) o ≡ map code_of value
  unfolding codes_at
  codes_read =
      let codes : List ℕ = map code_of value in
      let n : ℕ = packed_size b (length value) in
      let whole : slice o (o + n) s ≡ pack b n codes = rw (length_pack b n codes) at (stands_slice s o (pack b n codes) there) in
      rw whole (rw (length-map value code_of) at (unpack_pack b fits codes (codes_below (2 ^ b) (pow_pos b) value below)))

  -- so are the symbols
  symbols_read : all is_symbol value ≡ true → map symbol_of (codes_at s b (length value) o) ≡ value
  symbols_read nine = rw codes_read (symbols_back value nine)

  -- the codes are allowed
  codes_allowed_lem : all is_symbol value ≡ true → codes_allowed s b (length value) o ≡ true
  unfolding codes_allowed
  codes_allowed_lem nine = rw codes_read (codes_nine value nine)

  -- some symbols leave the unused bits of the last byte 0
  some_padding : 1 ≤ length value → padding_clean s b (length value) o ≡ true
  unfolding padding_clean
  some_padding h =
      let codes : List ℕ = map code_of value in
      let n : ℕ = packed_size b (length value) in
      let some = fits.some_byte (length value) h in
      let long = length_pack b n codes in
      let e : o + (n - 1) ≡ o + n - 1 = omega arith in
      let byte : byte_at s (o + n - 1) ≡ get_or (pack b n codes) (n - 1) 0 = sym (ap (λ p. byte_at s p) e) ∙ there.same (n - 1) (omega arith) in
      let same = length-map value code_of in
      let clean : get_or (pack b n codes) (n - 1) 0 % 2 ^ unused_bits b (length value) ≡ 0 = rw same at (last_byte_clean b fits codes (omega arith)) in
      rw (byte, clean)

  -- the padding is clean
  padding_clean_lem : padding_clean s b (length value) o ≡ true
  padding_clean_lem = on_zero (length value) (λ e. padding_none s b (length value) o (rw e (omega arith))) some_padding

-- no data has no codes
codes_none : (s : List ℕ) (width o : ℕ) → codes_allowed s 0 width o ≡ true
unfolding codes_allowed codes_at unpack all packed_size joined
codes_none s width o =
    let e : o + (0 * width + 7) / 8 ≡ o = omega arith in
    rw (e, slice_empty o s, take-nil {A = ℕ} width)

-- ---- by the command

-- a command below 3 packs symbols of 1, 2 or 4 bits
fits_command : (c : ℕ) → c < 3 → Fits (symbol_size c)
unfolding symbol_size
fits_command zero l = fits_1
fits_command (suc zero) l = fits_2
fits_command (suc (suc zero)) l = fits_4
fits_command (suc (suc (suc c))) l = absurd (omega arith)

-- what is read of symbols at o
pub record SymbolsRead (s : List ℕ) (o : ℕ) (size : ℕ) (value : List ℕ) : Type 0 where
  pub long : packed_size (symbol_size (command_of s o)) (length value) ≡ size
  pub allowed : codes_allowed s (symbol_size (command_of s o)) (length value) (data_at s o) ≡ true
  pub clean : padding_clean s (symbol_size (command_of s o)) (length value) (data_at s o) ≡ true
  pub read : symbols_at s (length value) o ≡ value

module _ (s : List ℕ) (o c : ℕ) (value : List ℕ) (command : command_of s o ≡ c) (there : Stands s (data_at s o) (packed_symbols c value))
    (nine : all is_symbol value ≡ true) where
  -- under a command with data
  with_data : c < 3 → all (λ x. ltb (code_of x) (2 ^ symbol_size c)) value ≡ true → SymbolsRead s o (length (packed_symbols c value)) value
  unfolding packed_symbols symbols_at
  with_data l below =
      let fits = fits_command c l in
      let some : symbol_size c ≡ 0 → ⊥ = λ e. let w : symbol_size c * (8 / symbol_size c) ≡ 8 = fits.whole in let q : 0 * (8 / 0) ≡ 8 = rw e at w in omega arith in
      record {
        long = rw command (sym (length_packed c value));
        allowed = rw command (codes_allowed_lem s (data_at s o) (symbol_size c) fits value below there nine);
        clean = rw command (padding_clean_lem s (data_at s o) (symbol_size c) fits value below there);
        read = rw command (simp (ne_eqb (symbol_size c) 0 some) (symbols_read s (data_at s o) (symbol_size c) fits value below there nine));
      }

  -- under one without
  without_data : 3 ≤ c → all (λ x. eqb x (symbol_of (c - 3))) value ≡ true → SymbolsRead s o (length (packed_symbols c value)) value
  unfolding symbols_at
  without_data l h =
      let none = no_data c l in
      record {
        long = rw command (sym (length_packed c value));
        allowed = rw (command, none) (codes_none s (length value) (data_at s o));
        clean = rw (command, none) (padding_none s 0 (length value) (data_at s o) (omega arith));
        read = rw (command, none) (all_one (symbol_of (c - 3)) value h);
      }

-- the written command's, where the kind has symbols
pub command_read : (kind : Kind) (width : ℕ) (value : List ℕ) → has_symbols kind ≡ true → value_allowed kind width value ≡ true
    → (s : List ℕ) (o : ℕ) → command_of s o ≡ command_for kind value → Stands s (data_at s o) (packed_symbols (command_for kind value) value)
    → SymbolsRead s o (length (packed_symbols (command_for kind value) value)) value
command_read kind width value k v s o e there =
    let c : ℕ = command_for kind value in
    let held = command_holds kind width value k v in
    let nine = value_symbols kind width value k v in
    elim (dec_le 3 c) [
      | yes l ↦ without_data s o c value e there nine l (held_one kind value c l held)
      | no n ↦ (let l : c < 3 = omega arith in with_data s o c value e there nine l (held_codes kind value c l held))
    ]
