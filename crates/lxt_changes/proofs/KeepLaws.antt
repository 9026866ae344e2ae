-- A law for each way out of the functions that tell whether a change keeps the rules.
use Prim.Native.Nat.{ℕ, suc, ◌+◌, ◌-◌, ◌*◌, ◌/◌, ◌%◌, ◌≤◌, ◌<◌}
use mathlib.Core.Path.{◌≡◌, refl, sym, ◌∙◌, ap}
use mathlib.Core.Logic.{◌⊎◌, inl, inr}
use mathlib.Core.Bool.{Bool, true, false, ◌&&◌, ◌||◌, and_assoc, and-true, false≢true}
use mathlib.Core.List.{List}
use lib.ListN.{length}
use lib.Seq.{slice}
use lib.Dec.{ltb, leb, eqb, lit<, lit≤}
use native.Mathlib.Omega.{arith}
use native.Mathlib.Nat.{mod-one}
use borrow.Author.Tests.{le-leb, lt-leb, lt-ltb, le-ltb, leb-true, ltb-true, eqb-true, eq-eqb}
use Rattle.lxt_format.specs.Limits.{widest_facility}
use Rattle.lxt_format.specs.BasicsLaws.{on_test, and_both, both_and, or_either, range_upto, range_done}
use Rattle.lxt_format.specs.Bytes.{byte_at, to_zero}
use Rattle.lxt_format.specs.Changes.{signal, command_of, data_at, command_allowed, symbol_size, packed_size, codes_allowed, unused_bits, padding_clean, previous_allowed, data_size, data_allowed, change_end, fault_at, clean_at}
use Rattle.lxt_format.proofs.ChangesLaws.{sound}
use Rattle.lxt_format.specs.declared.Kind.{Kind}
use Rattle.lxt_format.specs.declared.Kind.TheVariants.{Bits, Integer, Real, Text}
use Rattle.lxt_format.specs.Basics.{all}
use Rattle.lxt_changes.specs.Windows.{good_byte, all_good, Data}
use Rattle.lxt_changes.specs.Faults.{symbolic}
use Rattle.lxt_changes.specs.Keeping.{head_kept, symbols_kept, SymbolsKept, Keeps, Wide, kept_with}
use Rattle.lxt_changes.specs.declared.keep.Kept.{Kept}
use Rattle.std.specs.Prelude.{Option, Some, None}
use Rattle.lxt_changes.proofs.CodeLaws.{codes_none, codes_small, codes_even, codes_odd}
use Rattle.lxt_changes.proofs.PaddingLaws.{padding_none}
use Rattle.lxt_changes.proofs.EndLaws.{before_bound}
use Rattle.lxt_changes.proofs.FaultLaws.{symbol_cases}
use Rattle.lxt_changes.proofs.Narrower.{no_fault}

-- ---- all rules but those of the data

module _ (s : List ℕ) (C T : ℕ) (kind : Kind) (o : ℕ) where
  pub head_late : T ≤ o → false ≡ head_kept s C T kind o
  unfolding head_kept
  head_late h = rw (le-ltb o T h)

  module _ (early : o < T) (at : ℕ) (ea : at ≡ data_at s o) where
    pub head_long : T < at → false ≡ head_kept s C T kind o
    unfolding head_kept
    head_long h = rw (lt-ltb o T early, ← ea, lt-leb at T h)

    pub head_is : at ≤ T → (y z : Bool) → y ≡ (ltb (byte_at s o) 0x40 && command_allowed kind (byte_at s o % 16)) → z ≡ previous_allowed s C o
        → (leb C o && y && z) ≡ head_kept s C T kind o
    unfolding head_kept command_of
    head_is h y z ey ez = rw (and_assoc, lt-ltb o T early, ← ea, le-leb at T h, ey, ez)

  -- what they say
  pub head_start : head_kept s C T kind o ≡ true → o < T
  unfolding head_kept
  head_start h = ltb-true _ _ (and_both (ltb o T) _ h).0

-- ---- good bytes

-- what is left tells of the whole
pub record AllGood (s : List ℕ) (from to p : ℕ) (all-so-far : Bool) : Type 0 where
  pub upto : p ≤ to
  pub same : (all-so-far && all_good s p to) ≡ all_good s from to

module _ (s : List ℕ) (from to : ℕ) where
  pub good_begun : from ≤ to → AllGood s from to from true
  good_begun h = record { upto = h; same = refl }

  module _ (p : ℕ) (b : Bool) (w : AllGood s from to p b) where
    pub good_next : p < to → (z : Bool) → z ≡ good_byte (byte_at s p) → AllGood s from to (p + 1) (b && z)
    unfolding all_good all
    good_next h z ez =
        let e : p + 1 ≡ suc p = omega arith in
        record { upto = omega arith; same = rw (e, ez) (and_assoc b (good_byte (byte_at s p)) _ ∙ (rw (range_upto p to h) at w.same)) }

    pub good_ended : to ≤ p → b ≡ all_good s from to
    unfolding all_good all
    good_ended h = sym (and-true b) ∙ (rw (range_done p to h) at w.same)

-- ---- symbols

pub symbols_upto : (s : List ℕ) (width o at b size : ℕ) → at ≡ data_at s o → b ≡ symbol_size (byte_at s o % 16) → size ≡ packed_size b width
    → at + size ≡ data_at s o + packed_size (symbol_size (command_of s o)) width
unfolding command_of
symbols_upto s width o at b size ea eb es = rw (ea, es, eb)

module _ (s : List ℕ) (T width o : ℕ) where
  module _ (to : ℕ) (et : to ≡ data_at s o + packed_size (symbol_size (command_of s o)) width) where
    pub fit_is : leb to T ≡ leb (data_at s o + packed_size (symbol_size (command_of s o)) width) T
    fit_is = rw et

    pub symbols_far : T < to → SymbolsKept s T width o None
    unfolding symbols_kept
    symbols_far h = let f : leb (data_at s o + packed_size (symbol_size (command_of s o)) width) T ≡ false = rw (← et) (lt-leb to T h) in rw f

    module _ (h : to ≤ T) (b at : ℕ) (eb : b ≡ symbol_size (byte_at s o % 16)) (ea : at ≡ data_at s o) where
      inside : data_at s o + packed_size (symbol_size (command_of s o)) width ≤ T
      inside = rw et at h

      pub data_inside : T ≤ length s → at + packed_size b width ≤ length s
      unfolding command_of
      data_inside l = let i = inside in let e : at + packed_size b width ≡ data_at s o + packed_size (symbol_size (byte_at s o % 16)) width = rw (ea, eb) in omega arith

      pub data_here : 1 ≤ width → width ≤ widest_facility → T ≤ length s → Data s b width at
      data_here least most l = record { symbols = rw eb (symbol_cases (byte_at s o % 16)); least = least; most = most; inside = data_inside l }

      module _ (k : Bool) (ek : k ≡ codes_allowed s b width at) where
        told : k ≡ symbols_kept s T width o
        unfolding symbols_kept command_of
        told = ek ∙ rw (← et, le-leb to T h, eb, ea)

        pub symbols_wrong : k ≡ false → SymbolsKept s T width o None
        symbols_wrong q = let f : symbols_kept s T width o ≡ false = sym told ∙ q in rw f

        pub symbols_told : k ≡ true → (p : Bool) → p ≡ padding_clean s b width at → SymbolsKept s T width o (Some (record { clean = p; end = to }))
        unfolding command_of
        symbols_told q p ep =
            let f : symbols_kept s T width o ≡ true = sym told ∙ q in
            let e : p ≡ padding_clean s (symbol_size (byte_at s o % 16)) width (data_at s o) = ep ∙ rw (eb, ea) in
            rw (f, e, et)

-- ---- codes

module _ (s : List ℕ) (b width o : ℕ) (d : Data s b width o) where
  pub codes_few : (b ≡ 4 → ⊥) → true ≡ codes_allowed s b width o
  codes_few n = sym (few d.symbols)
    where
      few : ((b ≡ 0) ⊎ (b ≡ 1)) ⊎ ((b ≡ 2) ⊎ (b ≡ 4)) → codes_allowed s b width o ≡ true
      few (inl (inl e)) = rw e (codes_none s width o)
      few (inl (inr e)) = rw e (codes_small s 1 width o (lit< tt) (lit≤ tt))
      few (inr (inl e)) = rw e (codes_small s 2 width o (lit< tt) (lit≤ tt))
      few (inr (inr e)) = absurd (n e)

  module _ (four : b ≡ 4) where
    inside_4 : o + packed_size 4 width ≤ length s
    inside_4 = rw four at d.inside

    -- where the last code lies
    pub last_code : (o + width / 2 ≤ length s) × ((width % 2 ≡ 0 → ⊥) → o + width / 2 < length s)
    unfolding packed_size
    last_code = let i = inside_4 in (omega arith, λ n. omega arith)

    module _ (z : Bool) (ez : z ≡ all_good s o (o + width / 2)) where
      pub codes_pairs : width % 2 ≡ 0 → z ≡ codes_allowed s b width o
      codes_pairs e = ez ∙ rw four (sym (codes_even s width o inside_4 e))

      pub codes_half : (width % 2 ≡ 0 → ⊥) → (z && leb (byte_at s (o + width / 2) / 16 % 16) 8) ≡ codes_allowed s b width o
      codes_half n = rw (ez, four) (sym (codes_odd s width o inside_4 n))

-- ---- a change of any kind

module _ (s : List ℕ) (C T : ℕ) (kind : Kind) (width o : ℕ) where
  -- it keeps the rules exactly where those of its head and of its data are kept
  keeps_by : (body : Bool) → body ≡ (leb (change_end s (signal C T kind width) o) T && data_allowed s (signal C T kind width) o) → head_kept s C T kind o ≡ true
      → body ≡ eqb (fault_at s (signal C T kind width) o) 0
  unfolding head_kept
  keeps_by body e head =
      let a = and_both (ltb o T) _ head in
      let b = and_both (leb (data_at s o) T) _ a.1 in
      let c = and_both (leb C o) _ b.1 in
      let d = and_both (ltb (byte_at s o) 0x40 && command_allowed kind (command_of s o)) (previous_allowed s C o) c.1 in
      let k = and_both (ltb (byte_at s o) 0x40) (command_allowed kind (command_of s o)) d.0 in
      on_test body
      (λ t.
      let q = and_both (leb (change_end s (signal C T kind width) o) T) (data_allowed s (signal C T kind width) o) (sym e ∙ t) in
      t ∙ sym
      (eq-eqb _ 0
      (no_fault s (signal C T kind width) o
      (record {
        starts = leb-true _ _ c.0;
        before = ltb-true _ _ a.0;
        top = ltb-true _ _ k.0;
        command = k.1;
        ends = leb-true _ _ q.0;
        data' = q.1;
        previous = d.1;
      }))))
      (λ f.
      f ∙ sym
      (on_test (eqb (fault_at s (signal C T kind width) o) 0)
      (λ z.
      let w = sound s (signal C T kind width) o (eqb-true _ _ z) in
      absurd (false≢true (sym f ∙ e ∙ both_and _ _ (le-leb _ _ w.ends) w.data')))
      (λ z. z)))

  -- a rule of its head is broken
  pub head_fails : (z : Bool) → z ≡ head_kept s C T kind o → z ≡ false → false ≡ eqb (fault_at s (signal C T kind width) o) 0
  unfolding head_kept
  head_fails z ez h =
      sym
      (on_test (eqb (fault_at s (signal C T kind width) o) 0)
      (λ q.
      let w = sound s (signal C T kind width) o (eqb-true _ _ q) in
      let data-end : data_at s o ≤ change_end s (signal C T kind width) o = (unfold change_end in omega arith) in
      let e = w.ends in
      absurd
      (false≢true
      (sym h ∙ ez ∙ both_and _ _ (lt-ltb o T w.before)
      (both_and _ _ (le-leb (data_at s o) T (omega arith))
      (both_and _ _ (le-leb C o w.starts) (both_and _ _ (both_and _ _ (lt-ltb (byte_at s o) 0x40 w.top) w.command) w.previous))))))
      (λ q. q))

  pub head_breaks : (z : Bool) → z ≡ head_kept s C T kind o → z ≡ false → Keeps s C T kind width o None
  head_breaks z ez h = let f : eqb (fault_at s (signal C T kind width) o) 0 ≡ false = sym (head_fails z ez h) in rw f

  module _ (z : Bool) (ez : z ≡ head_kept s C T kind o) (hz : z ≡ true) where
    head : head_kept s C T kind o ≡ true
    head = sym ez ∙ hz

    pub starts : o < T
    starts = head_start s C T kind o head

    pub symbols_decide : (kind ≡ Bits) ⊎ (kind ≡ Integer) → (k : Bool) → k ≡ symbols_kept s T width o → k ≡ eqb (fault_at s (signal C T kind width) o) 0
    unfolding symbols_kept change_end data_size data_allowed
    symbols_decide (inl e) k ek = keeps_by k (ek ∙ rw e) head
    symbols_decide (inr e) k ek = keeps_by k (ek ∙ rw e) head

    pub symbols_keep : (kind ≡ Bits) ⊎ (kind ≡ Integer) → (r : Option Kept) → SymbolsKept s T width o r → Keeps s C T kind width o r
    unfolding change_end data_size clean_at
    symbols_keep (inl e) r w = w ∙ (let d = symbols_decide (inl e) (symbols_kept s T width o) refl in rw (d, e))
    symbols_keep (inr e) r w = w ∙ (let d = symbols_decide (inr e) (symbols_kept s T width o) refl in rw (d, e))

    module _ (at : ℕ) (ea : at ≡ data_at s o) where
      pub real_decide : kind ≡ Real → leb (at + 8) T ≡ eqb (fault_at s (signal C T kind width) o) 0
      unfolding change_end data_size data_allowed
      real_decide e = keeps_by (leb (at + 8) T) (rw (e, ea) (sym (and-true _))) head

      pub real_keeps : kind ≡ Real → (r : Option Kept) → r ≡ kept_with (leb (at + 8) T) true (at + 8) → Keeps s C T kind width o r
      unfolding change_end data_size clean_at
      real_keeps e r w = w ∙ (let d = real_decide e in rw (d, ea, e))

      module _ (e : kind ≡ Text) (l : T ≤ length s) (p : ℕ) (ep : p ≡ at + to_zero (slice at T s)) where
        pub text_decide : ltb p T ≡ eqb (fault_at s (signal C T kind width) o) 0
        unfolding change_end data_size data_allowed
        text_decide = keeps_by (ltb p T) (before_bound s T l at T p (omega arith) ep ∙ rw (e, ea) (sym (and-true _))) head

        pub text_keeps : (r : Option Kept) → r ≡ kept_with (leb (p + 1) T) true (p + 1) → Keeps s C T kind width o r
        unfolding change_end data_size clean_at
        text_keeps r w =
            let up : p + 1 ≡ at + (to_zero (slice at T s) + 1) = omega arith in
            let one : leb (p + 1) T ≡ ltb p T = (let q : p + 1 ≡ suc p = omega arith in rw q) in
            w ∙ (let d = one ∙ text_decide in rw (d, up, ea, e))

-- ---- integers

-- 32 symbols of 1 bit, or none
integer_size : (command : ℕ) → command_allowed Integer command ≡ true → (symbol_size command ≡ 0) ⊎ (symbol_size command ≡ 1)
unfolding command_allowed symbol_size
integer_size command h =
    or_either (eqb command 0) (eqb command 3 || eqb command 4) h (λ a. inr (rw (eqb-true command 0 a)))
    (λ k. or_either (eqb command 3) (eqb command 4) k (λ a. inl (rw (eqb-true command 3 a))) (λ a. inl (rw (eqb-true command 4 a))))

integer_codes : (s : List ℕ) (b at : ℕ) → (b ≡ 0) ⊎ (b ≡ 1) → codes_allowed s b 32 at ≡ true
integer_codes s b at (inl e) = rw e (codes_none s 32 at)
integer_codes s b at (inr e) = rw e (codes_small s 1 32 at (lit< tt) (lit≤ tt))

integer_padding : (s : List ℕ) (b at : ℕ) → (b ≡ 0) ⊎ (b ≡ 1) → padding_clean s b 32 at ≡ true
unfolding padding_clean unused_bits packed_size
integer_padding s b at (inl e) = rw e (padding_none s 32 at)
integer_padding s b at (inr e) =
    let u : 8 * ((1 * 32 + 7) / 8) - 1 * 32 ≡ 0 = omega arith in
    rw (e, u, mod-one (byte_at s (at + (1 * 32 + 7) / 8 - 1)))

pub integer_keeps : (s : List ℕ) (C T : ℕ) (kind : Kind) (width o : ℕ) (z : Bool) → z ≡ head_kept s C T kind o → z ≡ true → kind ≡ Integer → width ≡ 32
    → (to : ℕ) → to ≡ data_at s o + packed_size (symbol_size (command_of s o)) 32 → (r : Option Kept) → r ≡ kept_with (leb to T) true to → Keeps s C T kind width o r
unfolding symbols_kept head_kept
integer_keeps s C T kind width o z ez hz e ew to et r er =
    let head = sym ez ∙ hz in
    let a = and_both (ltb o T) _ head in
    let b = and_both (leb (data_at s o) T) _ a.1 in
    let c = and_both (leb C o) _ b.1 in
    let d = and_both (ltb (byte_at s o) 0x40 && command_allowed kind (command_of s o)) _ c.1 in
    let command = (and_both (ltb (byte_at s o) 0x40) (command_allowed kind (command_of s o)) d.0).1 in
    let size = integer_size (command_of s o) (rw e at command) in
    let codes = integer_codes s (symbol_size (command_of s o)) (data_at s o) size in
    let padding = integer_padding s (symbol_size (command_of s o)) (data_at s o) size in
    symbols_keep s C T kind width o z ez hz (inr e) r (er ∙ rw (ew, codes, padding, et) (ap (λ b. kept_with b true (data_at s o + packed_size (symbol_size (command_of s o)) 32)) (sym (and-true _))))

-- the width of symbols
pub symbols_wide : (s : List ℕ) (T : ℕ) (kind : Kind) (width : ℕ) → Wide s T kind width → (kind ≡ Bits) ⊎ (kind ≡ Integer) → 1 ≤ width
unfolding symbolic
symbols_wide s T kind width w (inl e) = w.least (rw e)
symbols_wide s T kind width w (inr e) = w.least (rw e)
