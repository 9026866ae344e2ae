-- Whether a change of a group breaks a rule: a law for each way out of the functions that test it.
use Prim.Native.Nat.{ℕ, ◌+◌, ◌≤◌, ◌<◌, ◌/◌, ◌%◌}
use native.Mathlib.Omega.{arith}
use native.Mathlib.Decide.{dec_le}
use mathlib.Core.Path.{◌≡◌, refl, sym, ap, ◌∙◌}
use mathlib.Core.Logic.{◌⊎◌, inl, inr}
use mathlib.Core.Bool.{Bool, true, false, not, ◌&&◌, ◌||◌, and-true, true≢false, false≢true}
use mathlib.Core.List.{List}
use lib.ListN.{length}
use lib.Seq.{slice}
use lib.Dec.{ltb, leb, eqb, lit<, lit≤}
use borrow.Author.Tests.{eqb-true, eq-eqb, ne_eqb, le-leb, lt-ltb, le-ltb, leb-true, ltb-true}
use Rattle.lxt_format.specs.Limits.{widest_facility}
use Rattle.lxt_format.specs.Basics.{◌unless◌, ◌or_else◌}
use Rattle.lxt_format.specs.BasicsLaws.{on_test, or_either, and_both, neither, kept, was_given, was_refused}
use Rattle.lxt_format.specs.Bytes.{byte_at, to_zero}
use Rattle.lxt_format.specs.Sections.{changes_from, end_of}
use Rattle.lxt_format.specs.Changes.{signal, command_of, data_at, command_allowed, symbol_size, packed_size, codes_allowed, data_size, data_allowed, change_end, fault_at}
use Rattle.lxt_format.specs.declared.Kind.{Kind}
use Rattle.lxt_format.specs.declared.Kind.TheVariants.{Bits, Integer, Real, Text}
use Rattle.std.specs.Prelude.{Option, Some, None, is_some}
use Rattle.lxt_changes.specs.Windows.{Known, Answered, Data}
use Rattle.lxt_changes.specs.Faults.{LastZero, body_fault}
use Rattle.lxt_changes.specs.Keeping.{head_kept, symbols_kept}
use Rattle.lxt_changes.proofs.CodeLaws.{codes_none, codes_small}
use Rattle.lxt_changes.proofs.FaultLaws.{symbol_cases, text_in, text_out}
use Rattle.lxt_changes.proofs.KeepLaws.{head_start, head_fails, symbols_decide, real_decide, text_decide}
use Rattle.lxt_changes.specs.declared.symbols.Window.{Window}
use Rattle.lxt_chains.specs.Reading.{Ready}
use Rattle.lxt_chains.specs.Groups.{has, width_as, kept_as, others_kept, FaultAs, FaultyAt, Judges}
use Rattle.lxt_chains.specs.declared.chains.Chains.{Chains}
use Rattle.std.proofs.Common.{Option, Some, None}

-- ---- texts

not_both : (n m : ℕ) → n < m → n ≡ m → ⊥
not_both n m h e = omega arith

-- a text starts below the place past the last zero exactly where it ends before T
text_ends : (s : List ℕ) (T z o : ℕ) → LastZero s T z → T ≤ length s → ltb (data_at s o) z ≡ ltb (data_at s o + to_zero (slice (data_at s o) T s)) T
unfolding body_fault change_end data_size data_allowed
text_ends s T z o w l =
    let at : ℕ = data_at s o in
    let size : ℕ = to_zero (slice (data_at s o) T s) in
    elim (dec_le z at) [
      | yes q ↦ (let out : 15 ≡ (15 unless leb (at + (size + 1)) T or_else 16 unless true) = (was_refused _ 15 (tt {0}) (text_out s T z o at w l refl q)).0 in
          on_test (leb (at + (size + 1)) T) (λ h. absurd (not_both 0 15 (lit< tt) (sym (rw h at out))))
          (λ h. le-ltb at z q ∙ sym (on_test (ltb (at + size) T) (λ k. (let f : at + size < T = ltb-true (at + size) T k in let m : at + (size + 1) ≤ T = omega arith in absurd (false≢true (sym h ∙ le-leb _ _ m)))) (λ k. k))))
      | no n ↦ (let in' : 0 ≡ (15 unless leb (at + (size + 1)) T or_else 16 unless true) = sym (was_given _ (tt {0}) (tt {0}) (text_in s T z o at w l refl (omega arith))).0 in
          let h = kept 15 (leb (at + (size + 1)) T) (lit< tt) (neither _ _ (sym in')).0 in
          let m : at + (size + 1) ≤ T = leb-true (at + (size + 1)) T h in
          lt-ltb at z (omega arith) ∙ sym (lt-ltb (at + size) T (omega arith)))
    ]

-- ---- codes

-- only codes of 4 bits can be wrong
few_bits : (s : List ℕ) (b width o : ℕ) → ((b ≡ 0) ⊎ (b ≡ 1)) ⊎ ((b ≡ 2) ⊎ (b ≡ 4)) → (b ≡ 4 → ⊥) → codes_allowed s b width o ≡ true
few_bits s b width o (inl (inl e)) n = rw e (codes_none s width o)
few_bits s b width o (inl (inr e)) n = rw e (codes_small s 1 width o (lit< tt) (lit≤ tt))
few_bits s b width o (inr (inl e)) n = rw e (codes_small s 2 width o (lit< tt) (lit≤ tt))
few_bits s b width o (inr (inr e)) n = absurd (n e)

-- an integer has none
integer_size : (command : ℕ) → command_allowed Integer command ≡ true → symbol_size command ≡ 4 → ⊥
unfolding command_allowed symbol_size
integer_size command h e =
    or_either (eqb command 0) (eqb command 3 || eqb command 4) h (λ a. not_both 1 4 (lit< tt) (rw (eqb-true command 0 a) at e))
    (λ k.
    or_either (eqb command 3) (eqb command 4) k (λ a. not_both 0 4 (lit< tt) (rw (eqb-true command 3 a) at e))
    (λ a. not_both 0 4 (lit< tt) (rw (eqb-true command 4 a) at e)))

head_command : (s : List ℕ) (C T : ℕ) (kind : Kind) (o : ℕ) → head_kept s C T kind o ≡ true → command_allowed kind (command_of s o) ≡ true
unfolding head_kept
head_command s C T kind o h =
    let a = and_both (ltb o T) _ h in
    let b = and_both (leb (data_at s o) T) _ a.1 in
    let c = and_both (leb C o) _ b.1 in
    let d = and_both (ltb (byte_at s o) 0x40 && command_allowed kind (command_of s o)) _ c.1 in
    (and_both (ltb (byte_at s o) 0x40) (command_allowed kind (command_of s o)) d.0).1

-- ---- a change for one kind

pub not_asked : (s : List ℕ) (asked : Bool) (kind : Kind) (width o : ℕ) → asked ≡ false → true ≡ kept_as s asked kind width o
unfolding kept_as
not_asked s asked kind width o h = rw h

asked_is : (s : List ℕ) (asked : Bool) (kind : Kind) (width o : ℕ) → asked ≡ true → eqb (fault_at s (signal (changes_from s) (end_of s) kind width) o) 0 ≡ kept_as s asked kind width o
unfolding kept_as
asked_is s asked kind width o h = rw h

-- a change whose head keeps the rules starts in the file
pub head_inside : (s : List ℕ) (c : Chains) → Ready s c → (kind : Kind) (o : ℕ) (z : Bool) → z ≡ head_kept s c.from c.end kind o → z ≡ true → o < length s
head_inside s c w kind o z ez hz = let a = head_start s c.from c.end kind o (sym ez ∙ hz) in let b = w.within in omega arith

module _ (s : List ℕ) (c : Chains) (w : Ready s c) (asked : Bool) (o : ℕ) where
  -- what the tests with the places of the file tell
  told : (kind : Kind) (width : ℕ) (r : Bool) → asked ≡ true → r ≡ eqb (fault_at s (signal c.from c.end kind width) o) 0 → r ≡ kept_as s asked kind width o
  told kind width r h e = e ∙ rw (w.from, w.end) (asked_is s asked kind width o h)

  module _ (h : asked ≡ true) (kind : Kind) (z : Bool) (ez : z ≡ head_kept s c.from c.end kind o) where
    pub wrong_head : z ≡ false → (width : ℕ) → false ≡ kept_as s asked kind width o
    wrong_head f width = told kind width false h (head_fails s c.from c.end kind width o z ez f)

  symbols_told : (kind : Kind) (width : ℕ) → (kind ≡ Bits) ⊎ (kind ≡ Integer) → asked ≡ true → head_kept s c.from c.end kind o ≡ true
      → (r : Bool) → r ≡ symbols_kept s c.end width o → r ≡ kept_as s asked kind width o
  symbols_told kind width k h head r e =
      told kind width r h
      (symbols_decide s c.from c.end kind width o true (sym head) refl k r e)

  pub integer_told : asked ≡ true → (z : Bool) → z ≡ head_kept s c.from c.end Integer o → z ≡ true
      → (r : Bool) → r ≡ leb (data_at s o + packed_size (symbol_size (command_of s o)) 32) c.end → r ≡ kept_as s asked Integer 32 o
  unfolding symbols_kept
  integer_told h z ez hz r e =
      let head = sym ez ∙ hz in
      let good = few_bits s (symbol_size (command_of s o)) 32 (data_at s o) (symbol_cases (command_of s o)) (integer_size (command_of s o) (head_command s c.from c.end Integer o head)) in
      symbols_told Integer 32 (inr refl) h head r (e ∙ rw good (sym (and-true _)))

  module _ (h : asked ≡ true) (at : ℕ) (ea : at ≡ data_at s o) where
    pub real_told : (q : Bool) → q ≡ head_kept s c.from c.end Real o → q ≡ true → leb (at + 8) c.end ≡ kept_as s asked Real 0 o
    real_told q eq hq = told Real 0 (leb (at + 8) c.end) h (real_decide s c.from c.end Real 0 o q eq hq at ea refl)

    pub text_told : (q : Bool) → q ≡ head_kept s c.from c.end Text o → q ≡ true → ltb at c.zero ≡ kept_as s asked Text 0 o
    text_told q eq hq =
        told Text 0 (ltb at c.zero) h
        (rw ea (text_ends s c.end c.zero o w.zero w.within) ∙ text_decide s c.from c.end Text 0 o q eq hq (data_at s o) refl refl w.within _ refl)

-- ---- all kinds but bits

-- there is none
pub none_other : (s : List ℕ) (kinds o : ℕ) → kinds ≡ 0 → true ≡ others_kept s kinds o
unfolding others_kept kept_as
none_other s kinds o e = rw e

-- ---- bits

-- the bytes that are known are those that are given
pub known_same : {s : List ℕ} {w v : Window} → Some w ≡ Some v → Known s w → Known s v
known_same {w = w} {v = v} z k = let e : w ≡ v = cc in rw (← e) k

module _ (s : List ℕ) (asked : Bool) (kind : Kind) (width o : ℕ) where
  kept_right : kept_as s asked kind width o ≡ true → FaultAs s asked kind width o → ⊥
  unfolding kept_as
  kept_right h p = p.fault (eqb-true _ 0 (rw p.for at h))

  kept_wrong : kept_as s asked kind width o ≡ false → FaultAs s asked kind width o
  unfolding kept_as
  kept_wrong h =
      on_test asked
      (λ a. let n : eqb (fault_at s (signal (changes_from s) (end_of s) kind width) o) 0 ≡ false = (rw a at h) in record { for = a; fault = λ z. true≢false (sym (eq-eqb _ 0 z) ∙ n) })
      (λ a. absurd (true≢false (rw a at h)))

  passes : true ≡ kept_as s asked kind width o → (w : Window) → Known s w → Judges s (FaultAs s asked kind width o) (Some w)
  passes e w k = record { passed = λ v z. kept_right (sym e); failed = λ z. absurd (cc); known = λ v z. known_same z k }

  fails : false ≡ kept_as s asked kind width o → Judges s (FaultAs s asked kind width o) None
  fails e = record { passed = λ v z. absurd (cc); failed = λ z. kept_wrong (sym e); known = λ v z. absurd (cc) }

module _ (s : List ℕ) (c : Chains) (w : Ready s c) (width o : ℕ) (window : Window) (k : Known s window) where
  pub no_bits : width ≡ 0 → Judges s (FaultAs s (not (eqb width 0)) Bits width o) (Some window)
  no_bits e = passes s (not (eqb width 0)) Bits width o (not_asked s (not (eqb width 0)) Bits width o (ap not (eq-eqb width 0 e))) window k

  module _ (n : width ≡ 0 → ⊥) (z : Bool) (ez : z ≡ head_kept s c.from c.end Bits o) where
    asked : not (eqb width 0) ≡ true
    asked = ap not (ne_eqb width 0 n)

    pub bits_head : z ≡ false → Judges s (FaultAs s (not (eqb width 0)) Bits width o) None
    bits_head h = fails s (not (eqb width 0)) Bits width o (wrong_head s c w (not (eqb width 0)) o asked Bits z ez h width)

    module _ (hz : z ≡ true) (y : Bool) (ey : y ≡ leb (data_at s o + packed_size (symbol_size (command_of s o)) width) c.end) where
      bits_told : (r : Bool) → r ≡ symbols_kept s c.end width o → r ≡ kept_as s (not (eqb width 0)) Bits width o
      bits_told = symbols_told s c w (not (eqb width 0)) o Bits width (inl refl) asked (sym ez ∙ hz)

      pub bits_far : y ≡ false → Judges s (FaultAs s (not (eqb width 0)) Bits width o) None
      unfolding symbols_kept
      bits_far h = fails s (not (eqb width 0)) Bits width o (bits_told false (rw (← ey, h)))

      module _ (hy : y ≡ true) (b : ℕ) (eb : b ≡ symbol_size (byte_at s o % 16)) where
        pub bits_few : (b ≡ 4 → ⊥) → Judges s (FaultAs s (not (eqb width 0)) Bits width o) (Some window)
        unfolding symbols_kept command_of
        bits_few q =
            let good = few_bits s (symbol_size (byte_at s o % 16)) width (data_at s o) (symbol_cases (byte_at s o % 16)) (λ e. q (eb ∙ e)) in
            passes s (not (eqb width 0)) Bits width o (bits_told true (rw (← ey, hy, good))) window k

        module _ (four : b ≡ 4) (at : ℕ) (ea : at ≡ data_at s o) where
          pub bits_data : width ≤ widest_facility → Data s 4 width at
          unfolding command_of
          bits_data most =
              let e : symbol_size (byte_at s o % 16) ≡ 4 = sym eb ∙ four in
              let far : data_at s o + packed_size 4 width ≤ c.end = rw e at (leb-true (data_at s o + packed_size (symbol_size (byte_at s o % 16)) width) c.end (sym ey ∙ hy)) in
              let l = w.within in
              let m : data_at s o + packed_size 4 width ≤ length s = omega arith in
              record { symbols = inr (inr refl); least = omega arith; most = most; inside = rw ea m }

          module _ (r : Option Window) (a : Answered s (codes_allowed s 4 width at) r) where
            codes_told : is_some r ≡ kept_as s (not (eqb width 0)) Bits width o
            unfolding symbols_kept command_of
            codes_told =
                let e : symbol_size (byte_at s o % 16) ≡ 4 = sym eb ∙ four in
                bits_told (is_some r) (a.answer ∙ rw (← ey, hy, e, ea))

            pub codes_judge : Judges s (FaultAs s (not (eqb width 0)) Bits width o) r
            codes_judge = by_cases r refl
              where
                by_cases : (q : Option Window) → r ≡ q → Judges s (FaultAs s (not (eqb width 0)) Bits width o) q
                by_cases None e = fails s (not (eqb width 0)) Bits width o (rw e at codes_told)
                by_cases (Some v) e = passes s (not (eqb width 0)) Bits width o (rw e at codes_told) v (a.known v e)

-- ---- all kinds of a group

module _ (s : List ℕ) (width kinds o : ℕ) (others : Bool) (eo : others ≡ others_kept s kinds o) where
  -- what they are, one by one
  parts : others ≡ true → (kept_as s (eqb (kinds % 2) 1) Integer 32 o ≡ true) × ((kept_as s (eqb (kinds / 2 % 2) 1) Real 0 o ≡ true) × (kept_as s (eqb (kinds / 4 % 2) 1) Text 0 o ≡ true))
  unfolding others_kept
  parts h =
      let a = and_both (kept_as s (eqb (kinds % 2) 1) Integer 32 o) (kept_as s (eqb (kinds / 2 % 2) 1) Real 0 o && kept_as s (eqb (kinds / 4 % 2) 1) Text 0 o) (sym eo ∙ h) in
      (a.0, and_both (kept_as s (eqb (kinds / 2 % 2) 1) Real 0 o) (kept_as s (eqb (kinds / 4 % 2) 1) Text 0 o) a.1)

  wrong_others : others ≡ false → FaultyAt s width kinds o
  unfolding has width_as others_kept
  wrong_others h =
      on_test (kept_as s (eqb (kinds % 2) 1) Integer 32 o)
      (λ a.
      on_test (kept_as s (eqb (kinds / 2 % 2) 1) Real 0 o)
      (λ b.
      let e : kept_as s (eqb (kinds / 4 % 2) 1) Text 0 o ≡ false = (rw (a, b) at (sym eo ∙ h)) in
      record { kind = Text; faulty = kept_wrong s (eqb (kinds / 4 % 2) 1) Text 0 o e })
      (λ b. record { kind = Real; faulty = kept_wrong s (eqb (kinds / 2 % 2) 1) Real 0 o b }))
      (λ a. record { kind = Integer; faulty = kept_wrong s (eqb (kinds % 2) 1) Integer 32 o a })

  pub others_fail : others ≡ false → Judges s (FaultyAt s width kinds o) None
  others_fail h = record { passed = λ v z. absurd (cc); failed = λ _. wrong_others h; known = λ v z. absurd (cc) }

  module _ (h : others ≡ true) (r : Option Window) (j : Judges s (FaultAs s (not (eqb width 0)) Bits width o) r) where
    none_fails : (v : Window) → r ≡ Some v → (kind : Kind) → FaultAs s (has width kinds kind) kind (width_as width kind) o → ⊥
    unfolding has width_as
    none_fails v p Bits = j.passed v p
    none_fails v p Integer = kept_right s (eqb (kinds % 2) 1) Integer 32 o (parts h).0
    none_fails v p Real = kept_right s (eqb (kinds / 2 % 2) 1) Real 0 o (parts h).1.0
    none_fails v p Text = kept_right s (eqb (kinds / 4 % 2) 1) Text 0 o (parts h).1.1

    bits_fail : r ≡ None → FaultyAt s width kinds o
    unfolding has width_as
    bits_fail p = record { kind = Bits; faulty = j.failed p }

    pub bits_decide : Judges s (FaultyAt s width kinds o) r
    bits_decide = record { passed = λ v p q. none_fails v p q.kind q.faulty; failed = bits_fail; known = j.known }
