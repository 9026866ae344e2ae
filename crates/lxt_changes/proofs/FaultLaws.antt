-- A law for each way out of the functions on faults.
use Prim.Native.Nat.{ℕ, zero, suc, ◌+◌, ◌-◌, ◌≤◌, ◌<◌, ◌%◌, zero-le}
use mathlib.Core.Path.{◌≡◌, refl, sym, ◌∙◌, ap}
use mathlib.Core.Logic.{◌⊎◌, inl, inr}
use mathlib.Core.Bool.{Bool, true, false, ◌&&◌, and_assoc, and-true, and-false}
use mathlib.Core.List.{List}
use lib.ListN.{length, get_or}
use lib.Seq.{slice, get_or-drop, get_or-take, length-slice}
use lib.Dec.{ltb, leb, lit<}
use native.Mathlib.Omega.{arith}
use native.Mathlib.Decide.{ℕ_discrete, dec_le}
use borrow.Author.Tests.{eq-eqb, ne_eqb, le-leb, lt-leb, lt-ltb, le-ltb, leb-true, ltb-true}
use Rattle.lxt_format.specs.Limits.{widest_facility}
use Rattle.lxt_format.specs.Basics.{◌unless◌, ◌or_else◌, given, refused, answer}
use Rattle.lxt_format.specs.Bytes.{byte_at, to_zero}
use Rattle.lxt_format.specs.BasicsLaws.{neither, kept, and_both, was_given, was_refused, passed_on, same_refusal}
use Rattle.lxt_format.proofs.ChangesLaws.{previous_lt, faults_none, faults_next, faults_here, clean_none, clean_next, sound}
use Rattle.lxt_format.specs.BytesLaws.{at_zero, zero_bounds}
use Rattle.lxt_format.specs.Changes.{Signal, signal, command_of, data_at, previous_of, command_allowed, symbol_size, packed_size, codes_allowed, padding_clean, data_size, data_allowed, clean_at, change_end, previous_allowed, fault_at, chain_fault, chain_clean}
use Rattle.lxt_format.specs.declared.Kind.{Kind}
use Rattle.lxt_format.specs.declared.Kind.TheVariants.{Bits, Integer, Real, Text}
use Rattle.lxt_changes.specs.Windows.{Known, Answered, Data}
use Rattle.lxt_changes.specs.Faults.{LastZero, start_fault, body_fault, symbol_fault, symbol_clean, Found, symbolic, Setting}
use Rattle.lxt_changes.proofs.CodeLaws.{codes_none}
use Rattle.lxt_changes.proofs.PaddingLaws.{padding_none}
use Rattle.lxt_changes.specs.declared.symbols.Window.{Window}
use Rattle.lxt_changes.specs.declared.fault.Sound.{Sound}
use Rattle.std.specs.Prelude.{Result, Ok, Err, Option, Some, None, is_some}
use Rattle.lxt_format.specs.Answers.{refusal_number}
use Rattle.lxt_format.specs.declared.refusal.Refusal.{Refusal}
use Rattle.lxt_format.specs.declared.refusal.Refusal.TheVariants.{ChangeOutside, ChangeContent}

-- ---- the last zero

-- no zero stands from p up to `end`
pub record Above (s : List ℕ) (end p : ℕ) : Type 0 where
  pub within : p ≤ end
  pub none_after : (i : ℕ) → p ≤ i → i < end → byte_at s i ≡ 0 → ⊥

pub from_end : (s : List ℕ) (end : ℕ) → Above s end end
from_end s end = record { within = omega arith; none_after = λ i a b. absurd (omega arith) }

module _ (s : List ℕ) (end p : ℕ) (w : Above s end p) where
  pub zero_found : 0 < p → byte_at s (p - 1) ≡ 0 → LastZero s end (p - 1 + 1)
  zero_found h e =
      let q : p - 1 + 1 ≡ p = omega arith in
      rw q (record { within = w.within; zero_there = λ k. e; none_after = w.none_after })

  pub no_zero : p ≤ 0 → LastZero s end 0
  no_zero h = record { within = omega arith; zero_there = λ k. absurd (omega arith); none_after = λ i a b. w.none_after i (omega arith) b }

  pub one_lower : 0 < p → (byte_at s (p - 1) ≡ 0 → ⊥) → Above s end (p - 1)
  one_lower h n =
      record {
        within = let l = w.within in omega arith;
        none_after = λ i a b. elim (ℕ_discrete i (p - 1)) [ yes e ↦ rw e n | no m ↦ w.none_after i (omega arith) b ];
      }

-- ---- the first two tests

module _ (s : List ℕ) (C T : ℕ) (kind : Kind) (o : ℕ) where
  pub below : o < C → refused 15 ≡ answer (start_fault s C T kind o) (tt {0})
  unfolding start_fault
  below h = simp (lt-leb C o h)

  pub past : T ≤ o → refused 15 ≡ answer (start_fault s C T kind o) (tt {0})
  unfolding start_fault
  past h = simp (le-ltb o T h, and-false)

  module _ (a : C ≤ o) (b : o < T) (z : Bool) (ez : z ≡ (ltb (byte_at s o) 0x40 && command_allowed kind (byte_at s o % 16))) where
    pub wrong_command : z ≡ false → refused 16 ≡ answer (start_fault s C T kind o) (tt {0})
    unfolding start_fault command_of
    wrong_command h = simp (le-leb C o a, lt-ltb o T b, ← ez, h)

    pub right_command : z ≡ true → given (tt {0}) ≡ answer (start_fault s C T kind o) (tt {0})
    unfolding start_fault command_of
    right_command h = simp (le-leb C o a, lt-ltb o T b, ← ez, h)

-- ---- a change of symbols

pub symbol_cases : (c : ℕ) → ((symbol_size c ≡ 0) ⊎ (symbol_size c ≡ 1)) ⊎ ((symbol_size c ≡ 2) ⊎ (symbol_size c ≡ 4))
unfolding symbol_size
symbol_cases c =
    elim (ℕ_discrete c 0) [
      | yes e ↦ inl (inr (simp (eq-eqb c 0 e)))
      | no n ↦ elim (ℕ_discrete c 1) [
        | yes e ↦ inr (inl (simp (ne_eqb c 0 n, eq-eqb c 1 e)))
        | no m ↦ elim (ℕ_discrete c 2) [
          | yes e ↦ inr (inr (simp (ne_eqb c 0 n, ne_eqb c 1 m, eq-eqb c 2 e)))
          | no k ↦ inl (inl (simp (ne_eqb c 0 n, ne_eqb c 1 m, ne_eqb c 2 k)))
        ]
      ]
    ]

module _ (s : List ℕ) (T width o : ℕ) (b size at : ℕ) (eb : b ≡ symbol_size (byte_at s o % 16)) (ea : at ≡ data_at s o) (es : size ≡ packed_size b width) where
  end_is : data_at s o + packed_size (symbol_size (command_of s o)) width ≡ at + size
  unfolding command_of
  end_is = rw (es, eb, ea)

  module _ (w : Window) (k : Known s w) where
    pub symbols_out : T < at + size → Found s (symbol_fault s T width o) (symbol_clean s width o) (Err ChangeOutside)
    unfolding symbol_fault
    symbols_out h =
        record {
          told = (let g : T < data_at s o + packed_size (symbol_size (command_of s o)) width = rw end_is h in simp (lt-leb _ _ g));
          known = tt;
        }

  module _ (h : at + size ≤ T) where
    pub data_there : 1 ≤ width → width ≤ widest_facility → T ≤ length s → Data s b width at
    data_there least most fits = record { symbols = rw eb (symbol_cases (byte_at s o % 16)); least = least; most = most; inside = rw (← es) (omega arith) }

    fits : leb (data_at s o + packed_size (symbol_size (command_of s o)) width) T ≡ true
    fits = rw end_is (le-leb _ _ h)

    -- there is no data
    pub symbols_none : b ≡ 0 → (w : Window) → Known s w → Found s (symbol_fault s T width o) (symbol_clean s width o) (Ok (record { clean = true; window = w }))
    unfolding symbol_fault symbol_clean command_of
    symbols_none z w k =
        let e : symbol_size (byte_at s o % 16) ≡ 0 = sym eb ∙ z in
        let c : codes_allowed s (symbol_size (byte_at s o % 16)) width (data_at s o) ≡ true = rw e (codes_none s width (data_at s o)) in
        let p : padding_clean s (symbol_size (byte_at s o % 16)) width (data_at s o) ≡ true = rw e (padding_none s width (data_at s o)) in
        record { told = simp (fits, c, p); known = k }

    module _ (r : Option Window) (a : Answered s (codes_allowed s b width at) r) where
      allowed_is : is_some r ≡ codes_allowed s (symbol_size (command_of s o)) width (data_at s o)
      unfolding command_of
      allowed_is = a.answer ∙ rw (eb, ea)

      pub symbols_wrong : r ≡ None → Found s (symbol_fault s T width o) (symbol_clean s width o) (Err ChangeContent)
      unfolding symbol_fault
      symbols_wrong e = let f : codes_allowed s (symbol_size (command_of s o)) width (data_at s o) ≡ false = sym (rw e at allowed_is) in record { told = simp (fits, f); known = tt }

      pub symbols_right : (w : Window) → r ≡ Some w → (z : Bool) → z ≡ padding_clean s b width at
          → Found s (symbol_fault s T width o) (symbol_clean s width o) (Ok (record { clean = z; window = w }))
      unfolding symbol_fault symbol_clean command_of
      symbols_right w e z ez =
          let f : codes_allowed s (symbol_size (byte_at s o % 16)) width (data_at s o) ≡ true = sym (rw e at allowed_is) in
          let p : z ≡ padding_clean s (symbol_size (byte_at s o % 16)) width (data_at s o) = ez ∙ rw (eb, ea) in
          record { told = rw p (simp (fits, f)); known = a.known w e }

-- ---- reals and texts

module _ (s : List ℕ) (T o at : ℕ) (ea : at ≡ data_at s o) where
  real_end : change_end s (signal 0 T Real 0) o ≡ at + 8
  unfolding change_end data_size
  real_end = rw ea

  pub real_out : T < at + 8 → refused 15 ≡ answer (body_fault s T Real 0 o) (tt {0})
  unfolding body_fault
  real_out h = let g : T < change_end s (signal 0 T Real 0) o = rw real_end h in simp (lt-leb _ _ g)

  pub real_in : at + 8 ≤ T → given (tt {0}) ≡ answer (body_fault s T Real 0 o) (tt {0})
  unfolding body_fault data_allowed
  real_in h = let g : change_end s (signal 0 T Real 0) o ≤ T = rw real_end h in simp (le-leb _ _ g)

-- the byte i of a part of the file
part_at : (s : List ℕ) (p T i : ℕ) → p + i < T → get_or (slice p T s) i 0 ≡ byte_at s (p + i)
part_at s p T i h = get_or-drop p _ i 0 ∙ get_or-take T s (p + i) 0 h

module _ (s : List ℕ) (T z : ℕ) (w : LastZero s T z) (fits : T ≤ length s) (p : ℕ) where
  -- a text that starts below z ends before T
  ends_before : p < z → p + (to_zero (slice p T s) + 1) ≤ T
  ends_before h =
      let a = w.within in
      let i : ℕ = z - 1 - p in
      let e : p + i ≡ z - 1 = omega arith in
      let len = length-slice p T s fits in
      let b : to_zero (slice p T s) ≤ i = zero_bounds (slice p T s) i (omega arith) (part_at s p T i (omega arith) ∙ rw e (w.zero_there (omega arith))) in
      omega arith

  -- and one that starts at z or above passes T
  passes : z ≤ p → T < p + (to_zero (slice p T s) + 1)
  passes h =
      let len = length-slice p T s fits in
      elim (dec_le (length (slice p T s)) (to_zero (slice p T s))) [
        | yes l ↦ omega arith
        | no n ↦ (let i : to_zero (slice p T s) < length (slice p T s) = omega arith in
            absurd (w.none_after (p + to_zero (slice p T s)) (omega arith) (omega arith) (sym (part_at s p T (to_zero (slice p T s)) (omega arith)) ∙ at_zero (slice p T s) i)))
      ]

module _ (s : List ℕ) (T z o at : ℕ) (w : LastZero s T z) (fits : T ≤ length s) (ea : at ≡ data_at s o) where
  text_end : change_end s (signal 0 T Text 0) o ≡ at + (to_zero (slice at T s) + 1)
  unfolding change_end data_size
  text_end = rw ea

  pub text_out : z ≤ at → refused 15 ≡ answer (body_fault s T Text 0 o) (tt {0})
  unfolding body_fault
  text_out h = let g : T < change_end s (signal 0 T Text 0) o = rw text_end (passes s T z w fits at h) in simp (lt-leb _ _ g)

  pub text_in : at < z → given (tt {0}) ≡ answer (body_fault s T Text 0 o) (tt {0})
  unfolding body_fault data_allowed
  text_in h = let g : change_end s (signal 0 T Text 0) o ≤ T = rw text_end (ends_before s T z w fits at h) in simp (le-leb _ _ g)

-- ---- a change of any kind

pub width_least : (s : List ℕ) (T z : ℕ) (kind : Kind) (width : ℕ) → Setting s T z kind width → (kind ≡ Bits) ⊎ (kind ≡ Integer) → 1 ≤ width
unfolding symbolic
width_least s T z kind width t (inl e) = t.least (rw e)
width_least s T z kind width t (inr e) = t.least (rw e)

module _ (s : List ℕ) (T z : ℕ) (kind : Kind) (width o : ℕ) (w : Window) (t : Setting s T z kind width) (k : Known s w) where
  abbrev body : Result Sound Refusal → Type 0
  body r = Found s (body_fault s T kind width o) (clean_at s (signal 0 T kind width) o) r

  pub symbols_body : (kind ≡ Bits) ⊎ (kind ≡ Integer) → (r : Result Sound Refusal) → Found s (symbol_fault s T width o) (symbol_clean s width o) r → body r
  unfolding symbol_fault symbol_clean body_fault change_end data_size data_allowed clean_at
  symbols_body (inl e) r f = record { told = rw e f.told; known = f.known }
  symbols_body (inr e) r f = record { told = rw e f.told; known = f.known }

  -- a real or a text with a fault, one without
  real_fault_is : kind ≡ Real → body_fault s T kind width o ≡ body_fault s T Real 0 o
  unfolding body_fault change_end data_size data_allowed
  real_fault_is e = rw e

  text_fault_is : kind ≡ Text → body_fault s T kind width o ≡ body_fault s T Text 0 o
  unfolding body_fault change_end data_size data_allowed
  text_fault_is e = rw e

  pub real_wrong : kind ≡ Real → (f : Refusal) → refused (refusal_number f) ≡ answer (body_fault s T Real 0 o) (tt {0}) → body (Err f)
  real_wrong e f h = record { told = same_refusal _ _ _ (tt {0}) _ (real_fault_is e) h; known = tt }

  pub text_wrong : kind ≡ Text → (f : Refusal) → refused (refusal_number f) ≡ answer (body_fault s T Text 0 o) (tt {0}) → body (Err f)
  text_wrong e f h = record { told = same_refusal _ _ _ (tt {0}) _ (text_fault_is e) h; known = tt }

  pub real_body : kind ≡ Real → {u : Unit {0}} → given u ≡ answer (body_fault s T Real 0 o) (tt {0}) → body (Ok (record { clean = true; window = w }))
  unfolding clean_at
  real_body e {u} h = record { told = rw (real_fault_is e, (was_given _ (tt {0}) u h).0, e); known = k }

  pub text_body : kind ≡ Text → {u : Unit {0}} → given u ≡ answer (body_fault s T Text 0 o) (tt {0}) → body (Ok (record { clean = true; window = w }))
  unfolding clean_at
  text_body e {u} h = record { told = rw (text_fault_is e, (was_given _ (tt {0}) u h).0, e); known = k }

-- ---- all tests of a change

or_assoc : (a b c : ℕ) → ((a or_else b) or_else c) ≡ (a or_else (b or_else c))
or_assoc zero b c = refl
or_assoc (suc a) b c = let n : suc a ≡ 0 → ⊥ = omega arith in simp (ne_eqb (suc a) 0 n)

in_two : (a b c d e : ℕ) → (a or_else (b or_else (c or_else (d or_else e)))) ≡ ((a or_else b) or_else ((c or_else d) or_else e))
in_two a b c d e = sym (or_assoc a b ((c or_else d) or_else e) ∙ ap (λ x. a or_else (b or_else x)) (or_assoc c d e))

-- the end of the data that a change without a fault of its body has
pub body_ends : (s : List ℕ) (T : ℕ) (kind : Kind) (width o : ℕ) → body_fault s T kind width o ≡ 0 → data_at s o ≤ T
unfolding body_fault change_end
body_ends s T kind width o h =
    let a = neither (15 unless leb (data_at s o + data_size s (signal 0 T kind width) o) T) (16 unless data_allowed s (signal 0 T kind width) o) h in
    let b = leb-true (data_at s o + data_size s (signal 0 T kind width) o) T (kept 15 _ (lit< tt) a.0) in
    omega arith

module _ (s : List ℕ) (C T : ℕ) (kind : Kind) (width o : ℕ) where
  abbrev fault : ℕ
  fault = fault_at s (signal C T kind width) o

  abbrev padding : Bool
  padding = clean_at s (signal C T kind width) o

  tests : fault ≡ (start_fault s C T kind o or_else (body_fault s T kind width o or_else 15 unless previous_allowed s C o))
  unfolding fault_at start_fault body_fault change_end data_size data_allowed
  tests =
      in_two (15 unless (leb C o && ltb o T)) (16 unless (ltb (byte_at s o) 0x40 && command_allowed kind (command_of s o)))
      (15 unless leb (change_end s (signal 0 T kind width) o) T) (16 unless data_allowed s (signal 0 T kind width) o) (15 unless previous_allowed s C o)

  -- a start with a fault, and one without, which lies before T
  pub bad_start : (n : ℕ) → refused n ≡ answer (start_fault s C T kind o) (tt {0}) → refused n ≡ answer fault padding
  bad_start n h = rw tests (passed_on (start_fault s C T kind o) _ n (tt {0}) padding h)

  pub started : {u : Unit {0}} → given u ≡ answer (start_fault s C T kind o) (tt {0}) → start_fault s C T kind o ≡ 0
  started {u} h = (was_given _ (tt {0}) u h).0

  pub starts_before : start_fault s C T kind o ≡ 0 → o < T
  unfolding start_fault
  starts_before z =
      let a = neither (15 unless (leb C o && ltb o T)) (16 unless (ltb (byte_at s o) 0x40 && command_allowed kind (command_of s o))) z in
      let b = and_both (leb C o) (ltb o T) (kept 15 _ (lit< tt) a.0) in
      ltb-true o T b.1

  module _ (z : start_fault s C T kind o ≡ 0) where
    from_body : fault ≡ (body_fault s T kind width o or_else 15 unless previous_allowed s C o)
    from_body = tests ∙ rw z

    pub bad_body : (n : ℕ) → refused n ≡ answer (body_fault s T kind width o) (clean_at s (signal 0 T kind width) o) → refused n ≡ answer fault padding
    bad_body n h = rw from_body (passed_on (body_fault s T kind width o) _ n _ padding h)

    module _ (b : Bool) (h : given b ≡ answer (body_fault s T kind width o) (clean_at s (signal 0 T kind width) o)) where
      sound_body : body_fault s T kind width o ≡ 0
      sound_body = (was_given _ _ b h).0

      -- whether padding was clean does not depend on C
      padded : b ≡ padding
      unfolding clean_at
      padded = (was_given _ _ b h).1

      pub body_inside_lem : T ≤ length s → data_at s o ≤ length s
      body_inside_lem l = let e = body_ends s T kind width o sound_body in omega arith

      module _ (q : Bool) (eq : q ≡ previous_allowed s C o) where
        pub bad_previous : q ≡ false → refused 15 ≡ answer fault padding
        bad_previous g = rw (from_body, sound_body, ← eq, g)

        pub no_fault : q ≡ true → given b ≡ answer fault padding
        no_fault g = rw (from_body, sound_body, ← eq, g, padded)

-- ---- a chain

module _ (s : List ℕ) (C T : ℕ) (kind : Kind) (width start : ℕ) where
  abbrev g : Signal
  g = signal C T kind width

  -- what is left of a chain has the first fault of the whole; clean says so of what has been passed
  pub record Left (o : ℕ) (clean : Bool) (w : Window) : Type 0 where
    pub known : Known s w
    pub whole : chain_fault s g o ≡ chain_fault s g start
    pub padding : (clean && chain_clean s g o) ≡ chain_clean s g start

  pub at_start : Left start true (record { from = 0; to = 0 })
  at_start = record { known = record { good = λ i a b. absurd (omega arith); within = zero-le }; whole = refl; padding = refl }

  module _ (o : ℕ) (clean : Bool) (w : Window) (l : Left o clean w) where
    pub at_end : o ≡ 0 → given clean ≡ answer (chain_fault s g start) (chain_clean s g start)
    at_end e =
        let f : chain_fault s g start ≡ 0 = sym (rw e at l.whole) ∙ faults_none s g in
        let c : clean ≡ chain_clean s g start = sym (and-true clean) ∙ (rw (e, clean_none s g) at l.padding) in
        rw (f, c)

    module _ (some : o ≡ 0 → ⊥) where
      pub fault_found : (n : ℕ) → refused n ≡ answer (fault_at s g o) (clean_at s g o) → refused n ≡ answer (chain_fault s g start) (chain_clean s g start)
      fault_found n h =
          let w = was_refused _ n _ h in
          let e : chain_fault s g start ≡ fault_at s g o = sym l.whole ∙ faults_here s g o (omega arith) w.1 in
          same_refusal _ _ n _ _ e h

      module _ (r : Sound) (h : given r.clean ≡ answer (fault_at s g o) (clean_at s g o)) where
        z : fault_at s g o ≡ 0
        z = (was_given _ _ r.clean h).0

        pub inside : T ≤ length s → (o < length s) × (data_at s o ≤ length s)
        inside fits =
            let d = sound s g o z in
            let a = d.before in
            let b = d.ends in
            let c : data_at s o ≤ change_end s g o = (unfold change_end in omega arith) in
            (omega arith, omega arith)

        pub next_left : Known s r.window → (p : ℕ) → p ≡ previous_of s o → Left p (clean && r.clean) r.window
        next_left known p e =
            record {
              known = known;
              whole = rw e (sym (faults_next s g o (omega arith) z) ∙ l.whole);
              padding = rw (e, (was_given _ _ r.clean h).1) (and_assoc clean (clean_at s g o) _ ∙ (rw (clean_next s g o (omega arith)) at l.padding));
            }

      pub falls : (p : ℕ) → p ≡ previous_of s o → p < o
      falls p e = let a = previous_lt s o (omega arith) in omega arith
