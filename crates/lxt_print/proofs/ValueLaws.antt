-- Laws of the line of a change: its head, and its value in the buffer.
use Prim.Native.Nat.{ℕ, zero, suc, ◌+◌, ◌*◌, ◌-◌, ◌≤◌, ◌<◌}
use native.Mathlib.Nat.{add-zero}
use native.Mathlib.Omega.{arith}
use mathlib.Core.Path.{◌≡◌, refl, sym, ap, ◌∙◌}
use mathlib.Core.Bool.{true, false}
use mathlib.Core.List.{List, [], ◌∷◌, ◌++◌, append_assoc}
use lib.ListN.{length, take, drop, length-drop}
use lib.Seq.{slice}
use lib.IntN.{ℤ}
use lib.Ieee.{Float}
use Rattle.lxt_format.specs.Limits.{widest_facility}
use Rattle.lxt_format.specs.Sections.{facility_count, end_of}
use Rattle.lxt_format.specs.Bytes.{to_zero}
use Rattle.lxt_format.specs.Geometry.{is_alias, own_facts, geometry_allowed}
use Rattle.lxt_format.specs.Times.{time_of}
use Rattle.lxt_format.specs.BiasedTimes.{biased, unbiased}
use Rattle.lxt_format.proofs.BiasedTimesLaws.{unbiased_biased}
use Rattle.lxt_format.specs.Changes.{digits, data_at, data_size, change_end}
use Rattle.lxt_format.specs.Values.{Content, bits, real, text, not_driven, content_by, content_of}
use Rattle.lxt_format.specs.Answers.{Shown, bits_of, real_of, text_of, nothing, shown, value_shown}
use Rattle.lxt_format.specs.Questions.{written, holding_bits}
use Rattle.lxt_format.specs.declared.Value.{Value}
use Rattle.lxt_format.specs.declared.Value.TheVariants as ofValue
use Rattle.lxt_format.specs.declared.Kind.{Kind}
use Rattle.lxt_format.specs.declared.Kind.TheVariants.{Bits, Integer, Real, Text}
use Rattle.lxt_format.specs.declared.Facts.{Facts}
use Rattle.lxt_tables.specs.declared.Tables.{Tables}
use Rattle.lxt_tables.proofs.TablesLaws.{width_most, has_real_lem, real_order}
use Rattle.lxt_values.specs.Reals.{order_places}
use Rattle.lxt_values.specs.Times as Ti
use Rattle.lxt_values.proofs.TimeLaws.{any_time_fits}
use Rattle.lxt_chains.specs.Pending.{pair_of, Allowed}
use Rattle.lxt_chains.proofs.Accepted.{allowed_sound}
use Rattle.lxt_values.specs.Value.{Readies}
use Rattle.lxt_values.proofs.ReadLaws.{symbols_long, bits_drawn, integer_drawn}
use Rattle.lxt_print.specs.Lines.{decimal, signed_decimal, space, change_word, hex_bytes, value_text, change_line}
use Rattle.lxt_print.specs.Placing.{Opened, Put, change_head}
use Rattle.lxt_format.specs.Buffers.{part_from, part_back, part_long, part_put}
use Rattle.lxt_format.specs.Buffers.{placed_none}
use Rattle.lxt_print.proofs.LineLaws.{opened_known, own_asks}

-- ---- the head and the whole line

pub times_there : (s : List ℕ) (t : Tables) → Opened s t → Ti.Times s t.times t.time_count t.wide_times
times_there s t w =
    let k = opened_known s t w in
    record { start = k.times; count = k.time_count_lem; form = k.wide; inside = k.times_at_lem.inside; end = omega (arith, k.end_high); allowed = k.passed.times }

pub change_text : (f o : ℕ) (x : ℤ)
    → (0x63 ∷ 0x68 ∷ 0x61 ∷ 0x6E ∷ 0x67 ∷ 0x65 ∷ 0x20 ∷ []) ++ (decimal f ++ (0x20 ∷ [])) ++ (decimal o ++ (0x20 ∷ [])) ++ signed_decimal x ++ (0x20 ∷ []) ≡ change_head f o x
unfolding change_head change_word digits
change_text f o x =
    let a : List ℕ = change_word ++ space in
    ap (λ l. l ++ signed_decimal x ++ space)
    (sym (append_assoc (a ++ (decimal f ++ space)) (decimal o) space) ∙ ap (λ l. l ++ decimal o ++ space) (sym (append_assoc a (decimal f) space)))

-- the time with its bias is that of the change
time_is : (s : List ℕ) (t : Tables) → Opened s t → (o x : ℕ) → x ≡ biased (time_of s o) → unbiased x ≡ time_of s o
time_is s t w o x e =
    ap unbiased e ∙ unbiased_biased (time_of s o) (any_time_fits s t.times t.time_count t.wide_times (times_there s t w) o)

pub change_line_lem : (s : List ℕ) (t : Tables) → Opened s t → (f o x : ℕ) → x ≡ biased (time_of s o)
    → change_head f o (unbiased x) ++ value_text s (content_of s f o) ++ (0x0A ∷ []) ≡ change_line s (pair_of f o)
unfolding change_head change_line
change_line_lem s t w f o x e = rw (time_is s t w o x e)

-- ---- what reading the value asks

module _ (s : List ℕ) (t : Tables) (w : Opened s t) (f : ℕ) (l : f < t.facilities) (o : ℕ) (a : Allowed s (pair_of f o)) where
  pub facts_asks : (f < t.facilities) × ((geometry_allowed s f ≡ true) × (is_alias s f ≡ false))
  facts_asks = own_asks s t w f l a.root

  module _ (x : Facts) (e : x ≡ own_facts s f) where
    pub narrow : x.width ≤ widest_facility
    narrow = rw e (width_most s f facts_asks.1.0 a.root)

    pub readies : (room : ℕ) → widest_facility ≤ room → Readies s t.end t.order x.kind x.width o room
    readies room h =
        let k = opened_known s t w in
        let below : f < facility_count s = rw (← k.facilities) l in
        let n = narrow in
        record {
          sound = rw e (allowed_sound s a);
          limit = k.end;
          within = omega (arith, k.end_high);
          short = k.long;
          ordered = λ q. real_order s f below a.root (rw e at q) t k;
          places = λ q.
              let real = rw e at q in
              rw (real_order s f below a.root real t k) (order_places s (has_real_lem s f below a.root real) k.passed.real_test_lem);
          enough = omega arith;
        }

    pub content_is : content_by s x.kind x.width o ≡ content_of s f o
    unfolding content_of
    content_is = rw e

-- ---- what a value says

abbrev said_width : Shown → ℕ
said_width (bits_of n) = n
said_width (real_of x b) = b
said_width (text_of start size) = start
said_width nothing = 0

abbrev said_size : Shown → ℕ
said_size (bits_of n) = 0
said_size (real_of x b) = 0
said_size (text_of start size) = size
said_size nothing = 0

abbrev said_what : Shown → ℕ
said_what (bits_of n) = 0
said_what (real_of x b) = 1
said_what (text_of start size) = 2
said_what nothing = 3

-- ---- a value in the buffer

module _ (s : List ℕ) (C : Content) (v : Value) (ev : value_shown v ≡ shown C) (b : List ℕ) (at : ℕ) (ys : List ℕ) (ey : ys ≡ holding_bits C (part_from b at)) where
  -- a buffer in which no symbols were put
  untouched : written C ≡ [] → part_back b at ys ≡ b
  unfolding holding_bits
  untouched h =
      let e : ys ≡ [] ++ drop 0 (part_from b at) = ey ∙ rw h in
      ap (λ q. part_back b at q) e ∙ part_put b at [] ∙ placed_none b at

  pub bits_put : (n : ℕ) → v ≡ ofValue.Bits n → at + n ≤ length b → Put b at (value_text s C) (at + n) (part_back b at ys)
  unfolding value_text holding_bits written
  bits_put n e h = by C (rw e at ev) ey
    where
      by : (C : Content) → bits_of n ≡ shown C → ys ≡ holding_bits C (part_from b at) → Put b at (value_text s C) (at + n) (part_back b at ys)
      by (bits y) q ey = let z : n ≡ length y = ap said_width q in record { place = rw z; holds = rw ey (part_put b at y); fits = h }
      by (real x c) q ey = absurd (let z : 0 ≡ 1 = ap said_what q in omega arith)
      by (text i k) q ey = absurd (let z : 0 ≡ 2 = ap said_what q in omega arith)
      by not_driven q ey = absurd (let z : 0 ≡ 3 = ap said_what q in omega arith)

  pub real_put : (x : Float) (c : ℕ) → v ≡ ofValue.Real x c → (bytes : List ℕ) → bytes ≡ digits 8 8 c → (q : ℕ) (b' : List ℕ)
      → Put (part_back b at ys) at (hex_bytes bytes) q b' → Put b at (value_text s C) q b'
  unfolding value_text written
  real_put x c e bytes eb q b' p = by C (rw e at ev) untouched
    where
      by : (C : Content) → real_of x c ≡ shown C → (written C ≡ [] → part_back b at ys ≡ b) → Put b at (value_text s C) q b'
      by (bits y) r u = absurd (let z : 1 ≡ 0 = ap said_what r in omega arith)
      by (real y d) r u = let z : c ≡ d = ap said_width r in rw (← z, ← eb) (rw (u refl) at p)
      by (text i k) r u = absurd (let z : 1 ≡ 2 = ap said_what r in omega arith)
      by not_driven r u = absurd (let z : 1 ≡ 3 = ap said_what r in omega arith)

  pub text_put : (i k : ℕ) → v ≡ ofValue.Text i k → (q : ℕ) (b' : List ℕ)
      → Put (part_back b at ys) at (hex_bytes (take (i + k - i) (drop i s))) q b' → Put b at (value_text s C) q b'
  unfolding value_text written
  text_put i k e q b' p = by C (rw e at ev) untouched
    where
      by : (C : Content) → text_of i k ≡ shown C → (written C ≡ [] → part_back b at ys ≡ b) → Put b at (value_text s C) q b'
      by (bits y) r u = absurd (let z : 2 ≡ 0 = ap said_what r in omega arith)
      by (real y d) r u = absurd (let z : 2 ≡ 1 = ap said_what r in omega arith)
      by (text j l) r u =
          let z : i ≡ j = ap said_width r in
          let y : k ≡ l = ap said_size r in
          let m : i + k - i ≡ k = omega arith in
          rw (← z, ← y) (rw (u refl, m) at p)
      by not_driven r u = absurd (let z : 2 ≡ 3 = ap said_what r in omega arith)

  pub none_put : v ≡ ofValue.NotDriven → at ≤ length b → Put b at (value_text s C) at (part_back b at ys)
  unfolding value_text written
  none_put e h = by C (rw e at ev) untouched
    where
      by : (C : Content) → nothing ≡ shown C → (written C ≡ [] → part_back b at ys ≡ b) → Put b at (value_text s C) at (part_back b at ys)
      by (bits y) r u = absurd (let z : 3 ≡ 0 = ap said_what r in omega arith)
      by (real y d) r u = absurd (let z : 3 ≡ 1 = ap said_what r in omega arith)
      by (text j l) r u = absurd (let z : 3 ≡ 2 = ap said_what r in omega arith)
      by not_driven r u = record { place = sym (add-zero at); holds = u refl ∙ sym (placed_none b at); fits = h }

-- ---- how long a value is

module _ (s : List ℕ) (end : ℕ) (order : List ℕ) (kind : Kind) (width o room : ℕ) (w : Readies s end order kind width o room) (v : Value) (ev : value_shown v ≡ shown (content_by s kind width o)) where
  pub bits_wide : (n : ℕ) → v ≡ ofValue.Bits n → n ≡ width
  unfolding content_by
  bits_wide n e = by kind refl (rw e at ev)
    where
      by : (k : Kind) → kind ≡ k → bits_of n ≡ shown (content_by s k width o) → n ≡ width
      by Bits h q = ap said_width q ∙ symbols_long s width o (bits_drawn s end order kind width o room w h).0
      by Integer h q = ap said_width q ∙ symbols_long s width o (integer_drawn s end order kind width o room w h).0
      by Real h q = absurd (let z : 0 ≡ 1 = ap said_what q in omega arith)
      by Text h q = absurd (let z : 0 ≡ 2 = ap said_what q in omega arith)

  pub text_inside : (i k : ℕ) → v ≡ ofValue.Text i k → i + k ≤ length s
  unfolding content_by change_end data_size
  text_inside i k e = by kind refl (rw e at ev)
    where
      by : (j : Kind) → kind ≡ j → text_of i k ≡ shown (content_by s j width o) → i + k ≤ length s
      by Bits h q = absurd (let z : 2 ≡ 0 = ap said_what q in omega arith)
      by Integer h q = absurd (let z : 2 ≡ 0 = ap said_what q in omega arith)
      by Real h q = absurd (let z : 2 ≡ 1 = ap said_what q in omega arith)
      by Text h q =
          let x : i ≡ data_at s o = ap said_width q in
          let y : k ≡ to_zero (slice (data_at s o) (end_of s) s) = ap said_size q in
          let g : data_at s o + (to_zero (slice (data_at s o) (end_of s) s) + 1) ≤ end_of s = rw h at w.sound.ends in
          let a = w.limit in
          let b = w.within in
          omega arith

-- ---- the ways out of putting a value

module _ (s : List ℕ) (t : Tables) (w : Opened s t) (f : ℕ) (l : f < t.facilities) (o : ℕ) (a : Allowed s (pair_of f o)) (x : Facts) (ex : x ≡ own_facts s f) (b : List ℕ) (at : ℕ) (h : at + (2 * length s + widest_facility) ≤ length b) where
  pub read_asks : Readies s t.end t.order x.kind x.width o (length (part_from b at))
  read_asks = let p = part_long b at in readies s t w f l o a x ex (length (part_from b at)) (omega arith)

  module _ (v : Value) (ys : List ℕ) (ev : value_shown v ≡ shown (content_by s x.kind x.width o)) (ey : ys ≡ holding_bits (content_by s x.kind x.width o) (part_from b at)) where
    says : value_shown v ≡ shown (content_of s f o)
    says = ev ∙ ap shown (content_is s t w f l o a x ex)

    holds : ys ≡ holding_bits (content_of s f o) (part_from b at)
    holds = ey ∙ ap (λ c. holding_bits c (part_from b at)) (content_is s t w f l o a x ex)

    pub value_bits : (n : ℕ) → v ≡ ofValue.Bits n
        → Put b at (value_text s (content_of s f o)) (at + n) (part_back b at ys) × (at + n ≤ at + (2 * length s + widest_facility))
    value_bits n e =
        let m = narrow s t w f l o a x ex in
        let z = bits_wide s t.end t.order x.kind x.width o (length (part_from b at)) read_asks v ev n e in
        (bits_put s (content_of s f o) v says b at ys holds n e (omega arith), omega arith)

    pub value_real : (y : Float) (c : ℕ) → v ≡ ofValue.Real y c → (bytes : List ℕ) → bytes ≡ digits 8 8 c → (q : ℕ) (b' : List ℕ)
        → Put (part_back b at ys) at (hex_bytes bytes) q b' → q ≡ at + 2 * length bytes
        → Put b at (value_text s (content_of s f o)) q b' × (q ≤ at + (2 * length s + widest_facility))
    unfolding digits
    value_real y c e bytes eb q b' p eq =
        let z : length bytes ≡ 8 = rw eb in
        (real_put s (content_of s f o) v says b at ys holds y c e bytes eb q b' p, omega arith)

    pub text_part_lem : (i k : ℕ) → v ≡ ofValue.Text i k → i + k ≤ length s
    text_part_lem i k e = text_inside s t.end t.order x.kind x.width o (length (part_from b at)) read_asks v ev i k e

    pub value_text_lem : (i k : ℕ) → v ≡ ofValue.Text i k → (q : ℕ) (b' : List ℕ) → Put (part_back b at ys) at (hex_bytes (take (i + k - i) (drop i s))) q b'
        → q ≡ at + 2 * length (take (i + k - i) (drop i s)) → Put b at (value_text s (content_of s f o)) q b' × (q ≤ at + (2 * length s + widest_facility))
    value_text_lem i k e q b' p eq =
        let z = length_take_most (i + k - i) (drop i s) in
        let y = length-drop i s in
        (text_put s (content_of s f o) v says b at ys holds i k e q b' p, omega arith)
      where
        length_take_most : (n : ℕ) (r : List ℕ) → length (take n r) ≤ length r
        length_take_most zero r = omega arith
        length_take_most (suc n) [] = omega arith
        length_take_most (suc n) (y ∷ r) = let ih = length_take_most n r in omega arith

    pub value_none : v ≡ ofValue.NotDriven
        → Put b at (value_text s (content_of s f o)) at (part_back b at ys) × (at ≤ at + (2 * length s + widest_facility))
    value_none e = (none_put s (content_of s f o) v says b at ys holds e (omega arith), omega arith)
