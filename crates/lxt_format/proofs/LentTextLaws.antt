-- The laws of the question with a lent text, and the proofs of the claims in LentText.
use Rattle.std.specs.Prelude.{ℕ, ◌+◌, ◌≤◌, ◌≡◌, refl, Bool, true, false, List, length, ℤ, leb, ltb}
use Rattle.std.proofs.Common.{sym, ◌∙◌, ap, le-leb, ne_eqb}
use Rattle.std.proofs.lemmas.Bool.{false≢true}
use Rattle.std.proofs.Math.Seq.{slice, length-slice}
use native.Mathlib.Omega.{arith}
use Rattle.lxt_format.specs.Basics.{◌unless◌, Answer, given, refused}
use Rattle.lxt_format.specs.BasicsLaws.{on_zero, neither}
use Rattle.lxt_format.specs.Bytes.{to_zero}
use Rattle.lxt_format.specs.Sections.{end_of, facility_count}
use Rattle.lxt_format.specs.Geometry.{facts_by, own_facts, root_of, sync_of, facts_of}
use Rattle.lxt_format.specs.Changes.{data_at, data_size, change_end}
use Rattle.lxt_format.specs.Values.{Content, content_by, content_of, change_at, initial_by, content_at, TextSource, in_file, lent_text, other_kind, source_of, source_by, text_at}
use Rattle.lxt_format.specs.Judge.{signal_of, file_refusal, fault_from}
use Rattle.lxt_format.proofs.JudgeLaws.{accepted, passed, passed_located}
use Rattle.lxt_format.specs.Answers.{shown}
use Rattle.lxt_format.specs.Questions.{facility_refusal, value_refusal, value_asked, text_asked, part_by, text_part}
use Rattle.lxt_format.proofs.ValuesLaws.{latest_change_sound, facility_sound}
use Rattle.lxt_format.specs.LentText.{size_said, BothAgree, zero_end, PartInside, with_default, OfTexts, OfOtherKinds}
use Rattle.lxt_format.specs.declared.Kind.{Kind}
use Rattle.lxt_format.specs.declared.Kind.TheVariants.{Bits, Integer, Real, Text}

-- ---- another kind

other_source : (kind : Kind) (value : Content) (lent : ℕ) → (kind ≡ Text → ⊥) → source_by kind value lent ≡ other_kind
unfolding source_by
other_source Bits value lent n = refl
other_source Integer value lent n = refl
other_source Real value lent n = refl
other_source Text value lent n = absurd (n refl)

pub text_other : (s : List ℕ) (f : ℕ) (t : ℤ) (lent : ℕ) → ((own_facts s f).kind ≡ Text → ⊥) → text_at s f t lent ≡ other_kind
unfolding text_at
text_other s f t lent n = other_source (own_facts s f).kind (content_at s f t) lent n

pub of_other_kinds : OfOtherKinds
unfolding text_asked facts_of
of_other_kinds s f t lent n = rw (text_other s (root_of s f) t lent n)

-- ---- a text

abbrev pub is_text_lem : Kind → Bool
is_text_lem Bits = false
is_text_lem Integer = false
is_text_lem Real = false
is_text_lem Text = true

on_text : {P : Type 0} (kind : Kind) → (kind ≡ Text → P) → ((kind ≡ Text → ⊥) → P) → P
on_text Bits is other = other (λ e. false≢true (ap is_text_lem e))
on_text Integer is other = other (λ e. false≢true (ap is_text_lem e))
on_text Real is other = other (λ e. false≢true (ap is_text_lem e))
on_text Text is other = is refl

-- a text facility has no width
text_width : (kind : Kind) (msb lsb : ℕ) → (facts_by kind msb lsb).kind ≡ Text → (facts_by kind msb lsb).width ≡ 0
unfolding facts_by
text_width Bits msb lsb e = absurd (false≢true (ap is_text_lem e))
text_width Integer msb lsb e = absurd (false≢true (ap is_text_lem e))
text_width Real msb lsb e = refl
text_width Text msb lsb e = refl

module _ (s : List ℕ) (f : ℕ) (t : ℤ) (e : (own_facts s f).kind ≡ Text) where
  abbrev o : ℕ
  o = change_at s f t

  -- before its first change, and at a change
  pub text_start : (lent : ℕ) → o ≡ 0 → text_at s f t lent ≡ lent_text lent
  unfolding text_at content_at initial_by source_by source_of
  text_start lent z = rw (z, e)

  pub text_driven : (lent : ℕ) → (o ≡ 0 → ⊥) → text_at s f t lent ≡ in_file (data_at s o) (to_zero (slice (data_at s o) (end_of s) s))
  unfolding text_at content_at content_of content_by source_by source_of
  text_driven lent n = simp (ne_eqb o 0 n) (rw e)

  -- what the old question shows is the same but for the default
  shown_as : (lent : ℕ) → with_default lent (given (shown (content_at s f t))) ≡ given (text_at s f t lent)
  unfolding text_at content_at initial_by content_of content_by source_by source_of with_default
  shown_as lent = on_zero o (λ z. rw (z, e)) (λ p. let n : o ≡ 0 → ⊥ = omega arith in simp (ne_eqb o 0 n) (rw e))

-- a text facility needs no room
room_free : (s : List ℕ) (f room : ℕ) → (facts_of s f).kind ≡ Text → value_refusal s f room ≡ facility_refusal s f
unfolding value_refusal facts_of own_facts
room_free s f room e =
    let enough : leb 0 room ≡ true = le-leb 0 room (omega arith) in
    rw (text_width _ _ _ e, enough)
    (on_zero (facility_refusal s f) (λ z. rw z) (λ p. let n : facility_refusal s f ≡ 0 → ⊥ = omega arith in simp (ne_eqb (facility_refusal s f) 0 n)))

pub of_texts : OfTexts
unfolding text_asked value_asked with_default
of_texts s f t room lent e =
    let k : (own_facts s (root_of s f)).kind ≡ Text = unfold facts_of in e in
    let same = shown_as s (root_of s f) t k lent in
    rw (room_free s f room e)
    (on_zero (facility_refusal s f) (λ z. rw z (sym same)) (λ p. let n : facility_refusal s f ≡ 0 → ⊥ = omega arith in simp (ne_eqb (facility_refusal s f) 0 n)))

-- ---- a part of the file

-- the text of a driven facility lies before T with its zero
pub text_inside : (s : List ℕ) (f : ℕ) (t : ℤ) → facility_refusal s f ≡ 0 → (own_facts s (root_of s f)).kind ≡ Text
    → (change_at s (root_of s f) t ≡ 0 → ⊥)
    → data_at s (change_at s (root_of s f) t) + to_zero (slice (data_at s (change_at s (root_of s f) t)) (end_of s) s) + 1 ≤ end_of s
unfolding change_at fault_from change_end data_size
text_inside s f t h e n =
    let k = latest_change_sound s (signal_of s (root_of s f)) (sync_of s (root_of s f)) (facility_sound s f h) t n in
    let g = rw e at k.ends in
    omega arith

-- T is inside the file
pub end_inside : (s : List ℕ) (f : ℕ) → facility_refusal s f ≡ 0 → end_of s ≤ length s
unfolding facility_refusal
end_inside s f h =
    let asked = neither (file_refusal s) (18 unless ltb f (facility_count s)) h in
    let l = passed_located s (passed s (accepted s asked.0).tables) in
    omega (arith, l.end_high)

-- ---- every answer is one of four

module _ (P : Answer TextSource → Type 0) (s : List ℕ) (f : ℕ) (t : ℤ) (lent : ℕ) where
  pub by_answer : ((n : ℕ) → P (refused n)) → P (given other_kind) → P (given (lent_text lent))
      → ((start size : ℕ) → start + size + 1 ≤ end_of s → end_of s ≤ length s → P (given (in_file start size))) → P (text_asked s f t lent)
  unfolding text_asked
  by_answer refuses other start file =
      on_zero (facility_refusal s f)
      (λ z. rw z (on_text (own_facts s (root_of s f)).kind (on_kind z) (λ n. rw (text_other s (root_of s f) t lent n) other)))
      (λ p. let n : facility_refusal s f ≡ 0 → ⊥ = omega arith in simp (ne_eqb (facility_refusal s f) 0 n) (refuses (facility_refusal s f)))
    where
      on_kind : facility_refusal s f ≡ 0 → (own_facts s (root_of s f)).kind ≡ Text → P (given (text_at s (root_of s f) t lent))
      on_kind z e =
          on_zero (change_at s (root_of s f) t)
          (λ q. rw (text_start s (root_of s f) t e lent q) start)
          (λ p. let n : change_at s (root_of s f) t ≡ 0 → ⊥ = omega arith in
          rw (text_driven s (root_of s f) t e lent n) (file _ _ (text_inside s f t z e n) (end_inside s f z)))

pub both_agree : BothAgree
unfolding text_part part_by size_said
both_agree s f t lent =
    by_answer (λ a. length (part_by s lent a) ≡ size_said a) s f t (length lent) (λ n. refl) refl refl
    (λ start size low high. length-slice start (start + size) s (omega arith) ∙ (omega arith))

pub part_inside_lem : PartInside
unfolding zero_end
part_inside_lem s f t lent =
    by_answer (λ a. (zero_end a ≤ end_of s) × (zero_end a ≤ length s)) s f t lent
    (λ n. (omega arith, omega arith)) (omega arith, omega arith) (omega arith, omega arith)
    (λ start size low high. (low, omega arith))
