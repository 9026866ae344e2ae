-- The laws of a column, and the proofs of the claims in ValueColumn.
use Prim.Native.Nat.{ℕ, zero, suc, ◌+◌, ◌≤◌, ◌<◌}
use Rattle.std.specs.Prelude.{◌≡◌, ◌&&◌, get_or, take, drop, ℤ, leb}
use Rattle.std.proofs.Math.Path.{refl, ap}
use Rattle.std.proofs.Common.{sym, ◌∙◌, take_at, drop_at, lit<, add-zero, zero-add}
use mathlib.Core.List.{List, [], ◌∷◌, ◌++◌, map, append_assoc}
use Rattle.std.proofs.Math.ListN.{length, length-append, get_or-append}
use Rattle.std.proofs.Math.Seq.{slice}
use native.Mathlib.Omega.{arith}
use borrow.Author.Tests.{le-leb, leb-true}
use Rattle.lxt_format.specs.Limits.{longest_column}
use Rattle.lxt_format.specs.Basics.{◌unless◌, ◌or_else◌, given, joined, total, first_fault}
use Rattle.lxt_format.specs.BasicsLaws.{neither, kept, and_both, answer_given}
use Rattle.lxt_format.specs.Geometry.{root_of, facts_of}
use Rattle.lxt_format.specs.Values.{Content, bits, real, text, not_driven, visited_at, content_at, TextSource, text_at}
use Rattle.lxt_format.specs.Judge.{file_refusal}
use Rattle.lxt_format.specs.Answers.{shown}
use Rattle.lxt_format.specs.Questions.{facility_refusal, written, holding_bits, value_refusal, value_asked, value_buffer, text_asked, widths_of, column_refusal, column_bits, record_by, column_records, column_visited, column_asked, column_buffer, column_output}
use Rattle.lxt_format.specs.ValueColumn.{symbols_in, start_at, OneByOne, OneSum}

-- ---- a column that is not refused

-- what passed
pub record Fine (s asked : List ℕ) (room records : ℕ) : Type 0 where
  pub file : file_refusal s ≡ 0
  pub short : length asked ≤ longest_column
  pub numbers : first_fault (map (facility_refusal s) asked) ≡ 0
  pub bits_fit : widths_of s asked ≤ room
  pub records_fit : length asked ≤ records

pub column_fine : (s asked : List ℕ) (room records : ℕ) → column_refusal s asked room records ≡ 0 → Fine s asked room records
unfolding column_refusal
column_fine s asked room records h =
    let roomy = leb (widths_of s asked) room && leb (length asked) records in
    let rest : ℕ = first_fault (map (facility_refusal s) asked) or_else 21 unless roomy in
    let a = neither (file_refusal s) (35 unless leb (length asked) longest_column or_else rest) h in
    let b = neither (35 unless leb (length asked) longest_column) rest a.1 in
    let c = neither (first_fault (map (facility_refusal s) asked)) (21 unless roomy) b.1 in
    let d = and_both (leb (widths_of s asked) room) (leb (length asked) records) (kept 21 roomy (lit< tt) c.1) in
    record {
      file = a.0;
      short = leb-true (length asked) longest_column (kept 35 _ (lit< tt) b.0);
      numbers = c.0;
      bits_fit = leb-true (widths_of s asked) room d.0;
      records_fit = leb-true (length asked) records d.1;
    }

-- no number of the list is refused
pub number_fine : (g : ℕ → ℕ) (l : List ℕ) → first_fault (map g l) ≡ 0 → (i : ℕ) → i < length l → g (get_or l i 0) ≡ 0
unfolding first_fault
number_fine g [] h i below = absurd (omega arith)
number_fine g (x ∷ l) h zero below = (neither (g x) (first_fault (map g l)) h).0
number_fine g (x ∷ l) h (suc i) below = number_fine g l (neither (g x) (first_fault (map g l)) h).1 i (omega arith)

-- ---- one item of several

-- the part between a and c
middle : (a b c : List ℕ) → slice (length a) (length a + length b) (a ++ (b ++ c)) ≡ b
middle a b c =
    let long = length-append a b in
    let front : take (length a + length b) (a ++ (b ++ c)) ≡ a ++ b = rw (← append_assoc a b c) (take_at (a ++ b) c (length a + length b) long) in
    rw front (drop_at a b (length a) refl)

-- what f gives for one of the list, between what it gives for those before it and those after it
joined_at : (f : ℕ → List ℕ) (l : List ℕ) (i : ℕ) → i < length l → joined f l ≡ joined f (take i l) ++ (f (get_or l i 0) ++ joined f (drop (suc i) l))
unfolding joined
joined_at f [] i below = absurd (omega arith)
joined_at f (x ∷ l) zero below = refl
joined_at f (x ∷ l) (suc i) below = rw (joined_at f l i (omega arith)) (sym (append_assoc (f x) (joined f (take i l)) _))

module _ (s : List ℕ) (t : ℤ) where
  abbrev value_of : ℕ → Content
  value_of f = content_at s (root_of s f) t

  -- record i, with the bits of the first item at `start`
  record_at : (lent : ℕ) (asked : List ℕ) (start i : ℕ) → i < length asked
      → get_or (column_records s t lent start asked) i [] ≡ record_by (start + start_at s t asked i) (shown (value_of (get_or asked i 0))) (text_at s (root_of s (get_or asked i 0)) t lent)
  unfolding column_records column_bits joined
  record_at lent [] start i below = absurd (omega arith)
  record_at lent (f ∷ fs) start zero below = rw (add-zero start)
  record_at lent (f ∷ fs) start (suc i) below =
      let first : List ℕ = written (value_of f) in
      let rest : List ℕ = column_bits s t (take i fs) in
      let long = length-append first rest in
      let sum : start + length first + length rest ≡ start + length (first ++ rest) = omega arith in
      rw (← sum) (record_at lent fs (start + length first) i (omega arith))

  pub length_records : (lent start : ℕ) (asked : List ℕ) → length (column_records s t lent start asked) ≡ length asked
  unfolding column_records
  length_records lent start [] = refl
  length_records lent start (f ∷ fs) = ap suc (length_records lent (start + length (written (value_of f))) fs)

-- the symbols that are said are those that are written
said_written : (value : Content) → symbols_in (shown value) ≡ length (written value)
unfolding symbols_in written
said_written (bits symbols) = refl
said_written (real x b) = refl
said_written (text start size) = refl
said_written not_driven = refl

-- ---- the question alone

module _ (s : List ℕ) (t : ℤ) (f : ℕ) (fine : facility_refusal s f ≡ 0) (buffer : List ℕ) (room : (facts_of s f).width ≤ length buffer) where
  value_fine : value_refusal s f (length buffer) ≡ 0
  unfolding value_refusal
  value_fine = rw (fine, le-leb (facts_of s f).width (length buffer) room)

  alone_value : (value_asked s f t (length buffer)).value ≡ given (shown (value_of s t f))
  unfolding value_asked
  alone_value = answer_given (value_refusal s f (length buffer)) _ value_fine

  alone_text : (lent : ℕ) → text_asked s f t lent ≡ given (text_at s (root_of s f) t lent)
  unfolding text_asked
  alone_text lent = answer_given (facility_refusal s f) _ fine

  alone_bits : take (length (written (value_of s t f))) (value_buffer s f t buffer) ≡ written (value_of s t f)
  unfolding value_buffer holding_bits
  alone_bits = rw value_fine (take_at (written (value_of s t f)) _ (length (written (value_of s t f))) refl)

-- with just the room that it needs
alone_visited : (s : List ℕ) (t : ℤ) (f : ℕ) → facility_refusal s f ≡ 0 → visited_at s (root_of s f) t ≡ (value_asked s f t (facts_of s f).width).visited
unfolding value_asked value_refusal
alone_visited s t f fine = sym (rw (fine, le-leb (facts_of s f).width (facts_of s f).width (omega arith)))

-- ---- the claims

module _ (s : List ℕ) (t : ℤ) (asked : List ℕ) (room records : ℕ) (h : column_refusal s asked room records ≡ 0) (i : ℕ) (below : i < length asked) where
  abbrev number : ℕ
  number = get_or asked i 0

  abbrev own : List ℕ
  own = written (value_of s t number)

  number_known : facility_refusal s number ≡ 0
  number_known = number_fine (facility_refusal s) asked (column_fine s asked room records h).numbers i below

  -- the symbols of item i stand behind those of the items before it
  own_bits : (more : List ℕ) → slice (start_at s t asked i) (start_at s t asked i + length own) (column_bits s t asked ++ more) ≡ own
  unfolding column_bits
  own_bits more =
      let f : ℕ → List ℕ = λ g. written (value_of s t g) in
      let before : List ℕ = joined f (take i asked) in
      let after : List ℕ = joined f (drop (suc i) asked) in
      let whole : joined f asked ++ more ≡ before ++ (own ++ (after ++ more)) =
      ap (λ l. l ++ more) (joined_at f asked i below) ∙ append_assoc before (own ++ after) more ∙ ap (λ l. before ++ l) (append_assoc own after more) in
      ap (λ l. slice (length before) (length before + length own) l) whole ∙ middle before own (after ++ more)

pub one_by_one : OneByOne
unfolding column_output column_buffer
one_by_one s t asked lent lentBits records h i below buffer room =
    let f : ℕ = get_or asked i 0 in
    let fine = number_known s t asked (length lentBits) (length records) h i below in
    let value : Content = value_of s t f in
    let source : TextSource = text_at s (root_of s f) t lent in
    let all : List (List ℕ) = column_records s t lent 0 asked in
    record {
      value = shown value;
      value_is = alone_value s t f fine buffer room;
      source = source;
      source_is = alone_text s t f fine buffer room lent;
      record_is =
          rw h
          (get_or-append all (drop (length all) records) [] i (rw (length_records s t lent 0 asked) below)
          ∙ record_at s t lent asked 0 i below
          ∙ ap (λ start. record_by start (shown value) source) (zero-add (start_at s t asked i)));
      bits_are =
          rw (h, said_written value)
          (own_bits s t asked (length lentBits) (length records) h i below (drop (length (column_bits s t asked)) lentBits) ∙ sym (alone_bits s t f fine buffer room));
    }

total_same : (f g : ℕ → ℕ) (l : List ℕ) → ((i : ℕ) → i < length l → f (get_or l i 0) ≡ g (get_or l i 0)) → total f l ≡ total g l
unfolding total
total_same f g [] same = refl
total_same f g (x ∷ l) same = rw (same 0 (omega arith), total_same f g l (λ i below. same (suc i) (omega arith)))

pub one_sum : OneSum
unfolding column_asked column_visited
one_sum s t asked room records h =
    let visited : ℕ → ℕ = λ f. visited_at s (root_of s f) t in
    let alone : ℕ → ℕ = λ f. (value_asked s f t (facts_of s f).width).visited in
    answer_given (column_refusal s asked room records) (total visited asked) h
    ∙ ap given (total_same visited alone asked (λ i below. alone_visited s t (get_or asked i 0) (number_known s t asked room records h i below)))
