-- A law for each way out of the questions on a text with a lent one in its place.
use Prim.Native.Nat.{ℕ, ◌+◌, ◌-◌, ◌≤◌, ◌<◌}
use mathlib.Core.Path.{◌≡◌, refl, sym, ◌∙◌, ap}
use mathlib.Core.List.{List, []}
use lib.IntN.{ℤ}
use lib.ListN.{length, take, drop}
use lib.Seq.{slice, take-add, drop_at, length-take-le}
use native.Mathlib.Omega.{arith}
use mir.Syntax.{w64}
use mir.Val.{SFits, to_z, of_z}
use mir.ValLaws.{to_z-of_z}
use Rattle.lxt_format.specs.Basics.{Answer, given, refused, answer}
use Rattle.lxt_format.specs.BasicsLaws.{answer_given}
use Rattle.lxt_format.specs.Bytes.{to_zero}
use Rattle.lxt_format.specs.Sections.{end_of}
use Rattle.lxt_format.specs.Geometry.{own_facts, root_of, facts_of}
use Rattle.lxt_format.specs.Changes.{data_at, chain_of}
use Rattle.lxt_format.specs.Values.{TextSource, in_file, lent_text, other_kind, text_at, latest_at, visited_in, change_at}
use Rattle.lxt_format.specs.Answers.{refusal_number, text_says}
use Rattle.lxt_format.specs.Questions.{facility_refusal, text_asked, part_by, text_part, place_by}
use Rattle.lxt_format.specs.LentText.{zero_end}
use Rattle.lxt_format.proofs.LentTextLaws.{text_other, text_start, text_driven, text_inside, part_inside_lem}
use Rattle.lxt_format.specs.declared.Kind.{Kind}
use Rattle.lxt_format.specs.declared.Kind.TheVariants.{Text}
use Rattle.std.specs.Prelude.{Result, Ok, Err, Option, Some, None}
use Rattle.lxt_values.specs.Times.{found_at}
use Rattle.lxt_values.proofs.TimeLaws.{found_is, none_found}
use Rattle.lxt_format.specs.declared.TextPlace.{TextPlace}
use Rattle.lxt_format.specs.declared.TextPlace.TheVariants.{File, Lent, OtherKind}
use Rattle.lxt_format.specs.declared.refusal.Refusal.{Refusal}
use Rattle.lxt_reader.specs.Changing.{chain_at}
use Rattle.lxt_reader.proofs.ChangeWays.{Chained, chain_refused}
use Rattle.lxt_reader.specs.Reading.{TextThere, text_length}
use Rattle.lxt_reader.specs.declared.changes.Chain.{Chain}
use Rattle.lxt_reader.proofs.ValueWays.{tables_are, change_is, latest_fine}

-- ---- the text of a change

module _ (s : List ℕ) (end o : ℕ) (w : TextThere s end o) (start size : ℕ) (es : start ≡ data_at s o) (ez : size ≡ to_zero (slice start end s)) where
  same_size : size ≡ to_zero (slice (data_at s o) end s)
  same_size = ez ∙ rw es

  pub size_small : size < 4294967296
  size_small = omega (arith, same_size, w.small)

  pub text_is : File start size ≡ File (data_at s o) (text_length s end o)
  text_is = rw (same_size, es)

-- ---- where the text stands

pub text_refused : (s : List ℕ) (f : ℕ) (t : ℤ) (lent n : ℕ) → refused n ≡ answer (facility_refusal s f) (chain_at s f) → refused n ≡ text_asked s f t lent
unfolding text_asked
text_refused s f t lent n h = chain_refused s f _ n h

module _ (s : List ℕ) (f : ℕ) (t : ℤ) (lent : ℕ) (c : Chain) (w : Chained s f c) where
  says : (x : TextSource) → text_at s (root_of s f) t lent ≡ x → given x ≡ text_asked s f t lent
  unfolding text_asked
  says x e = rw (← e) (sym (answer_given (facility_refusal s f) _ w.fine))

  own_kind : (kind : Kind) → kind ≡ c.facts.kind → kind ≡ (own_facts s (root_of s f)).kind
  unfolding facts_of
  own_kind kind e = e ∙ ap (λ a. a.kind) w.facts

  pub text_another : (c.facts.kind ≡ Text → ⊥) → given other_kind ≡ text_asked s f t lent
  text_another k = says other_kind (text_other s (root_of s f) t lent (λ e. k (own_kind _ refl ∙ e)))

  module _ (e : c.facts.kind ≡ Text) (o : Option ℕ) (visited : ℕ) (found : (o ≡ found_at (latest_at s t (chain_of s c.start))) × (visited ≡ visited_in s t (chain_of s c.start))) where
    text_kind : (own_facts s (root_of s f)).kind ≡ Text
    text_kind = sym (own_kind _ refl) ∙ e

    at_change : o ≡ found_at (change_at s (root_of s f) t)
    at_change = change_is s f t c w o visited found

    pub text_lent : o ≡ None → given (lent_text lent) ≡ text_asked s f t lent
    text_lent z = says (lent_text lent) (text_start s (root_of s f) t text_kind lent (none_found (sym at_change ∙ z)))

    module _ (p : ℕ) (some : o ≡ Some p) where
      there : (p ≡ change_at s (root_of s f) t) × (change_at s (root_of s f) t ≡ 0 → ⊥)
      there = found_is (sym at_change ∙ some)

      place_is : in_file (data_at s p) (text_length s c.tables.end p) ≡ text_at s (root_of s f) t lent
      place_is =
          let k = tables_are s f c w in
          rw (there.0, k.end) (sym (text_driven s (root_of s f) t text_kind lent there.1))

      pub text_there : TextThere s c.tables.end p
      text_there =
          let k = tables_are s f c w in
          let inside = text_inside s f t w.fine text_kind there.1 in
          let low : data_at s p + to_zero (slice (data_at s p) c.tables.end s) + 1 ≤ end_of s = rw (there.0, k.end) inside in
          record {
            start = omega (arith, (latest_fine s f t c w o visited found p some).before, k.end_high, k.end);
            within = omega (arith, k.end_high);
            small = omega (arith, low, k.end_high, k.end, k.long);
          }

      pub text_found : (place : TextPlace) → place ≡ File (data_at s p) (text_length s c.tables.end p) → text_says (Ok place) ≡ text_asked s f t lent
      text_found place e = rw e (says _ (sym place_is))

-- ---- the part

-- a part from a place on is the part between two places
between : (start size : ℕ) (s : List ℕ) → start ≤ length s → take (start + size - start) (drop start s) ≡ slice start (start + size) s
between start size s l =
    let a : start + size - start ≡ size = omega arith in
    rw (a, take-add start size s) (sym (drop_at (take start s) (take size (drop start s)) start (length-take-le start s l)))

-- by what was answered of the place, at a time that is read back from its bits
module _ (s : List ℕ) (f : ℕ) (t : ℤ) (fits : SFits w64 t) (text : List ℕ) (place : Result TextPlace Refusal) (asked : text_says place ≡ text_asked s f (to_z w64 (of_z w64 t)) (length text)) where
  at_time : text_says place ≡ text_asked s f t (length text)
  at_time = asked ∙ ap (λ z. text_asked s f z (length text)) (to_z-of_z w64 t fits)

  place_in : (start size : ℕ) → place ≡ Ok (File start size) → start + size + 1 ≤ length s
  unfolding zero_end
  place_in start size e =
      let says : given (in_file start size) ≡ text_asked s f t (length text) = sym (ap text_says e) ∙ at_time in
      rw (← says) at (part_inside_lem s f t (length text)).1

  pub part_in : (start size : ℕ) → place ≡ Ok (File start size) → start + size ≤ length s
  part_in start size e = omega (arith, place_in start size e)

  module _ (file lent : ℕ × ℕ) where
    part_is : (a : Answer TextSource) → text_says place ≡ a → (part : List ℕ) (at : ℕ × ℕ) → part ≡ part_by s text a → at ≡ place_by file lent a
        → (part ≡ text_part s f t text) × (at ≡ place_by file lent (text_asked s f t (length text)))
    unfolding text_part
    part_is a e part at ep ea = (ep ∙ rw (← at_time, e), ea ∙ rw (← at_time, e))

    pub part_of_file : (start size : ℕ) → place ≡ Ok (File start size)
        → (take (start + size - start) (drop start s) ≡ text_part s f t text) × ((file.0, start + file.1) ≡ place_by file lent (text_asked s f t (length text)))
    unfolding part_by place_by
    part_of_file start size e =
        let swap : start + file.1 ≡ file.1 + start = omega arith in
        part_is (given (in_file start size)) (ap text_says e) _ _ (between start size s (omega (arith, place_in start size e))) (rw swap)

    pub part_lent : (size : ℕ) → place ≡ Ok (Lent size) → (text ≡ text_part s f t text) × (lent ≡ place_by file lent (text_asked s f t (length text)))
    unfolding part_by place_by
    part_lent size e = part_is (given (lent_text size)) (ap text_says e) text lent refl refl

    pub part_of_other : place ≡ Ok OtherKind → ([] ≡ text_part s f t text) × (lent ≡ place_by file lent (text_asked s f t (length text)))
    unfolding part_by place_by
    part_of_other e = part_is (given other_kind) (ap text_says e) [] lent refl refl

    pub part_refused : (e : Refusal) → place ≡ Err e → ([] ≡ text_part s f t text) × (lent ≡ place_by file lent (text_asked s f t (length text)))
    unfolding part_by place_by
    part_refused d e = part_is (refused (refusal_number d)) (ap text_says e) [] lent refl refl
