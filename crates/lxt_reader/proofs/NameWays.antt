-- A law for each way out of the questions on a name.
use Prim.Native.Nat.{ℕ, ◌+◌, ◌-◌, ◌≤◌, ◌<◌}
use mathlib.Core.Path.{◌≡◌, refl, sym, ◌∙◌}
use mathlib.Core.List.{List, [], ◌++◌}
use lib.ListN.{length, take, drop, replicate}
use lib.Seq.{slice, take-append_seam}
use lib.Dec.{leb, eqb, lit<}
use native.Mathlib.Omega.{arith}
use borrow.Author.Tests.{le-leb, lt-leb, leb-true}
use Rattle.std.specs.Prelude.{Result, Ok, Err}
use Rattle.std.specs.Result.{result_unwrap_or}
use Rattle.lxt_format.specs.Basics.{◌unless◌, Answer, given, refused, answer, lent_after}
use Rattle.lxt_format.specs.BasicsLaws.{on_test, neither, kept, answer_given, was_given, was_refused, passed_on, same_refusal}
use Rattle.lxt_format.specs.Limits.{longest_name}
use Rattle.lxt_format.specs.Bytes.{u32_at}
use Rattle.lxt_format.specs.Names.{name_table, names_allowed, name_of}
use Rattle.lxt_format.specs.NamesLaws.{names_short}
use Rattle.lxt_format.specs.Questions.{facility_refusal, name_refusal, name_asked, name_buffer, name_part, holding_name}
use Rattle.lxt_values.specs.Names as N
use Rattle.lxt_values.specs.Names.{name_at, name_is}
use Rattle.lxt_format.specs.Sections.{section_of, end_of, facility_count}
use Rattle.lxt_format.proofs.JudgeLaws.{passed, passed_located, accepted}
use Rattle.lxt_format.specs.Answers.{says}
use Rattle.lxt_format.specs.declared.refusal.Refusal.{Refusal}
use Rattle.lxt_reader.specs.Asking.{asked_of, asked, name_place}
use Rattle.lxt_reader.specs.declared.facilities.Asked.{Asked}
use Rattle.lxt_reader.specs.declared.names.NamePlace.{NamePlace}
use Rattle.lxt_reader.proofs.AskWays.{nothing_refused, all_known, below_of, file_of}

-- ---- the ways out of `find`

pub name_refused : (s : List ℕ) (f room n : ℕ) → refused n ≡ asked s f → refused n ≡ answer (name_refusal s f room) (name_place s)
unfolding name_refusal
name_refused s f room n h = passed_on (facility_refusal s f) (21 unless leb longest_name room) n (asked_of s f) (name_place s) h

module _ (s : List ℕ) (f room : ℕ) (a : Asked) (h : given a ≡ asked s f) where
  pub no_room : room < longest_name → refused 21 ≡ answer (name_refusal s f room) (name_place s)
  unfolding name_refusal
  no_room l = rw (nothing_refused s f a h, lt-leb longest_name room l)

  pub head_there : (a.tables.names + 4) + 4 ≤ length s
  head_there = let k = all_known s f a h in omega (arith, k.names_high, k.end_high)

  pub name_found : longest_name ≤ room → (m : ℕ) → m ≡ u32_at s (a.tables.names + 4)
      → given (record { at = a.tables.names + 8; end = a.tables.end; facilities = a.tables.facilities; memory = m }) ≡ answer (name_refusal s f room) (name_place s)
  unfolding name_refusal name_place
  name_found l m em =
      let k = all_known s f a h in
      rw (nothing_refused s f a h, le-leb longest_name room l, em, k.names, k.end, k.facilities)

-- ---- the ways out of the questions

module _ (s : List ℕ) (f : ℕ) (buffer : List ℕ) where
  pub length_refused : (n : ℕ) → refused n ≡ answer (name_refusal s f (length buffer)) (name_place s)
      → (refused n ≡ name_asked s f (length buffer)) × (buffer ≡ name_buffer s f buffer)
  unfolding name_asked name_buffer
  length_refused n h =
      let w = was_refused (name_refusal s f (length buffer)) n (name_place s) h in
      (same_refusal (name_refusal s f (length buffer)) (name_refusal s f (length buffer)) n (name_place s) _ refl h, sym (kept_as_was w.1))
    where
      kept_as_was : (name_refusal s f (length buffer) ≡ 0 → ⊥) → lent_after (name_refusal s f (length buffer)) (holding_name (name_of s f) buffer) buffer ≡ buffer
      kept_as_was m = simp (borrow.Author.Tests.ne_eqb _ _ m)

  module _ (p : NamePlace) (h : given p ≡ answer (name_refusal s f (length buffer)) (name_place s)) where
    fine : name_refusal s f (length buffer) ≡ 0
    fine = (was_given (name_refusal s f (length buffer)) (name_place s) p h).0

    place_is : p ≡ name_place s
    place_is = (was_given (name_refusal s f (length buffer)) (name_place s) p h).1

    parts : (facility_refusal s f ≡ 0) × ((21 unless leb longest_name (length buffer)) ≡ 0)
    unfolding name_refusal
    parts = neither (facility_refusal s f) (21 unless leb longest_name (length buffer)) fine

    room_enough : longest_name ≤ length buffer
    room_enough = leb-true _ _ (kept 21 _ (lit< tt) parts.1)

    pub expand_asks : N.Named s p.at p.end p.facilities p.memory f × (longest_name ≤ length buffer)
    unfolding name_place
    expand_asks =
        let k = passed s (accepted s (file_of s f parts.0)).tables in
        let l = passed_located s k in
        let named : N.Named s (section_of s 0x03 + 8) (end_of s) (facility_count s) (u32_at s (section_of s 0x03 + 4)) f =
        record {
          start = l.names_high;
          inside = omega (arith, l.end_high);
          allowed = (unfold names_allowed name_table in k.names);
          number = below_of s f parts.0;
        } in
        (rw place_is named, room_enough)

    name_there : name_at s p.at p.end p.facilities f ≡ name_of s f
    unfolding name_place
    name_there = rw place_is (name_is s f)

    pub length_small : (n : ℕ) → n ≡ length (name_at s p.at p.end p.facilities f) → n ≤ longest_name
    unfolding name_at
    length_small n e = rw e (names_short p.facilities (slice p.at p.end s) [] f)

    pub length_given : (n : ℕ) (after : List ℕ) → n ≡ length (name_at s p.at p.end p.facilities f) → after ≡ holding_name (name_at s p.at p.end p.facilities f) buffer
        → (given n ≡ name_asked s f (length buffer)) × (after ≡ name_buffer s f buffer)
    unfolding name_asked name_buffer
    length_given n after en ea =
        (sym (answer_given (name_refusal s f (length buffer)) _ fine ∙ rw (en, name_there)), ea ∙ rw (name_there, fine))

-- ---- the part

-- a buffer that holds a name begins with it
front : (name d : List ℕ) → take (length name) (holding_name name d) ≡ name
unfolding holding_name
front name d = take-append_seam name (replicate (longest_name - length name) 0 ++ drop longest_name d)

-- the length that is answered, 0 where the question is refused
length_in : Answer ℕ → ℕ
length_in (given k) = k
length_in (refused n) = 0

module _ (s : List ℕ) (f : ℕ) (buffer : List ℕ) (r : Result ℕ Refusal) (is : says r ≡ name_asked s f (length buffer)) (k : ℕ) (ek : k ≡ result_unwrap_or r 0) where
  length_is : k ≡ length_in (name_asked s f (length buffer))
  unfolding length_in
  length_is = rw (← is) (by_cases r ek)
    where
      by_cases : (q : Result ℕ Refusal) → k ≡ result_unwrap_or q 0 → k ≡ length_in (says q)
      by_cases (Ok n) e = e
      by_cases (Err d) e = e

  -- the first bytes of the buffer that asking for the length leaves, as many as it answered, are the name; none where it refused
  pub part_is : (after : List ℕ) → after ≡ name_buffer s f buffer → take k after ≡ name_part s f (length buffer)
  unfolding name_asked name_buffer name_part length_in
  part_is after ea =
      on_test (eqb (name_refusal s f (length buffer)) 0) (λ e. rw (length_is, ea, e) (front (name_of s f) buffer)) (λ e. rw (length_is, ea, e))

  -- it has the length that was answered
  pub part_length : (after : List ℕ) → after ≡ name_buffer s f buffer → k ≡ length (take k after)
  unfolding name_asked name_part length_in
  part_length after ea =
      let same = part_is after ea in
      on_test (eqb (name_refusal s f (length buffer)) 0) (λ e. length_is ∙ rw (same, e)) (λ e. length_is ∙ rw (same, e))
