-- What `start` and `carry_on` need of lists: a record's first `room` pairs, taken apart into numbers and offsets and put together again, give what the whole record gives. No file has more than 4,096
-- facilities, so the pairs past `room` are never used.
-- Assumes nothing.
use Prim.Native.Nat.{ℕ, zero, suc, ◌+◌, ◌≤◌, ◌<◌, min}
use native.Mathlib.Omega.{arith}
use native.Mathlib.Decide.{dec_le}
use mathlib.Core.Path.{◌≡◌, refl, sym, ◌∙◌, ap}
use mathlib.Core.Bool.{Bool, true}
use mathlib.Core.List.{List, [], ◌∷◌, ◌++◌, append_assoc, append-nil}
use lib.ListN.{length, get_or, take, drop, take-append-drop, length-map, drop_of_length-le}
use lib.Seq.{length-take-le, take_all, take_at, take-take, get_or-take, drop-append-le}
use lib.Dec.{leb, eqb, lit<}
use borrow.Author.Tests.{leb-true, le-leb, lt-leb, eqb-true}
use Rattle.lxt_format.specs.Limits.{most_facilities}
use Rattle.lxt_format.specs.Basics.{range, all, ◌unless◌}
use Rattle.lxt_format.specs.BasicsLaws.{on_test, on_zero, and_both, stops, neither, kept, all_range}
use Rattle.lxt_format.specs.Sections.{facility_count}
use Rattle.lxt_format.specs.Judge.{tables_refusal, file_refusal}
use Rattle.lxt_format.proofs.JudgeLaws.{passed, passed_count, accepted}
use Rattle.lxt_format.specs.Columns.{paired, numbers_in, offsets_in, onto}
use Rattle.lxt_format.specs.Walk.{numbered, with_offsets, offsets_of, start_offsets, pair_allowed, record_allowed, offsets_after}
use Rattle.lxt_format.specs.Questions.{start_refusal, start_asked, start_record, carry_refusal, carry_pairs, carry_offsets, carry_asked, carry_record, carry_output}
use Rattle.lxt_format.specs.declared.Pair.{Pair}
use Rattle.std.specs.Prelude.{Result}
use Rattle.lxt_format.specs.declared.Handed.{Handed as HandedOut}
use Rattle.lxt_format.specs.declared.refusal.Refusal.{Refusal}
use Rattle.lxt_format.specs.Answers.{says, carry_says}
use Rattle.lxt_chains.proofs.Bridge.{length_start}
use Rattle.lxt_walk.specs.Calls.{Starts, Carries}
use Rattle.lxt_walk.proofs.Handed.{length_after}
use Rattle.lxt_walk.proofs.Record.{length_with}
use Rattle.lxt_walk.proofs.ColumnsLaws.{length_paired, get_d_paired, take_paired, length_numbers, length_offsets, paired_columns, numbers_paired, numbers_with}
use Rattle.lxt_record.specs.Rooms.{none, over}

-- ---- pairs and their numbers and offsets

-- the first elements of a copy are those copied
take_over : {A : Type 0} (d s : List A) (n : ℕ) → n ≤ length s → take n (over d s n) ≡ take n s
take_over d s n h = take_at (take n s) (drop n d) n (length-take-le n s h)

-- numbers and offsets copied from a record's first pairs are those pairs
pub unzipped : (ts : List Pair) (d e : List ℕ) (n : ℕ) → n ≤ length ts → paired (take n (over d (numbers_in ts) n)) (take n (over e (offsets_in ts) n)) ≡ take n ts
unzipped ts d e n h =
    let a : n ≤ length (numbers_in ts) = rw (length-map ts (λ (p : Pair). p.number)) h in
    let b : n ≤ length (offsets_in ts) = rw (length-map ts (λ (p : Pair). p.offset)) h in
    rw (take_over d (numbers_in ts) n a, take_over e (offsets_in ts) n b) (sym (take_paired n (numbers_in ts) (offsets_in ts)) ∙ ap (take n) (paired_columns ts))

-- ---- the first `room` pairs, and the rest

drop_take : {A : Type 0} (n room : ℕ) (l : List A) → n ≤ room → room ≤ length l → drop n (take room l) ++ drop room l ≡ drop n l
drop_take n room l h k =
    sym (drop-append-le n (take room l) (drop room l) (rw (length-take-le room l k) h)) ∙ ap (drop n) (take-append-drop room l)

-- other pending offsets of the first pairs are other pending offsets of all
with_room : (ts : List Pair) (os : List ℕ) (room : ℕ) → length os ≤ room → room ≤ length ts → with_offsets (take room ts) os ++ drop room ts ≡ with_offsets ts os
unfolding with_offsets
with_room ts os room h k = append_assoc (numbered 0 os) (drop (length os) (take room ts)) (drop room ts) ∙ ap (λ (l : List Pair). numbered 0 os ++ l) (drop_take (length os) room ts h k)

offsets_room : (n room : ℕ) (ts : List Pair) → n ≤ room → offsets_of n (take room ts) ≡ offsets_of n ts
unfolding offsets_of
offsets_room n room ts h = rw (take-take n room ts h)

length_pending : (n : ℕ) (ts : List Pair) → n ≤ length ts → length (offsets_of n ts) ≡ n
unfolding offsets_of
length_pending n ts h = length-map (take n ts) (λ (p : Pair). p.offset) ∙ length-take-le n ts h

-- tests that agree on a range
all_same : (p q : ℕ → Bool) (i k : ℕ) → ((j : ℕ) → i ≤ j → j < i + k → p j ≡ q j) → all p (range i k) ≡ all q (range i k)
unfolding all range
all_same p q i zero h = refl
all_same p q i (suc k) h = let r = all_same p q (suc i) k (λ j a b. h j (omega arith) (omega arith)) in rw (h i (omega arith) (omega arith), r)

allowed_room : (s : List ℕ) (ts : List Pair) (room : ℕ) → facility_count s ≤ room → record_allowed s (take room ts) ≡ record_allowed s ts
unfolding record_allowed
allowed_room s ts room h = all_same _ _ 0 (facility_count s) (λ f a b. ap (pair_allowed s f) (get_or-take room ts f none (omega arith)))

-- ---- the room of a record

-- no more than the pairs, and no more than the most facilities
pub room_fits : (r k : ℕ) → r ≡ min k most_facilities → (r ≤ k) × (r ≤ most_facilities)
room_fits r k e = (omega (arith, e), omega (arith, e))

count_room : (n k r : ℕ) → n ≤ most_facilities → r ≡ min k most_facilities → leb n r ≡ leb n k
count_room n k r h e = elim (dec_le n k) [ yes a ↦ le-leb n r (omega (arith, e)) ∙ sym (le-leb n k a) | no a ↦ lt-leb n r (omega (arith, e)) ∙ sym (lt-leb n k (omega (arith, a))) ]

-- ---- starting and carrying on over the first `room` pairs

module _ (s : List ℕ) (ts : List Pair) (room : ℕ) (e : room ≡ min (length ts) most_facilities) where
  fits : room ≤ length ts
  fits = (room_fits room (length ts) e).0

  abbrev n : ℕ
  n = facility_count s

  start_refusal_lem : (asked : List ℕ) → start_refusal s asked room ≡ start_refusal s asked (length ts)
  unfolding start_refusal
  start_refusal_lem asked =
      on_zero (file_refusal s) (λ h. rw (count_room n (length ts) room (passed_count s (passed s (accepted s h).tables)) e))
      (λ h. stops (file_refusal s) _ (omega (arith, h)) ∙ sym (stops (file_refusal s) _ (omega (arith, h))))

  start_count : (asked : List ℕ) → start_refusal s asked (length ts) ≡ 0 → n ≤ room
  unfolding start_refusal
  start_count asked h =
      let a = neither _ _ h in
      let b = neither _ _ a.1 in
      omega (arith, e, leb-true n (length ts) (kept 21 _ (lit< tt) b.0), passed_count s (passed s (accepted s a.0).tables))

  start_asked_lem : (asked : List ℕ) → start_asked s asked room ≡ start_asked s asked (length ts)
  unfolding start_asked
  start_asked_lem asked = rw (start_refusal_lem asked)

  start_record_lem : (asked : List ℕ) → start_record s asked (take room ts) ++ drop room ts ≡ start_record s asked ts
  unfolding start_record
  start_record_lem asked =
      rw (length-take-le room ts fits, start_refusal_lem asked)
      (on_test (eqb (start_refusal s asked (length ts)) 0)
      (λ t. rw t (with_room ts (start_offsets s asked) room (rw (length_start s asked) (start_count asked (eqb-true _ _ t))) fits))
      (λ t. rw t (take-append-drop room ts)))

  carry_refusal_lem : (size out : ℕ) → carry_refusal s (take room ts) size out ≡ carry_refusal s ts size out
  unfolding carry_refusal
  carry_refusal_lem size out =
      on_zero (tables_refusal s)
      (λ h. let c = passed_count s (passed s h) in
      on_test (leb n (length ts))
      (λ t. rw (length-take-le room ts fits, count_room n (length ts) room c e, allowed_room s ts room (omega (arith, e, c, leb-true n (length ts) t))))
      (λ t. rw (length-take-le room ts fits, count_room n (length ts) room c e, t)))
      (λ h. stops (tables_refusal s) _ (omega (arith, h)) ∙ sym (stops (tables_refusal s) _ (omega (arith, h))))

  carry_count : (size out : ℕ) → carry_refusal s ts size out ≡ 0 → n ≤ room
  unfolding carry_refusal
  carry_count size out h =
      let a = neither _ _ h in
      let b = neither _ _ a.1 in
      omega (arith, e, leb-true n (length ts) (kept 21 _ (lit< tt) b.0), passed_count s (passed s a.0))

  carry_asked_lem : (size out : ℕ) → carry_asked s (take room ts) size out ≡ carry_asked s ts size out
  unfolding carry_asked carry_pairs carry_offsets
  carry_asked_lem size out =
      rw (carry_refusal_lem size out)
      (on_test (eqb (carry_refusal s ts size out) 0) (λ t. rw (t, offsets_room n room ts (carry_count size out (eqb-true _ _ t)))) (λ t. rw t))

  carry_output_lem : (size : ℕ) (out : List ℕ) → carry_output s (take room ts) size out ≡ carry_output s ts size out
  unfolding carry_output carry_pairs
  carry_output_lem size out =
      rw (carry_refusal_lem size (length out))
      (on_test (eqb (carry_refusal s ts size (length out)) 0) (λ t. rw (t, offsets_room n room ts (carry_count size (length out) (eqb-true _ _ t)))) (λ t. rw t))

  carry_record_lem : (size out : ℕ) → carry_record s (take room ts) size out ++ drop room ts ≡ carry_record s ts size out
  unfolding carry_record carry_offsets
  carry_record_lem size out =
      rw (carry_refusal_lem size out)
      (on_test (eqb (carry_refusal s ts size out) 0)
      (λ t. let c = carry_count size out (eqb-true _ _ t) in
      let l : length (offsets_after s size (offsets_of n ts)) ≤ room = omega (arith, length_after s size (offsets_of n ts), length_pending n ts (omega (arith, c, fits)), c) in
      rw (t, offsets_room n room ts c) (with_room ts (offsets_after s size (offsets_of n ts)) room l fits))
      (λ t. rw t (take-append-drop room ts)))

  -- ---- the frames: what `unzip`, the work and `zip` promise together

  module _ (d xs zs : List ℕ) (e₁ : (xs ≡ over d (numbers_in ts) room) × (zs ≡ over d (offsets_in ts) room)) where
    apart : paired (take room xs) (take room zs) ≡ take room ts
    apart = (λ i. paired (take room (e₁.0 i)) (take room (e₁.1 i))) ∙ unzipped ts d d room fits

    together : (ns os : List ℕ) (l ts' : List Pair) → paired (take room ns) (take room os) ≡ l → ts' ≡ over ts (paired ns os) room → ts' ≡ l ++ drop room ts
    together ns os l ts' a b = b ∙ ap (λ (m : List Pair). m ++ drop room ts) (take_paired room ns os ∙ a)

    pub started : (asked : List ℕ) (r : Result (Unit {0}) Refusal) (xs₂ zs₂ : List ℕ) (ts₃ : List Pair)
        → (says r ≡ start_asked s asked room) × (paired (take room xs₂) (take room zs₂) ≡ start_record s asked (paired (take room xs) (take room zs)))
        → ts₃ ≡ over ts (paired xs₂ zs₂) room → Starts s asked ts r ts₃
    started asked r xs₂ zs₂ ts₃ e₂ e₃ = (e₂.0 ∙ start_asked_lem asked, together xs₂ zs₂ _ ts₃ (e₂.1 ∙ ap (start_record s asked) apart) e₃ ∙ start_record_lem asked)

    pub carried : (size : ℕ) (out out' : List ℕ) (r : Result HandedOut Refusal) (zs₂ : List ℕ) (ts₃ : List Pair)
        → (carry_says r ≡ carry_asked s (paired (take room xs) (take room zs)) size (length out))
        × ((out' ≡ carry_output s (paired (take room xs) (take room zs)) size out) × (paired (take room xs) (take room zs₂) ≡ carry_record s (paired (take room xs) (take room zs)) size (length out)))
        → ts₃ ≡ over ts (paired xs zs₂) room → Carries s ts size out r out' ts₃
    carried size out out' r zs₂ ts₃ e₂ e₃ = (
      e₂.0 ∙ ap (λ (l : List Pair). carry_asked s l size (length out)) apart ∙ carry_asked_lem size (length out),
      (
        e₂.1.0 ∙ ap (λ (l : List Pair). carry_output s l size out) apart ∙ carry_output_lem size out,
        together xs zs₂ _ ts₃ (e₂.1.1 ∙ ap (λ (l : List Pair). carry_record s l size (length out)) apart) e₃ ∙ carry_record_lem size (length out),
      ),
    )

-- ---- the work over the first `room` numbers and offsets

-- a list that is replaced whole
onto_all : {A : Type 0} (l r : List A) → length l ≡ length r → onto l r ≡ l
onto_all l r h = ap (λ q. l ++ q) (drop_of_length-le r {i = length l} (omega (arith, h))) ∙ append-nil l

-- numbers that stand in order
in_order : (i k : ℕ) (l : List ℕ) → k ≤ length l → ((f : ℕ) → f < k → get_or l f 0 ≡ i + f) → take k l ≡ range i k
unfolding range
in_order i zero l h each = refl
in_order i (suc k) [] h each = absurd (omega arith)
in_order i (suc k) (x ∷ l) h each =
    let first : x ≡ i = omega (arith, each 0 (omega arith)) in
    let rest = in_order (suc i) k l (omega arith) (λ f a. let e = each (suc f) (omega arith) in omega (arith, e)) in
    rw (first, rest)

-- a start keeps the record's length
length_started : (s asked : List ℕ) (ts : List Pair) → length (start_record s asked ts) ≡ length ts
unfolding start_record start_refusal
length_started s asked ts =
    on_test (eqb (start_refusal s asked (length ts)) 0)
    (λ t. let a = neither (file_refusal s) _ (eqb-true _ _ t) in
    let b = neither (21 unless leb (facility_count s) (length ts)) _ a.1 in
    rw t (length_with ts (start_offsets s asked) (rw (length_start s asked) (leb-true (facility_count s) (length ts) (kept 21 _ (lit< tt) b.0)))))
    (λ t. rw t)

module _ (s ns os : List ℕ) (room : ℕ) (hn : room ≤ length ns) (ho : room ≤ length os) where
  -- the pairs
  abbrev part : List Pair
  part = paired (take room ns) (take room os)

  length_part : length part ≡ room
  length_part = length_paired (take room ns) (take room os) ∙ rw (length-take-le room ns hn, length-take-le room os ho) (omega arith)

  module _ (after : List Pair) (same : length after ≡ length part) where
    -- a part of the numbers, or of the offsets, that is replaced whole
    numbers_part : (l : List ℕ) → l ≡ onto (numbers_in after) (take room ns) → take room (l ++ drop room ns) ≡ numbers_in after
    numbers_part l e =
        let long : length (numbers_in after) ≡ room = length_numbers after ∙ same ∙ length_part in
        let whole : l ≡ numbers_in after = e ∙ onto_all (numbers_in after) (take room ns) (long ∙ sym (length-take-le room ns hn)) in
        rw whole (take_at (numbers_in after) (drop room ns) room long)

    offsets_part : (l : List ℕ) → l ≡ onto (offsets_in after) (take room os) → take room (l ++ drop room os) ≡ offsets_in after
    offsets_part l e =
        let long : length (offsets_in after) ≡ room = length_offsets after ∙ same ∙ length_part in
        let whole : l ≡ offsets_in after = e ∙ onto_all (offsets_in after) (take room os) (long ∙ sym (length-take-le room os ho)) in
        rw whole (take_at (offsets_in after) (drop room os) room long)

  pub start_in : (asked : List ℕ) (r : Result (Unit {0}) Refusal) (l m : List ℕ)
      → says r ≡ start_asked s asked (length part) → l ≡ onto (numbers_in (start_record s asked part)) (take room ns) → m ≡ onto (offsets_in (start_record s asked part)) (take room os)
      → (says r ≡ start_asked s asked room) × (paired (take room (l ++ drop room ns)) (take room (m ++ drop room os)) ≡ start_record s asked part)
  start_in asked r l m e₀ e₁ e₂ =
      let after = start_record s asked part in
      let same = length_started s asked part in (
        e₀ ∙ ap (start_asked s asked) length_part,
        (λ i. paired (numbers_part after same l e₁ i) (offsets_part after same m e₂ i)) ∙ paired_columns after,
      )

  -- a call that carries on keeps the record's length
  length_carried : (size out : ℕ) → length (carry_record s part size out) ≡ length part
  unfolding carry_record carry_refusal carry_offsets
  length_carried size out =
      on_test (eqb (carry_refusal s part size out) 0)
      (λ t. let a = neither (tables_refusal s) _ (eqb-true _ _ t) in
      let b = neither (21 unless leb (facility_count s) (length part)) _ a.1 in
      let c : facility_count s ≤ length part = leb-true (facility_count s) (length part) (kept 21 _ (lit< tt) b.0) in
      let l : length (offsets_after s size (offsets_of (facility_count s) part)) ≤ length part = omega (arith, length_after s size (offsets_of (facility_count s) part), length_pending (facility_count s) part c, c) in
      rw t (length_with part (offsets_after s size (offsets_of (facility_count s) part)) l))
      (λ t. rw t)

  -- and its numbers
  numbers_carried : (size out : ℕ) → numbers_in (carry_record s part size out) ≡ take room ns
  unfolding carry_record carry_refusal carry_offsets record_allowed pair_allowed
  numbers_carried size out =
      on_test (eqb (carry_refusal s part size out) 0)
      (λ t. let a = neither (tables_refusal s) _ (eqb-true _ _ t) in
      let b = neither (21 unless leb (facility_count s) (length part)) _ a.1 in
      let d = neither (20 unless record_allowed s part) _ b.1 in
      let c : facility_count s ≤ length part = leb-true (facility_count s) (length part) (kept 21 _ (lit< tt) b.0) in
      let given : List ℕ = offsets_after s size (offsets_of (facility_count s) part) in
      let long : length given ≡ facility_count s = length_after s size (offsets_of (facility_count s) part) ∙ length_pending (facility_count s) part c in
      let order : take (facility_count s) (take room ns) ≡ range 0 (facility_count s) = in_order 0 (facility_count s) (take room ns) (omega (arith, c, length_part, length-take-le room ns hn)) (each c (kept 20 _ (lit< tt) d.0)) in
      rw t (
      sym (onto_all (numbers_in (with_offsets part given)) (take room ns) (length_numbers (with_offsets part given) ∙ length_with part given (omega (arith, long, c)) ∙ length_part ∙ sym (length-take-le room ns hn)))
      ∙ numbers_with (take room ns) (take room os) given
      ∙ ap (λ k. onto (range 0 k) (take room ns)) long
      ∙ ap (λ l. onto l (take room ns)) (sym order)
      ∙ ap (λ k. take (facility_count s) (take room ns) ++ drop k (take room ns)) (length-take-le (facility_count s) (take room ns) (omega (arith, c, length_part, length-take-le room ns hn)))
      ∙ take-append-drop (facility_count s) (take room ns)))
      (λ t. rw t (numbers_paired (take room ns) (take room os) ∙ take_all (length (take room os)) (take room ns) (omega (arith, length-take-le room ns hn, length-take-le room os ho))))
    where
      each : facility_count s ≤ length part → record_allowed s part ≡ true → (f : ℕ) → f < facility_count s → get_or (take room ns) f 0 ≡ 0 + f
      each c h f l =
          let p = and_both (eqb (get_or part f none).number f) _ (all_range _ 0 (facility_count s) h f (omega arith) (omega (arith, l))) in
          let e : (get_or part f none).number ≡ get_or (take room ns) f 0 =
          ap (λ (q : Pair). q.number) (get_d_paired (take room ns) (take room os) f none (omega (arith, c, l, length_part, length-take-le room ns hn)) (omega (arith, c, l, length_part, length-take-le room os ho))) in
          let n = eqb-true (get_or part f none).number f p.0 in
          omega (arith, e, n)

  pub carry_in : (size : ℕ) (out out' : List ℕ) (r : Result HandedOut Refusal) (m : List ℕ)
      → carry_says r ≡ carry_asked s part size (length out) → m ≡ onto (offsets_in (carry_record s part size (length out))) (take room os) → out' ≡ carry_output s part size out
      → (carry_says r ≡ carry_asked s part size (length out)) × ((out' ≡ carry_output s part size out) × (paired (take room ns) (take room (m ++ drop room os)) ≡ carry_record s part size (length out)))
  carry_in size out out' r m e₀ e₁ e₂ =
      let after = carry_record s part size (length out) in (
        e₀,
        (
          e₂,
          (λ i. paired (sym (numbers_carried size (length out)) i) (offsets_part after (length_carried size (length out)) m e₁ i)) ∙ paired_columns after,
        ),
      )
