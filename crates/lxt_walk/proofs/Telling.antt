-- The proof of demand 3: what the record is where e pairs of the full list were handed out, what one call makes of it, and so any list of calls.
use Prim.Native.Nat.{ℕ, ◌+◌, ◌*◌, ◌-◌, ◌≤◌, ◌<◌, min, zero-le}
use native.Mathlib.Omega.{arith}
use mathlib.Core.Path.{◌≡◌, refl, sym, ap, ◌∙◌}
use mathlib.Core.Bool.{true, false, true≢false}
use mathlib.Core.List.{List, ◌∷◌, ◌++◌, append_assoc, append-nil}
use lib.ListN.{length, take, drop, length-take, length-drop}
use lib.Seq.{take-add, take_at}
use lib.Dec.{leb, ltb, eqb, lit<}
use borrow.Author.Tests.{leb-true, leb-false, le-leb, ltb-true, ltb-false, eqb-true, eq-eqb}
use Rattle.lxt_format.specs.Basics.{◌unless◌}
use Rattle.lxt_format.specs.BasicsLaws.{on_test, neither, kept}
use Rattle.lxt_format.specs.Sections.{facility_count}
use Rattle.lxt_format.specs.Judge.{file_refusal}
use Rattle.lxt_format.specs.Walk.{asks, sort, full_list, start_offsets, with_offsets, offsets_of, offsets_after, flat}
use Rattle.lxt_format.specs.Answers.{carry_says}
use Rattle.lxt_format.specs.Questions.{start_refusal, start_record, carry_refusal, carry_pairs, carry_offsets, carry_asked, carry_record, carry_output}
use Rattle.lxt_format.specs.declared.Pair.{Pair}
use Rattle.lxt_chains.specs.Pending.{pair_of, pending_changes, first_of}
use Rattle.lxt_chains.proofs.Lists.{each_map, each_drop}
use Rattle.lxt_chains.proofs.Bridge.{full_start, length_start}
use Rattle.lxt_walk.proofs.Handed.{length_after, pending_first, call_hands, call_leaves, call_done}
use Rattle.lxt_format.proofs.JudgeLaws.{passed, accepted}
use Rattle.lxt_format.proofs.WalkLaws.{asked_below}
use Rattle.lxt_walk.proofs.Full.{full_asked, full_allowed, full_falling, falling_at}
use Rattle.lxt_walk.proofs.Record.{length_flat, flat_append, with_here, with_past, length_with, offsets_with, with_again, first_none, record_allowed_lem}
use Rattle.lxt_walk.specs.Calls.{Made, Carried, Kept, Refused, Handed, Told, handed_by, output_of, size_by, sizes_of, pair_at, Ended, Walked}

module _ (s asked : List ℕ) (before : List Pair) (ok : start_refusal s asked (length before) ≡ 0) where
  -- the full list of the walk
  abbrev full : List Pair
  full = full_list s asked

  -- the file is accepted
  file : file_refusal s ≡ 0
  unfolding start_refusal
  file = (neither _ _ ok).0

  -- and the record has a pair for each facility
  wide : facility_count s ≤ length before
  unfolding start_refusal
  wide =
      let a = neither (file_refusal s) _ ok in
      let b = neither (21 unless leb (facility_count s) (length before)) _ a.1 in
      leb-true _ _ (kept 21 _ (lit< tt) b.0)

  -- the record r as it is where the first e pairs of the full list were handed out
  record At (e : ℕ) (r : List Pair) : Type 0 where
    offsets : List ℕ
    is : r ≡ with_offsets before offsets
    count : length offsets ≡ facility_count s
    left : sort (pending_changes s 0 offsets) ≡ drop e full
    within : e ≤ length full

  -- a start leaves it with nothing handed out
  at_start : At 0 (start_record s asked before)
  unfolding start_record
  at_start = record {
    offsets = start_offsets s asked;
    is = rw ok;
    count = length_start s asked;
    left = sym (full_start s asked);
    within = zero-le;
  }

  -- every such record passes check 20, so that carrying on is refused for too little room alone
  at_check : {e : ℕ} {r : List Pair} → At e r → (size room : ℕ) → carry_refusal s r size room ≡ (21 unless leb (2 * size) room)
  unfolding carry_refusal
  at_check {e} a size room =
      let f = accepted s file in
      let long : length (with_offsets before a.offsets) ≡ length before = length_with before a.offsets (omega (arith, wide)) in
      let passes = record_allowed_lem s before a.offsets a.count (rw a.left (each_drop e (full_allowed s asked f.chains))) in
      rw (f.tables, a.is, long, le-leb _ _ wide, passes)

  module _ (e : ℕ) (r : List Pair) (a : At e r) (m : Made) (c : Carried s r m) where
    -- "the smaller of s and L - e"
    abbrev count : ℕ
    count = min m.size (length full - e)

    -- the pending offsets that the call meets
    pending : offsets_of (facility_count s) r ≡ a.offsets
    pending = rw a.is (offsets_with before a.offsets (facility_count s) a.count)

    -- with too little room it is refused
    tight : leb (2 * m.size) (length m.buffer) ≡ false → Refused r m
    unfolding carry_asked carry_output carry_record
    tight b =
        let no : carry_refusal s r m.size (length m.buffer) ≡ 21 = at_check a m.size (length m.buffer) ∙ rw b in
        record {
          short = leb-false _ _ b;
          number = c.0 ∙ rw no;
          same_output = c.1.0 ∙ rw no;
          same_record = c.1.1 ∙ rw no;
        }

    module _ (b : leb (2 * m.size) (length m.buffer) ≡ true) where
      -- with room it is not
      allowed : carry_refusal s r m.size (length m.buffer) ≡ 0
      allowed = at_check a m.size (length m.buffer) ∙ rw b

      -- the pairs that it hands out
      pairs_are : carry_pairs s r m.size ≡ take count (drop e full)
      unfolding carry_pairs
      pairs_are = rw pending (call_hands s full e a.offsets a.left a.within m.size)

      -- the offsets that it leaves
      offsets_are : carry_offsets s r m.size ≡ offsets_after s m.size a.offsets
      unfolding carry_offsets
      offsets_are = rw pending

      -- how many pairs, and how many numbers
      length_pairs : length (take count (drop e full)) ≡ count
      length_pairs = rw (length-take, length-drop) (omega arith)

      length_numbers : length (flat (take count (drop e full))) ≡ 2 * count
      length_numbers = length_flat (take count (drop e full)) ∙ ap (λ k. 2 * k) length_pairs

      -- so it tells what it is to tell
      hands : Handed full e m count
      unfolding carry_asked carry_output
      hands = record {
        room = leb-true _ _ b;
        done = eqb (e + count) (length full);
        answers =
            c.0
            ∙ rw (allowed, pairs_are, length_pairs, offsets_are, call_done s full e a.offsets a.left a.within m.size);
        counts = refl;
        hands_out = c.1.0 ∙ rw (allowed, pairs_are, length_numbers);
        ends = (λ d. eqb-true _ _ d, λ d. eq-eqb _ _ d);
      }

      -- and leaves the record with so many pairs more handed out
      onwards : At (e + count) m.left
      unfolding carry_record
      onwards = record {
        offsets = offsets_after s m.size a.offsets;
        is =
            c.1.1
            ∙ rw (allowed, offsets_are, a.is)
            (with_again before a.offsets (offsets_after s m.size a.offsets) (length_after s m.size a.offsets));
        count = length_after s m.size a.offsets ∙ a.count;
        left = call_leaves s full e a.offsets a.left a.within m.size;
        within = omega (arith, a.within);
      }

      -- its output goes on where that of the calls before it ended
      joins : flat (take e full) ++ handed_by (carry_says m.answer) m.output ≡ flat (take (e + count) full)
      unfolding handed_by
      joins = rw (hands.answers, hands.hands_out, take_at _ _ _ length_numbers, take-add, flat_append)

  -- what calls tell that go on from a record with e pairs handed out
  record Ends (e : ℕ) (r : List Pair) (calls : List Made) (end : List Pair) : Type 0 where
    handed : ℕ
    each : Told full e r calls handed
    joined : flat (take e full) ++ output_of calls ≡ flat (take handed full)
    counted : handed ≡ min (e + sizes_of calls) (length full)
    last : At handed end

  module _ (e : ℕ) (r end : List Pair) (a : At e r) (m : Made) (calls : List Made) (c : Carried s r m) where
    -- a refused call before them
    after_refusal : leb (2 * m.size) (length m.buffer) ≡ false → Ends e m.left calls end → Ends e r (m ∷ calls) end
    unfolding output_of handed_by sizes_of size_by
    after_refusal b w =
        let t = tight e r a m c b in
        record {
          handed = w.handed;
          each = Told.refusal t w.each;
          joined = rw t.number w.joined;
          counted = rw t.number (omega (arith, w.counted));
          last = w.last;
        }

    -- a call before them that hands out
    after_handing : (b : leb (2 * m.size) (length m.buffer) ≡ true) → Ends (e + count e r a m c) m.left calls end → Ends e r (m ∷ calls) end
    unfolding output_of sizes_of size_by
    after_handing b w =
        let h = hands e r a m c b in
        record {
          handed = w.handed;
          each = Told.handing h w.each;
          joined = rw (← append_assoc, joins e r a m c b) w.joined;
          counted = rw h.answers (omega (arith, w.counted, a.within));
          last = w.last;
        }

  -- so all calls that keep their promises tell it
  all_calls : {r end : List Pair} {calls : List Made} (e : ℕ) → At e r → Kept s r calls end → Ends e r calls end
  unfolding output_of sizes_of
  all_calls e a Kept.none = record { handed = e; each = Told.none; joined = append-nil _; counted = omega (arith, a.within); last = a }
  all_calls {r} {end} e a (Kept.call {m = m} {calls = calls} c k) =
      let rest : (e' : ℕ) → At e' m.left → Ends e' m.left calls end = λ e' a'. all_calls e' a' k in
      on_test (leb (2 * m.size) (length m.buffer))
      (λ b. after_handing e r end a m calls c b (rest (e + count e r a m c) (onwards e r a m c b)))
      (λ b. after_refusal e r end a m calls c b (rest e (rw (tight e r a m c b).same_record a)))

  -- ---- the record at the end

  -- the pair of a facility holds the offset of its first pair not yet handed out
  at_here : {e : ℕ} {r : List Pair} → At e r → (f : ℕ) → f < facility_count s → pair_at r f ≡ pair_of f (first_of f (drop e full))
  at_here a f h =
      rw (a.is, with_here before a.offsets f (pair_of 0 0) (omega (arith, a.count)), pending_first s f a.offsets, a.left)

  -- the pairs past n are as they were
  at_past : {e : ℕ} {r : List Pair} → At e r → (f : ℕ) → facility_count s ≤ f → pair_at r f ≡ pair_at before f
  at_past a f h = rw a.is (with_past before a.offsets f (pair_of 0 0) (omega (arith, a.count)))

  -- and the record is as long as it was
  at_length : {e : ℕ} {r : List Pair} → At e r → length r ≡ length before
  at_length a = rw a.is (length_with before a.offsets (omega (arith, a.count, wide)))

  -- a facility that is not asked for has no pair in the full list
  not_asked : (e f : ℕ) → asks s asked f ≡ false → first_of f (drop e full) ≡ 0
  not_asked e f h = first_none f (each_map (λ p k q. true≢false (sym k ∙ ap (asks s asked) q ∙ h)) (each_drop e (full_asked s asked)))

  -- so all is as the start left it, but for the pending offsets of roots asked for
  at_end : {handed : ℕ} {end : List Pair} → At handed end → Ended s asked handed (start_record s asked before) end
  at_end {handed} {end} a = record {
    pending = λ f h. ap (λ p. p.offset) (at_here a f (asked_below s (passed s (accepted s file).tables).aliases asked f h));
    numbers = λ i.
        on_test (ltb i (facility_count s))
        (λ b. let k = ltb-true _ _ b in rw (at_here a i k, at_here at_start i k))
        (λ b. let k = ltb-false _ _ b in rw (at_past a i k, at_past at_start i k));
    others = λ i h.
        on_test (ltb i (facility_count s))
        (λ b. let k = ltb-true _ _ b in rw (at_here a i k, at_here at_start i k, not_asked handed i h, not_asked 0 i h))
        (λ b. let k = ltb-false _ _ b in rw (at_past a i k, at_past at_start i k));
    same_length = at_length a ∙ sym (at_length at_start);
  }

  -- demand 3, with the record of the start written out
  pub walked : {calls : List Made} {end : List Pair} → Kept s (start_record s asked before) calls end → Walked s asked (start_record s asked before) calls end
  unfolding flat
  walked {calls} k =
      let w = all_calls 0 at_start k in record {
        handed = w.handed;
        counted = omega (arith, w.counted);
        each = w.each;
        joined = w.joined;
        ended = at_end w.last;
        falls = λ i j h b. falling_at (pair_of 0 0) (full_falling s asked file) i j h b;
      }
