-- The printed trace, proved: what calls of `fill` put, joined, is what was left where they begin. The claim and its words stand in specs/Calls.
use Prim.Native.Nat.{ℕ, zero, suc, ◌+◌, ◌-◌, ◌<◌, min}
use native.Mathlib.Omega.{arith}
use mathlib.Core.Path.{◌≡◌, refl, sym, ap, ◌∙◌}
use mathlib.Core.Bool.{false, ◌||◌}
use mathlib.Core.List.{List, [], ◌∷◌, ◌++◌}
use lib.ListN.{length, take, drop, length-append, length-take, length-drop}
use lib.Seq.{take_all, take_at, take-nil, drop-nil}
use lib.Dec.{leb, eqb}
use borrow.Author.Tests.{leb-true, leb-false, le-leb, lt-leb, eqb-true, eqb-false}
use Rattle.lxt_format.specs.Basics.{range, joined}
use Rattle.lxt_format.specs.BasicsLaws.{on_test}
use Rattle.lxt_format.specs.Sections.{facility_count}
use Rattle.lxt_format.specs.Walk.{full_list, all_asked}
use Rattle.lxt_print.specs.Lines.{decimal, space, refused_word, facility_line, change_line, done_line, refused_line, accepted_text, print_refusal, printed}
use Rattle.lxt_print.specs.Left.{left_text}
use Rattle.lxt_print.specs.Calls.{Begins, Held, Made, held_after, Keeps, Kept, room_of, output_of, done_by, PrintedTrace}
use Rattle.lxt_print.proofs.NextLaws.{done_some, ended_some}

-- what is left where calls begin
abbrev left_at : List ℕ → Held → List ℕ
left_at s h = left_text s h.state h.nodes h.line

-- ---- what calls put

-- the first n bytes of a text are those that it has, and r more follow them
first_more : (n r : ℕ) (l : List ℕ) (i : ℕ) → i ≡ min n (length l) → take i l ++ take r (drop i l) ≡ take (n + r) l
first_more n r [] i e = rw (take-nil {A = ℕ} i, drop-nil {A = ℕ} i, take-nil {A = ℕ} r, take-nil {A = ℕ} (n + r))
first_more zero r (x ∷ l) i e = let z : i ≡ 0 = omega arith in let y : 0 + r ≡ r = omega arith in rw (z, y)
first_more (suc n) r (x ∷ l) zero e = absurd (omega arith)
first_more (suc n) r (x ∷ l) (suc i) e = let y : suc n + r ≡ suc (n + r) = omega arith in rw y (ap (λ q. x ∷ q) (first_more n r l i (omega arith)))

-- the bytes that a call puts stand first in its buffer
call_puts : (s : List ℕ) (h : Held) (m : Made) → Keeps s h m → take m.answer.size m.output ≡ take m.answer.size (left_at s h)
call_puts s h m k =
    let size = k.counts in
    let long : length (take m.answer.size (left_at s h)) ≡ m.answer.size = length-take m.answer.size (left_at s h) ∙ omega arith in
    rw k.puts (take_at (take m.answer.size (left_at s h)) (drop (length (take m.answer.size (left_at s h))) m.buffer) m.answer.size long)

-- calls put what is left where they begin, as much as there is room for
all_put : {s : List ℕ} {h : Held} {calls : List Made} → Kept s h calls → output_of calls ≡ take (room_of calls) (left_at s h)
unfolding output_of room_of
all_put Kept.none = refl
all_put {s} {h} (Kept.call {m = m} {calls = calls} k rest) =
    let more = all_put rest in
    let after : left_at s (held_after m) ≡ drop m.answer.size (left_at s h) = k.leaves in
    rw (call_puts s h m k, more, after) (first_more (length m.buffer) (room_of calls) (left_at s h) m.answer.size k.counts)

-- ---- when they are done

module _ (room left size : ℕ) (e : size ≡ min room left) where
  -- a call alone
  done_one : (eqb size left || false) ≡ leb left (room + 0)
  done_one =
      on_test (eqb size left)
      (λ a. let q = eqb-true size left a in rw a (sym (le-leb left (room + 0) (omega arith))))
      (λ a. let q = eqb-false size left a in rw a (sym (lt-leb left (room + 0) (omega (arith, q)))))

  -- a call and more
  done_more : (more : ℕ) → (eqb size left || leb (left - size) more) ≡ leb left (room + more)
  done_more more =
      on_test (eqb size left)
      (λ a. let q = eqb-true size left a in rw a (sym (le-leb left (room + more) (omega arith))))
      (λ a.
      let q = eqb-false size left a in
      on_test (leb (left - size) more)
      (λ b. let z = leb-true (left - size) more b in rw (a, b) (sym (le-leb left (room + more) (omega (arith, q)))))
      (λ b. let z = leb-false (left - size) more b in rw (a, b) (sym (lt-leb left (room + more) (omega (arith, q))))))

-- one of the calls is done exactly where there is room for all that is left
all_done : {s : List ℕ} {calls : List Made} (h : Held) (m : Made) → Keeps s h m → Kept s (held_after m) calls
    → done_by (m ∷ calls) ≡ leb (length (left_at s h)) (room_of (m ∷ calls))
unfolding done_by room_of
all_done {s} h m k Kept.none = rw k.ends (done_one (length m.buffer) (length (left_at s h)) m.answer.size k.counts)
all_done {s} h m k (Kept.call {m = m'} {calls = calls} k' rest) =
    let more = all_done (held_after m) m' k' rest in
    let long : length (left_at s (held_after m)) ≡ length (left_at s h) - m.answer.size = rw k.leaves (length-drop m.answer.size (left_at s h)) in
    rw (k.ends, more, long) (done_more (length m.buffer) (length (left_at s h)) m.answer.size k.counts (length m'.buffer + room_of calls))

-- ---- the claim

-- an accepted file's text ends in its last line
accepted_some : (s : List ℕ) → 0 < length (accepted_text s)
unfolding accepted_text
accepted_some s =
    let count : ℕ = length (full_list s (all_asked s)) in
    let lines : List ℕ = joined (facility_line s) (range 0 (facility_count s)) ++ joined (change_line s) (full_list s (all_asked s)) in
    let l = length-append lines (done_line count) in
    let d = done_some count in
    omega arith

refused_some : (k : ℕ) → 0 < length (refused_line k)
unfolding refused_line
refused_some k = ended_some (refused_word ++ space ++ decimal k)

-- so something is printed of every file
printed_some : (s : List ℕ) → 0 < length (printed s)
unfolding printed
printed_some s = on_test (eqb (print_refusal s) 0) (λ a. rw a (accepted_some s)) (λ a. rw a (refused_some (print_refusal s)))

module _ (s : List ℕ) (h : Held) (b : Begins s h.state h.name h.nodes h.line) where
  put_printed : {calls : List Made} → Kept s h calls → output_of calls ≡ take (room_of calls) (printed s)
  put_printed k = rw (← b.all_left_lem) (all_put k)

  done_printed : {calls : List Made} → Kept s h calls → done_by calls ≡ leb (length (printed s)) (room_of calls)
  unfolding done_by room_of
  done_printed Kept.none = sym (lt-leb (length (printed s)) 0 (printed_some s))
  done_printed (Kept.call {m = m} k rest) = rw (← b.all_left_lem) (all_done h m k rest)

-- any list of calls prints what is to be printed of the file
pub printed_trace : PrintedTrace
printed_trace s h calls b k = record {
  joined = put_printed s h b k;
  done = done_printed s h b k;
  whole = λ d. put_printed s h b k ∙ take_all (room_of calls) (printed s) (leb-true _ _ (sym (done_printed s h b k) ∙ d));
}
