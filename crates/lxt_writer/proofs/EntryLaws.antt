-- Laws of the entries of the time table, which are put with the changes.
use Prim.Native.Nat.{ℕ, ◌+◌, ◌-◌, ◌≤◌, ◌<◌}
use native.Mathlib.Omega.{arith}
use mathlib.Core.Path.{◌≡◌, refl, sym, ap, ◌∙◌}
use mathlib.Core.Bool.{Bool, true, false, not, true≢false}
use mathlib.Core.List.{List, ◌∷◌, ◌++◌, append_assoc}
use lib.ListN.{length, drop, length-append}
use lib.Dec.{eqb}
use borrow.Author.Tests.{eqb-true, not-false}
use Rattle.lxt_format.specs.Basics.{joined}
use Rattle.lxt_format.specs.BasicsLaws.{on_test, or_none}
use Rattle.lxt_format.specs.Buffers.{placed, length_placed}
use Rattle.lxt_written.specs.WrittenChanges.{big_endian, Laid}
use Rattle.lxt_written.specs.WrittenFile.{deltas_from}
use Rattle.lxt_written.specs.Stands.{Stands, length_big_endian}
use Rattle.lxt_layout.proofs.PlacedLaws.{placed_stands, placed_below, placed_above, placed_tail, stands_join_at}
use Rattle.lxt_writer.specs.declared.changes.Entry.{Entry}
use Rattle.lxt_writer.specs.Changes.{is_new, entries_left, EntryPut, positions_of, times_of, EntriesPut}
use Rattle.lxt_writer.proofs.MeasureLaws.{entry_new, entry_old}

-- a change that gets no entry has the time of the one before
old_time : (o time t : ℕ) → is_new o time t ≡ false → t ≡ time
unfolding is_new
old_time o time t h = eqb-true t time (not-false _ (or_none (eqb o 4) (not (eqb t time)) h).1)

-- ---- what putting an entry answers

module _ (out : List ℕ) (e : Entry) (gap o t : ℕ) (b : Bool) (is : b ≡ is_new o e.time t) where
  -- it gets none
  pub entry_none : b ≡ false → EntryPut out e gap o t out e
  entry_none h =
      record {
        old = λ y. (refl, refl);
        new = λ y. absurd (true≢false (sym (is ∙ y) ∙ h));
      }

  -- it gets one
  pub entry_is_new : b ≡ true → is_new o e.time t ≡ true
  entry_is_new h = sym is ∙ h

  pub entry_given : b ≡ true → (one two : List ℕ) → one ≡ placed out e.at (big_endian 4 (o - e.position))
      → two ≡ placed one (e.at + gap) (big_endian 4 (t - e.time)) → EntryPut out e gap o t two (record { at = e.at + 4; position = o; time = t })
  entry_given h one two first second =
      record {
        old = λ y. absurd (true≢false (sym (entry_is_new h) ∙ y));
        new = λ y. (second ∙ rw first, refl);
      }

-- the newest entry has the time of the newest change
pub entry_time : (out : List ℕ) (e : Entry) (gap o t : ℕ) (out' : List ℕ) (e' : Entry) → EntryPut out e gap o t out' e' → e'.time ≡ t
entry_time out e gap o t out' e' p =
    on_test (is_new o e.time t)
    (λ y. ap (λ x. x.time) (p.new y).1)
    (λ y. ap (λ x. x.time) (p.old y).1 ∙ sym (old_time o e.time t y))

-- its position is that of the change, or the one before
pub entry_behind : (out : List ℕ) (e : Entry) (gap o t : ℕ) (out' : List ℕ) (e' : Entry) → EntryPut out e gap o t out' e' → e.position ≤ o → e'.position ≤ o
entry_behind out e gap o t out' e' p h =
    on_test (is_new o e.time t)
    (λ y. let q = ap (λ x. x.position) (p.new y).1 in omega arith)
    (λ y. let q = ap (λ x. x.position) (p.old y).1 in omega arith)

-- the first entry of a column, and the others
positions_next : (before : ℕ) (l : Laid) (ls : List Laid) → positions_of before (l ∷ ls) ≡ big_endian 4 (l.offset - before) ++ positions_of l.offset ls
unfolding joined deltas_from
positions_next before l ls = refl

times_next : (before : ℕ) (l : Laid) (ls : List Laid) → times_of before (l ∷ ls) ≡ big_endian 4 (l.time - before) ++ times_of l.time ls
unfolding joined deltas_from
times_next before l ls = refl

-- after the entry of a change, if it gets one: the columns up to the entries that are left, and the buffer, which keeps its length, what
-- stands below the columns, and what follows them
pub record Entered (ps qs : List ℕ) (left : List Laid) (positions gap : ℕ) (e' : Entry) (out out' : List ℕ) : Type 0 where
  pub entries : EntriesPut ps qs left positions gap e' out'
  pub long : length out' ≡ length out
  pub below : (f : ℕ) (bytes : List ℕ) → Stands out f bytes → f + length bytes ≤ positions → Stands out' f bytes
  pub tail : (k : ℕ) → positions + gap + gap ≤ k → drop k out' ≡ drop k out

-- the change l at o, and those after it
module _ (ps qs : List ℕ) (positions gap : ℕ) (column : gap ≡ length ps) (o : ℕ) (l : Laid) (ls : List Laid) (at : l.offset ≡ o) (e : Entry)
    (out : List ℕ) (w : EntriesPut ps qs (entries_left o e.time (l ∷ ls)) positions gap e out) (room : positions + gap + gap ≤ length out) where
  -- where it gets an entry, there is room for it
  pub entry_room : is_new o e.time l.time ≡ true → e.at + 4 ≤ positions + gap
  entry_room y =
      let p = 5 + o in
      let first : List ℕ = big_endian 4 (l.offset - e.position) in
      let rest : List ℕ = positions_of l.offset (entries_left p l.time ls) in
      let left : ps ≡ w.put_positions ++ (first ++ rest) =
      w.positions_left
      ∙ ap (λ x. w.put_positions ++ positions_of e.position x) (entry_new o e.time l ls y p (omega arith))
      ∙ ap (λ x. w.put_positions ++ x) (positions_next e.position l (entries_left p l.time ls)) in
      let a = ap length left in
      let b = length-append w.put_positions (first ++ rest) in
      let d = length-append first rest in
      let f = length_big_endian 4 (l.offset - e.position) in
      omega (arith, w.place)

  module _ (p : ℕ) (above : 4 < p) where
    -- it gets one: first its position is put, then its time
    module _ (y : is_new o e.time l.time ≡ true) where
      abbrev position : List ℕ
      position = big_endian 4 (o - e.position)

      abbrev time : List ℕ
      time = big_endian 4 (l.time - e.time)

      abbrev one : List ℕ
      one = placed out e.at position

      abbrev two : List ℕ
      two = placed one (e.at + gap) time

      position_room : e.at + length position ≤ length out
      position_room = let n = length_big_endian 4 (o - e.position) in let r = entry_room y in omega arith

      one_long : length one ≡ length out
      one_long = length_placed out e.at position position_room

      time_room : e.at + gap + length time ≤ length one
      time_room = let n = length_big_endian 4 (l.time - e.time) in let r = entry_room y in omega (arith, one_long)

      columns : EntriesPut ps qs (entries_left p l.time ls) positions gap (record { at = e.at + 4; position = o; time = l.time }) two
      columns =
          let n = length_big_endian 4 (o - e.position) in
          let m = length_big_endian 4 (l.time - e.time) in
          let r = entry_room y in
          let place = w.place in
          let alike = w.alike in
          let next = entry_new o e.time l ls y p above in
          let left : List Laid = entries_left p l.time ls in
          let lp = length-append w.put_positions position in
          let lt = length-append w.put_times time in
          let first : Stands one positions (w.put_positions ++ position) =
          stands_join_at one positions w.put_positions position
          (placed_below out e.at position position_room positions w.put_positions w.positions_stand (omega arith))
          e.at
          place
          (placed_stands out e.at position position_room) in
          let second : Stands one (positions + gap) w.put_times =
          placed_above out e.at position (positions + gap) w.put_times w.times_stand (omega arith) in
          record {
            put_positions = w.put_positions ++ position;
            put_times = w.put_times ++ time;
            positions_left =
                w.positions_left
                ∙ ap (λ q. w.put_positions ++ positions_of e.position q) next
                ∙ ap (λ q. w.put_positions ++ q) (positions_next e.position l left)
                ∙ rw at (sym (append_assoc w.put_positions position (positions_of o left)));
            times_left =
                w.times_left
                ∙ ap (λ q. w.put_times ++ times_of e.time q) next
                ∙ ap (λ q. w.put_times ++ q) (times_next e.time l left)
                ∙ sym (append_assoc w.put_times time (times_of l.time left));
            alike = omega arith;
            place = omega arith;
            positions_stand = placed_below one (e.at + gap) time time_room positions (w.put_positions ++ position) first (omega arith);
            times_stand =
                stands_join_at two (positions + gap) w.put_times time
                (placed_below one (e.at + gap) time time_room (positions + gap) w.put_times second (omega arith))
                (e.at + gap)
                (omega arith)
                (placed_stands one (e.at + gap) time time_room);
          }

      both_put : Entered ps qs (entries_left p l.time ls) positions gap (record { at = e.at + 4; position = o; time = l.time }) out two
      both_put =
          let n = length_big_endian 4 (o - e.position) in
          let m = length_big_endian 4 (l.time - e.time) in
          let r = entry_room y in
          let place = w.place in
          record {
            entries = columns;
            long = length_placed one (e.at + gap) time time_room ∙ one_long;
            below = λ f bytes s h.
                placed_below one (e.at + gap) time time_room f bytes
                (placed_below out e.at position position_room f bytes s (omega arith))
                (omega arith);
            tail = λ k h.
                placed_tail one (e.at + gap) time time_room k (omega arith)
                ∙ placed_tail out e.at position position_room k (omega arith);
          }

    pub entered : (out' : List ℕ) (e' : Entry) → EntryPut out e gap o l.time out' e'
        → Entered ps qs (entries_left p l.time ls) positions gap e' out out'
    entered out' e' put =
        on_test (is_new o e.time l.time)
        (λ y. rw ((put.new y).0, (put.new y).1) (both_put y))
        (λ y.
        rw ((put.old y).0, (put.old y).1)
        (record { entries = rw (entry_old o e.time l ls y p above) at w; long = refl; below = λ f bytes s h. s; tail = λ k h. refl }))

-- bytes that are put below the columns leave them as they are
pub entries_kept : (ps qs : List ℕ) (left : List Laid) (positions gap : ℕ) (e : Entry) (out : List ℕ) (o : ℕ) (bytes : List ℕ)
    → EntriesPut ps qs left positions gap e out → o + length bytes ≤ positions → EntriesPut ps qs left positions gap e (placed out o bytes)
entries_kept ps qs left positions gap e out o bytes w h =
    record {
      put_positions = w.put_positions;
      put_times = w.put_times;
      positions_left = w.positions_left;
      times_left = w.times_left;
      alike = w.alike;
      place = w.place;
      positions_stand = placed_above out o bytes positions w.put_positions w.positions_stand h;
      times_stand = placed_above out o bytes (positions + gap) w.put_times w.times_stand (omega arith);
    }
