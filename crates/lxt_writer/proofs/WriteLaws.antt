-- Laws of the second pass over the changes.
use Prim.Native.Nat.{ℕ, ◌+◌, ◌-◌, ◌≤◌, ◌<◌}
use native.Mathlib.Omega.{arith}
use native.Mathlib.Nat.{add-zero}
use mathlib.Core.Path.{◌≡◌, refl, sym, ap, ◌∙◌}
use mathlib.Core.Bool.{true, ◌&&◌}
use mathlib.Core.List.{List, [], ◌∷◌, ◌++◌, map, reverse, reverse_aux, append_assoc, append-nil}
use lib.ListN.{length, get_or, drop, set, length-append, length-map}
use lib.Dec.{leb, ltb}
use borrow.Author.Tests.{leb-true}
use Rattle.lxt_format.specs.Limits.{longest_file}
use Rattle.lxt_format.specs.Basics.{all, joined}
use Rattle.lxt_format.specs.BasicsLaws.{and_both}
use Rattle.lxt_format.specs.Buffers.{placed, length_placed}
use Rattle.lxt_format.specs.Geometry.{facts_by}
use Rattle.lxt_format.specs.declared.Kind.{Kind}
use Rattle.lxt_written.specs.Input.{part, kind_of_code, facility_of, change_of, change_row_allowed}
use Rattle.lxt_written.specs.WrittenChanges.{last_of, Laid, pair_of, lay_at, lay_from}
use Rattle.lxt_written.specs.WrittenFile.{deltas_from, entries_of}
use Rattle.lxt_written.specs.Writing.{facts_for, value_of_allowed, changes_allowed}
use Rattle.lxt_written.specs.Stands.{Stands}
use Rattle.lxt_written.specs.TableSizes.{length_words}
use Rattle.lxt_written.specs.WrittenLaws.{length_deltas}
use Rattle.lxt_pack.specs.Change.{Sound, Puts}
use Rattle.lxt_layout.proofs.PlacedLaws.{placed_stands, placed_below, placed_tail, stands_join_at}
use Rattle.lxt_facilities.proofs.NameLaws.{rows_next, rows_none}
use Rattle.lxt_writer.specs.declared.changes.Entry.{Entry}
use Rattle.lxt_writer.specs.Changes.{nameless, lay_rows, end_from, sound_from, row_allowed, row_bytes, is_new, entries_left}
use Rattle.lxt_writer.specs.Changes.{EntryAsked, EntryPut, RowAsked, RowPut, positions_of, times_of, PutAsked, ChangesPut, EntriesPut, Writing}
use Rattle.lxt_writer.proofs.RowLaws.{numbered_row, width_known, lent, lent_part, part_short, row_known, row_laid, row_long, row_newest}
use Rattle.lxt_writer.proofs.MeasureLaws.{laid_at, lay_next, sound_next, entries_none}
use Rattle.lxt_writer.proofs.EntryLaws.{entry_time, entry_behind, Entered, entry_room, entered, entries_kept}

-- ---- one row

module _ (rows : List (List ℕ)) (row values last out : List ℕ) (o : ℕ) (a : RowAsked rows row values last out o) where
  -- its facility is one, and its part lies in the pool
  pub asked_known : get_or row 0 0 < length rows
  asked_known = row_known rows row values a.allowed

  pub asked_inside : get_or row 2 0 + get_or row 3 0 ≤ length values
  unfolding row_allowed change_row_allowed
  asked_inside = leb-true _ _ (and_both (leb (get_or row 2 0 + get_or row 3 0) (length values)) _ a.allowed).0

  -- its change can be put
  pub asked_sound : (kind : Kind) (delta : ℕ) → kind ≡ kind_of_code (get_or (get_or rows (get_or row 0 0) []) 2 0) → delta ≡ o - get_or last (get_or row 0 0) 0 - 2
      → get_or row 3 0 < 4294967296 → Sound kind (lent values (get_or row 2 0) (get_or row 3 0)) delta out o
  unfolding row_allowed value_of_allowed row_bytes part facts_for facility_of
  asked_sound kind delta ek ed small =
      let facility : List ℕ = get_or rows (get_or row 0 0) [] in
      let value = (and_both (ltb (get_or row 0 0) (length (nameless rows))) _ (and_both (change_row_allowed values row) _ a.allowed).1).1 in
      let is = lent_part values (get_or row 2 0) (get_or row 3 0) asked_inside in
      record {
        size = part_short values (get_or row 2 0) (get_or row 3 0) asked_inside small;
        width = (facts_by kind (get_or facility 3 0) (get_or facility 4 0)).width;
        wide = width_known facility kind _ ek refl (a.widths (get_or row 0 0) asked_known);
        allowed = rw (is, ek) (rw (numbered_row rows (get_or row 0 0) asked_known) at value);
        room = rw (is, ek, ed) a.room;
        spare = a.spare;
        delta_small = omega (arith, a.free.below (get_or row 0 0), a.free.most);
      }

  -- it is put
  pub row_put : (kind : Kind) (delta : ℕ) (out' : List ℕ) (r : ℕ) → kind ≡ kind_of_code (get_or (get_or rows (get_or row 0 0) []) 2 0)
      → delta ≡ o - get_or last (get_or row 0 0) 0 - 2
      → Puts kind (lent values (get_or row 2 0) (get_or row 3 0)) delta out o out' r → RowPut (row_bytes rows row values last o) out o out' r
  unfolding row_bytes part
  row_put kind delta out' r ek ed p =
      let is = lent_part values (get_or row 2 0) (get_or row 3 0) asked_inside in
      record { puts = p.puts ∙ rw (is, ek, ed); ends = p.ends ∙ rw (is, ek, ed) }

-- ---- the pass

-- no bytes stand everywhere
stands_none : (s : List ℕ) (o : ℕ) → o ≤ length s → Stands s o []
stands_none s o h = record { within = omega arith; same = λ i k. absurd (omega arith) }

module _ (rows changes : List (List ℕ)) (values last out : List ℕ) (positions gap : ℕ) (a : PutAsked rows changes values last out positions gap) where
  -- all changes, laid
  whole : List Laid
  whole = lay_rows rows values 4 [] changes

  -- the columns are as long as the gap
  column_long : gap ≡ length (positions_of 0 (entries_of whole))
  unfolding whole
  column_long =
      let entries : List Laid = entries_of (lay_rows rows values 4 [] changes) in
      let e = length_words (deltas_from 0 (map (λ l. l.offset) entries)) in
      let d = length_deltas 0 (map (λ l. l.offset) entries) in
      let m = length-map entries (λ l. l.offset) in
      omega (arith, a.column)

  -- none is put yet
  pub writing_begun : Writing rows changes values out positions gap 0 4 (record { at = positions; position = 0; time = 0 }) last out
  unfolding entries_left last_of
  writing_begun =
      let room = a.room in
      let after = a.after in
      record {
        before = [];
        done = [];
        laying =
            record {
              free = record { long = a.fresh.long; below = λ f. let z = a.fresh.none f in omega arith; most = omega arith };
              newest = λ f h. a.fresh.none f;
            };
        upto = omega arith;
        from = omega arith;
        behind = omega arith;
        sound = a.sound;
        pairs = refl;
        bytes = refl;
        place = refl;
        stands = stands_none out 4 (omega arith);
        entries =
            record {
              put_positions = [];
              put_times = [];
              positions_left = refl;
              times_left = refl;
              alike = refl;
              place = sym (add-zero positions);
              positions_stand = stands_none out positions (omega arith);
              times_stand = stands_none out (positions + gap) (omega arith);
            };
        long = refl;
        tail = λ k h. refl;
      }

  module _ (i o : ℕ) (e : Entry) (last' out' : List ℕ) (w : Writing rows changes values out positions gap i o e last' out') where
    module _ (h : i < length changes) where
      -- the row that comes next, its change, and those after it
      row : List ℕ
      row = get_or changes i []

      step : Laid
      step = laid_at rows values o w.before row

      later : List Laid
      later = lay_rows rows values (o + length step.bytes) (pair_of step ∷ w.before) (drop (i + 1) changes)

      -- they are what is left
      left_here : lay_rows rows values o w.before (drop i changes) ≡ step ∷ later
      unfolding row step later
      left_here = rw (rows_next changes i h) (lay_next rows values o w.before (get_or changes i []) (drop (i + 1) changes))

      -- the bytes that are put, with those of the change
      bytes_here : joined (λ l. l.bytes) (lay_rows rows values 4 [] changes) ≡ (w.done ++ step.bytes) ++ joined (λ l. l.bytes) later
      unfolding joined
      bytes_here =
          w.bytes
          ∙ ap (λ x. w.done ++ joined (λ l. l.bytes) x) left_here
          ∙ sym (append_assoc w.done step.bytes (joined (λ l. l.bytes) later))

      -- all are allowed
      here_sound : (e.time ≤ get_or (get_or changes i []) 1 0)
          × (row_allowed rows (get_or changes i []) values ≡ true)
          × (sound_from rows values (o + length step.bytes) (pair_of step ∷ w.before) (get_or (get_or changes i []) 1 0) (drop (i + 1) changes) ≡ true)
      unfolding row step
      here_sound =
          let r : List ℕ = get_or changes i [] in
          let s = rw (rows_next changes i h, sound_next rows values o w.before r (drop (i + 1) changes) e.time) at w.sound in
          let both = and_both (leb e.time (get_or r 1 0) && row_allowed rows r values) _ s in
          let first = and_both (leb e.time (get_or r 1 0)) (row_allowed rows r values) both.0 in
          (leb-true e.time (get_or r 1 0) first.0, first.1, both.1)

      -- the facility of the row has a place in the table
      pub table_has : (f : ℕ) → f ≡ get_or (get_or changes i []) 0 0 → f < length last'
      table_has f ef = omega (arith, row_known rows (get_or changes i []) values here_sound.1, w.laying.free.long)

      -- its bytes are those of its change
      bytes_are : step.bytes ≡ row_bytes rows (get_or changes i []) values last' o
      unfolding row step
      bytes_are = row_laid rows (get_or changes i []) values last' w.before o w.laying here_sound.1

      -- they end below the columns, and within the longest file
      step_room : o + length step.bytes + 4 ≤ positions
      step_room =
          let l = ap length bytes_here in
          let m = length-append (w.done ++ step.bytes) (joined (λ y. y.bytes) later) in
          let n = length-append w.done step.bytes in
          let after = a.after in
          omega (arith, w.place)

      step_short : o + length step.bytes ≤ longest_file
      unfolding sound_from
      step_short =
          let rest : List (List ℕ) = drop (i + 1) changes in
          let s = (and_both (all (change_row_allowed values) rest) _ here_sound.2).1 in
          let l = (and_both (changes_allowed (nameless rows) (get_or (get_or changes i []) 1 0) (map (change_of values) rest)) _ s).1 in
          omega (arith, leb-true (end_from rows values (o + length step.bytes) (pair_of step ∷ w.before) rest) longest_file l)

      -- the columns up to the entry of the change, if it gets one
      entries_here : EntriesPut
          (positions_of 0 (entries_of whole))
          (times_of 0 (entries_of whole))
          (entries_left o e.time (step ∷ later))
          positions
          gap
          e
          out'
      unfolding whole
      entries_here = rw left_here at w.entries

      -- where it lies, and its time
      step_at_lem : step.offset ≡ o
      unfolding step lay_at
      step_at_lem = refl

      step_time : step.time ≡ get_or (get_or changes i []) 1 0
      unfolding row step lay_at change_of
      step_time = refl

      -- there is room for the columns still
      room_here : positions + gap + gap ≤ length out'
      room_here = omega (arith, a.room, w.long)

      -- the entry of the change can be put
      pub entry_asked : EntryAsked out' e gap o (get_or (get_or changes i []) 1 0)
      entry_asked =
          let room = room_here in
          let place = w.entries.place in
          let fits : is_new o e.time (get_or (get_or changes i []) 1 0) ≡ true → e.at + 4 ≤ positions + gap = λ y.
          entry_room _ _ positions gap column_long o step later step_at_lem e out' entries_here room (rw step_time y) in
          record {
            apart = λ y. let f = fits y in omega arith;
            room = λ y. let f = fits y in omega arith;
            behind = w.behind;
            most = w.laying.free.most;
            rises = here_sound.0;
          }

      module _ (one : List ℕ) (e₁ : Entry) (put : EntryPut out' e gap o (get_or (get_or changes i []) 1 0) one e₁) where
        put_here : EntryPut out' e gap o step.time one e₁
        put_here = rw step_time put

        -- the next change lies above the first
        above : 4 < o + length step.bytes
        above =
            let some = row_long rows (get_or changes i []) values last' w.before o w.laying here_sound.1 in
            let b = ap length bytes_are in
            omega (arith, w.from)

        -- what its entry leaves
        entry_done : Entered
            (positions_of 0 (entries_of whole))
            (times_of 0 (entries_of whole))
            (entries_left (o + length step.bytes) step.time later)
            positions
            gap
            e₁
            out'
            one
        entry_done =
            entered _ _ positions gap column_long o step later step_at_lem e out' entries_here room_here (o + length step.bytes) above one e₁ put_here

        -- the change can be put
        pub row_asked : RowAsked rows (get_or changes i []) values last' one o
        row_asked =
            let l = entry_done.long in
            let room = step_room in
            let b = ap length bytes_are in
            let r = room_here in
            record { widths = a.widths; free = w.laying.free; allowed = here_sound.1; room = omega arith; spare = omega arith }

        -- both are put
        pub writing_turn : (two : List ℕ) (r f : ℕ) → RowPut (row_bytes rows (get_or changes i []) values last' o) one o two r → f ≡ get_or (get_or changes i []) 0 0
            → Writing rows changes values out positions gap (i + 1) r e₁ (set last' f o) two
        unfolding row step later joined whole
        writing_turn two r f p ef =
            let rest : List (List ℕ) = drop (i + 1) changes in
            let t : ℕ = get_or (get_or changes i []) 1 0 in
            let bytes : List ℕ = step.bytes in
            let room = step_room in
            let some = row_long rows (get_or changes i []) values last' w.before o w.laying here_sound.1 in
            let b = ap length bytes_are in
            let ends : o + length bytes ≡ r = ap (λ k. o + k) b ∙ sym p.ends in
            let puts : two ≡ placed one o bytes = p.puts ∙ rw (← bytes_are) in
            let time : e₁.time ≡ t = entry_time out' e gap o t one e₁ put in
            let long = entry_done.long in
            let fits = room_here in
            let wide : o + length bytes ≤ length one = omega arith in
            let n = length-append w.done bytes in
            let turned = entry_done.entries in
            let kept : Stands one 4 w.done = entry_done.below 4 w.done w.stands (omega (arith, w.place)) in
            let laying = row_newest rows (get_or changes i []) values last' w.before o w.laying here_sound.1 (length bytes) (omega arith) step_short in
            record {
              before = pair_of step ∷ w.before;
              done = w.done ++ bytes;
              laying = rw (ef, ← ends) laying;
              upto = omega arith;
              from = omega (arith, w.from);
              behind = omega (arith, entry_behind out' e gap o t one e₁ put w.behind);
              sound = rw (time, ← ends) here_sound.2;
              pairs = rw (← ends) (w.pairs ∙ ap (λ x. reverse_aux (map pair_of x) w.before) left_here);
              bytes = rw (← ends) bytes_here;
              place = omega (arith, w.place);
              stands =
                  rw puts
                  (stands_join_at (placed one o bytes) 4 w.done bytes
                  (placed_below one o bytes wide 4 w.done kept (omega (arith, w.place)))
                  o
                  w.place
                  (placed_stands one o bytes wide));
              entries = rw (puts, ← ends) (entries_kept _ _ _ positions gap e₁ one o bytes (rw (step_time, ← time) at turned) (omega (arith, room)));
              long = rw puts (length_placed one o bytes wide ∙ long ∙ w.long);
              tail = λ k q.
                  rw puts (placed_tail one o bytes wide k (omega arith))
                  ∙ entry_done.tail k q
                  ∙ w.tail k q;
            }

    -- all are put
    pub writing_ended : length changes ≤ i → ChangesPut rows changes values out positions gap last' out'
    unfolding lay_from joined deltas_from
    writing_ended h =
        let none : drop i changes ≡ [] = rows_none changes i w.upto h in
        let all : List Laid = lay_rows rows values 4 [] changes in
        let bytes : joined (λ l. l.bytes) all ≡ w.done = w.bytes ∙ rw none (append-nil w.done) in
        let ps : List ℕ = w.entries.put_positions in
        let qs : List ℕ = w.entries.put_times in
        let positions_are : positions_of 0 (entries_of all) ≡ ps = w.entries.positions_left ∙ rw (none, entries_none o e.time) (append-nil ps) in
        let times_are : times_of 0 (entries_of all) ≡ qs = w.entries.times_left ∙ rw (none, entries_none o e.time) (append-nil qs) in
        record {
          bytes = rw bytes w.stands;
          positions_stand = rw positions_are w.entries.positions_stand;
          times_stand = rw times_are w.entries.times_stand;
          table_long = w.laying.free.long;
          newest = λ f k.
              let all-pairs : reverse (map pair_of (lay_rows rows values 4 [] changes)) ≡ w.before = w.pairs ∙ rw none in
              rw all-pairs (w.laying.newest f k);
          long = w.long;
          tail = w.tail;
        }
