-- Laws of the first pass over the changes.
use mir.Val.{bool_byte}
use Prim.Native.Nat.{ℕ, ◌+◌, ◌≤◌, ◌<◌}
use native.Mathlib.Omega.{arith}
use native.Mathlib.Nat.{add-zero, zero-add, add_assoc}
use mathlib.Core.Path.{◌≡◌, refl, sym, ap, ◌∙◌}
use mathlib.Core.Bool.{Bool, true, false, not, ◌&&◌, and-false}
use mathlib.Core.List.{List, [], ◌∷◌, map}
use lib.ListN.{length, get_or, drop, set, length-append}
use lib.Dec.{leb, eqb}
use borrow.Author.Tests.{le-leb, lt-leb, ne_eqb, eqb-true, not-true, not-false}
use Rattle.lxt_format.specs.Limits.{longest_file}
use Rattle.lxt_format.specs.Basics.{all, joined}
use Rattle.lxt_format.specs.BasicsLaws.{on_test, or_none}
use Rattle.lxt_format.specs.declared.Pair.{Pair}
use Rattle.lxt_written.specs.Input.{change_of, change_row_allowed}
use Rattle.lxt_written.specs.WrittenChanges.{last_of, Laid, pair_of, lay_at, lay_from}
use Rattle.lxt_written.specs.WrittenFile.{new_times_after, entries_of}
use Rattle.lxt_written.specs.Writing.{value_of_allowed, changes_allowed}
use Rattle.lxt_facilities.proofs.NameLaws.{rows_next, rows_none}
use Rattle.lxt_writer.specs.Changes.{nameless, lay_rows, end_from, sound_from, Fresh, row_allowed, row_bytes, RowTakes, is_new, entries_left}
use Rattle.lxt_writer.specs.Changes.{ChangesFound, Measuring}
use Rattle.lxt_writer.proofs.RowLaws.{row_known, row_laid, row_long, row_newest}

-- ---- rows one after the other

-- the change of a row, laid at o
abbrev pub laid_at : List (List ℕ) → List ℕ → ℕ → List Pair → List ℕ → Laid
laid_at rows values o before row = lay_at (nameless rows) o before (change_of values row)

module _ (rows : List (List ℕ)) (values : List ℕ) (o : ℕ) (before : List Pair) (row : List ℕ) (rest : List (List ℕ)) where
  -- it comes first, and the others follow it
  pub lay_next : lay_rows rows values o before (row ∷ rest)
      ≡ laid_at rows values o before row
      ∷ lay_rows rows values (o + length (laid_at rows values o before row).bytes) (pair_of (laid_at rows values o before row) ∷ before) rest
  unfolding lay_from
  lay_next = refl

  end_next : end_from rows values o before (row ∷ rest)
      ≡ end_from rows values (o + length (laid_at rows values o before row).bytes) (pair_of (laid_at rows values o before row) ∷ before) rest
  unfolding lay_from joined
  end_next =
      let bytes : List ℕ = (laid_at rows values o before row).bytes in
      let after : List ℕ = joined (λ l. l.bytes) (lay_rows rows values (o + length bytes) (pair_of (laid_at rows values o before row) ∷ before) rest) in
      ap (λ k. o + k) (length-append bytes after) ∙ sym (add_assoc o (length bytes) (length after))

  -- both the row and those after it are allowed
  pub sound_next : (time : ℕ) → sound_from rows values o before time (row ∷ rest)
      ≡ ((leb time (get_or row 1 0) && row_allowed rows row values)
      && sound_from rows values (o + length (laid_at rows values o before row).bytes) (pair_of (laid_at rows values o before row) ∷ before) (get_or row 1 0) rest)
  unfolding sound_from row_allowed changes_allowed all change_of
  sound_next time =
      let all_allowed : Bool = changes_allowed (nameless rows) time (map (change_of values) (row ∷ rest)) in
      ap (λ e. all (change_row_allowed values) (row ∷ rest) && (all_allowed && leb e longest_file)) end_next
      ∙ apart
      (change_row_allowed values row)
      (all (change_row_allowed values) rest)
      (leb time (get_or row 1 0))
      (value_of_allowed (nameless rows) (get_or row 0 0) (change_of values row).value)
      (changes_allowed (nameless rows) (get_or row 1 0) (map (change_of values) rest))
      (leb (end_from rows values (o + length (laid_at rows values o before row).bytes) (pair_of (laid_at rows values o before row) ∷ before) rest) longest_file)
    where
      apart : (a b t v d e : Bool) → ((a && b) && ((t && (v && d)) && e)) ≡ ((t && (a && v)) && (b && (d && e)))
      apart true true true true d e = refl
      apart true true true false d e = refl
      apart true true false v d e = refl
      apart true false true true d e = refl
      apart true false true false d e = refl
      apart true false false v d e = refl
      apart false b true v d e = refl
      apart false b false v d e = refl

-- ---- entries

module _ (o time : ℕ) (l : Laid) (ls : List Laid) where
  -- a change at o that gets an entry, and the entries of those after it, which lie above 4
  pub entry_new : is_new o time l.time ≡ true → (p : ℕ) → 4 < p → entries_left o time (l ∷ ls) ≡ l ∷ entries_left p l.time ls
  unfolding is_new entries_left entries_of new_times_after
  entry_new h p above =
      let q : eqb p 4 ≡ false = ne_eqb p 4 (λ e. omega arith) in
      on_test (eqb o 4)
      (λ y. rw (y, q))
      (λ y. let n : eqb l.time time ≡ false = not-true _ (rw y at h) in rw (y, q, n))

  -- one that gets none
  pub entry_old : is_new o time l.time ≡ false → (p : ℕ) → 4 < p → entries_left o time (l ∷ ls) ≡ entries_left p l.time ls
  unfolding is_new entries_left new_times_after
  entry_old h p above =
      let q : eqb p 4 ≡ false = ne_eqb p 4 (λ e. omega arith) in
      let neither = or_none (eqb o 4) (not (eqb l.time time)) h in
      let n : eqb l.time time ≡ true = not-false _ neither.1 in
      let e : l.time ≡ time = eqb-true l.time time n in
      rw (neither.0, q, n, e)

  -- how many there are
  entry_counted : (p k : ℕ) → 4 < p → k ≡ bool_byte (is_new o time l.time)
      → length (entries_left o time (l ∷ ls)) ≡ k + length (entries_left p l.time ls)
  entry_counted p k above e =
      on_test (is_new o time l.time)
      (λ y. let q : k ≡ 1 = e ∙ rw y in let n = ap length (entry_new y p above) in omega arith)
      (λ y. let q : k ≡ 0 = e ∙ rw y in let n = ap length (entry_old y p above) in omega arith)

-- at most one
pub at_most_one : (b : Bool) (k : ℕ) → k ≡ bool_byte b → k ≤ 1
at_most_one true k e = omega arith
at_most_one false k e = omega arith

-- where no change is left, no entry is
pub entries_none : (o time : ℕ) → entries_left o time [] ≡ []
unfolding entries_left entries_of new_times_after
entries_none o time = on_test (eqb o 4) (λ y. rw y) (λ y. rw y)

-- ---- the pass

module _ (rows changes : List (List ℕ)) (values : List ℕ) where
  -- no change is laid yet
  pub measure_begun : (last : List ℕ) → Fresh last (length rows) → Measuring rows changes values 0 4 0 0 last
  unfolding last_of entries_left
  measure_begun last fresh =
      record {
        before = [];
        laying =
            record {
              free = record { long = fresh.long; below = λ f. let z = fresh.none f in omega arith; most = omega arith };
              newest = λ f h. fresh.none f;
            };
        upto = omega arith;
        from = omega arith;
        few = omega arith;
        sound = refl;
        end = refl;
        left = sym (zero-add (length (entries_of (lay_rows rows values 4 [] changes))));
      }

  module _ (i o time entries : ℕ) (last : List ℕ) (m : Measuring rows changes values i o time entries last) where
    -- the facility of a row that is allowed has a place in the table
    pub table_known : (row : List ℕ) (f r : ℕ) → f ≡ get_or row 0 0 → RowTakes rows row values last o r → f < length last
    table_known row f r e sized =
        let known = row_known rows row values sized.allowed in
        omega (arith, m.laying.free.long)

    -- the row that comes next
    module _ (h : i < length changes) where
      next : List ℕ
      next = get_or changes i []

      step : Laid
      step = laid_at rows values o m.before next

      -- all is allowed where it is, and those after it are
      sound_here : sound_from rows values 4 [] 0 changes
          ≡ ((leb time (get_or next 1 0) && row_allowed rows next values)
          && sound_from rows values (o + length step.bytes) (pair_of step ∷ m.before) (get_or next 1 0) (drop (i + 1) changes))
      unfolding next step
      sound_here = m.sound ∙ rw (rows_next changes i h) (sound_next rows values o m.before (get_or changes i []) (drop (i + 1) changes) time)

      -- its time falls
      pub time_falls : get_or (get_or changes i []) 1 0 < time → sound_from rows values 4 [] 0 changes ≡ false
      unfolding next
      time_falls falls = sound_here ∙ rw (lt-leb time (get_or (get_or changes i []) 1 0) falls)

      -- it is not allowed
      pub row_refused : row_allowed rows (get_or changes i []) values ≡ false → sound_from rows values 4 [] 0 changes ≡ false
      unfolding next step
      row_refused none = sound_here ∙ rw (none, and-false)

      -- it passes the end of the longest file
      pub row_too_long : (r : ℕ) → RowTakes rows (get_or changes i []) values last o r → longest_file < o + r → sound_from rows values 4 [] 0 changes ≡ false
      unfolding next step sound_from
      row_too_long r sized long =
          let size : r ≡ length (row_bytes rows next values last o) = sized.size in
          let bytes = ap length (row_laid rows next values last m.before o m.laying sized.allowed) in
          let past : longest_file < end_from rows values (o + length step.bytes) (pair_of step ∷ m.before) (drop (i + 1) changes) = omega arith in
          sound_here ∙ rw (lt-leb _ _ past, and-false, and-false, and-false)

      -- it is laid
      pub measure_turn : time ≤ get_or (get_or changes i []) 1 0 → (r k : ℕ) → RowTakes rows (get_or changes i []) values last o r → o + r ≤ longest_file
          → k ≡ bool_byte (is_new o time (get_or (get_or changes i []) 1 0)) → (f : ℕ) → f ≡ get_or (get_or changes i []) 0 0
          → Measuring rows changes values (i + 1) (o + r) (get_or (get_or changes i []) 1 0) (entries + k) (set last f o)
      unfolding next step lay_at change_of
      measure_turn rises r k sized short counted f ef =
          let row : List ℕ = get_or changes i [] in
          let one = at_most_one (is_new o time (get_or row 1 0)) k counted in
          let allowed : row_allowed rows row values ≡ true = sized.allowed in
          let size : r ≡ length (row_bytes rows row values last o) = sized.size in
          let some = row_long rows row values last m.before o m.laying allowed in
          let e : length step.bytes ≡ r = ap length (row_laid rows row values last m.before o m.laying allowed) ∙ sym size in
          let place : o + length step.bytes ≡ o + r = ap (λ z. o + z) e in
          let rest : List (List ℕ) = drop (i + 1) changes in
          let whole : lay_rows rows values o m.before (drop i changes) ≡ step ∷ lay_rows rows values (o + r) (pair_of step ∷ m.before) rest =
          rw (rows_next changes i h) (lay_next rows values o m.before row rest ∙ rw place) in
          record {
            before = pair_of step ∷ m.before;
            laying = rw ef (row_newest rows row values last m.before o m.laying allowed r (omega arith) short);
            upto = omega arith;
            from = omega (arith, m.from);
            few = omega (arith, m.few);
            sound = sound_here ∙ rw (le-leb time (get_or row 1 0) rises, allowed, place);
            end = m.end ∙ rw (rows_next changes i h) (end_next rows values o m.before row rest ∙ rw place);
            left =
                let n = entry_counted o time step (lay_rows rows values (o + r) (pair_of step ∷ m.before) rest) (o + r) k (omega (arith, m.from)) counted in
                let l = m.left ∙ ap (λ ls. entries + length (entries_left o time ls)) whole in
                omega arith;
          }

    -- all are laid
    pub measure_ended : length changes ≤ i → ChangesFound rows changes values (record { end = o; entries = entries })
    unfolding sound_from changes_allowed all lay_from joined
    measure_ended h =
        let none : drop i changes ≡ [] = rows_none changes i m.upto h in
        let short : o + 0 ≤ longest_file = omega (arith, m.laying.free.most) in
        record {
          sound = m.sound ∙ rw (none, le-leb (o + 0) longest_file short);
          end = sym (m.end ∙ rw none (add-zero o));
          end_most = m.laying.free.most;
          entries = sym (m.left ∙ rw (none, entries_none o time) (add-zero entries));
          entries_most = omega (arith, m.few, m.laying.free.most);
        }
