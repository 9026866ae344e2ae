-- What the functions over the rows of changes answer and ask. `rows` are those of the facilities, `row` is one of a change.
use Rattle.std.specs.Prelude.{ℕ, ◌+◌, ◌*◌, ◌-◌, ◌≤◌, ◌<◌, ◌≡◌, Bool, true, false, Option, Some, None, not, ◌&&◌, ◌||◌, length, get_or, drop, leb, eqb, if◌then◌else◌}
use mathlib.Core.List.{List, [], ◌++◌, map, reverse, reverse_aux}
use Rattle.lxt_format.specs.Limits.{longest_file, widest_facility}
use Rattle.lxt_format.specs.Basics.{all, joined}
use Rattle.lxt_format.specs.Buffers.{placed}
use Rattle.lxt_format.specs.declared.Pair.{Pair}
use Rattle.lxt_written.specs.Input.{Facility, part, kind_of_code, facility_of, change_of, change_row_allowed}
use Rattle.lxt_written.specs.WrittenChanges.{big_endian, change_bytes, last_of, Laid, pair_of, lay_from}
use Rattle.lxt_written.specs.WrittenFile.{words, deltas_from, new_times_after, entries_of}
use Rattle.lxt_written.specs.Writing.{facts_for, value_of_allowed, changes_allowed}
use Rattle.lxt_written.specs.Stands.{Stands}
use Rattle.lxt_writer.specs.declared.changes.Measured.{Measured}
use Rattle.lxt_writer.specs.declared.changes.Entry.{Entry}

-- ---- rows

-- the facilities of rows; their names do not matter here
abbrev pub nameless : List (List ℕ) → List Facility
nameless rows = map (facility_of []) rows

-- no facility is too wide
abbrev pub Widths : List (List ℕ) → Type 0
Widths rows = (f : ℕ) → f < length rows → (facts_for (facility_of [] (get_or rows f []))).width ≤ widest_facility

-- the changes of rows, laid from o on after those before
abbrev pub lay_rows : List (List ℕ) → List ℕ → ℕ → List Pair → List (List ℕ) → List Laid
lay_rows rows values o before changes = lay_from (nameless rows) o before (map (change_of values) changes)

-- the offset after the last
abbrev pub end_from : List (List ℕ) → List ℕ → ℕ → List Pair → List (List ℕ) → ℕ
end_from rows values o before changes = o + length (joined (λ l. l.bytes) (lay_rows rows values o before changes))

-- whether they are allowed, after a change of this time, and end within the longest file
unfoldable pub sound_from : List (List ℕ) → List ℕ → ℕ → List Pair → ℕ → List (List ℕ) → Bool
sound_from rows values o before time changes =
    all (change_row_allowed values) changes
    && (changes_allowed (nameless rows) time (map (change_of values) changes) && leb (end_from rows values o before changes) longest_file)

-- ---- the table of the newest change of each facility

-- it has n numbers, each of which leaves room for a change before o
pub record Free (last : List ℕ) (n o : ℕ) : Type 0 where
  pub long : length last ≡ n
  pub below : (f : ℕ) → get_or last f 0 + 2 ≤ o
  pub most : o ≤ longest_file

-- it has the newest of the changes before
pub record Laying (before : List Pair) (last : List ℕ) (n o : ℕ) : Type 0 where
  pub free : Free last n o
  pub newest : (f : ℕ) → f < n → get_or last f 0 ≡ last_of f before

-- no change yet
pub record Fresh (last : List ℕ) (n : ℕ) : Type 0 where
  pub long : length last ≡ n
  pub none : (f : ℕ) → get_or last f 0 ≡ 0

-- ---- one row

-- its facility is one of n, its part lies in the pool, and its value is allowed
unfoldable pub row_allowed : List (List ℕ) → List ℕ → List ℕ → Bool
row_allowed rows row values =
    change_row_allowed values row && value_of_allowed (nameless rows) (get_or row 0 0) (part values (get_or row 2 0) (get_or row 3 0))

-- its bytes at o
unfoldable pub row_bytes : List (List ℕ) → List ℕ → List ℕ → List ℕ → ℕ → List ℕ
row_bytes rows row values last o =
    change_bytes
    (kind_of_code (get_or (get_or rows (get_or row 0 0) []) 2 0))
    (o - get_or last (get_or row 0 0) 0 - 2)
    (part values (get_or row 2 0) (get_or row 3 0))

-- how many these are, where the row is allowed
pub record RowTakes (rows : List (List ℕ)) (row values last : List ℕ) (o r : ℕ) : Type 0 where
  pub allowed : row_allowed rows row values ≡ true
  pub size : r ≡ length (row_bytes rows row values last o)
  pub most : r ≤ 4294967301

abbrev pub RowSized : List (List ℕ) → List ℕ → List ℕ → List ℕ → ℕ → Option ℕ → Type 0
RowSized rows row values last o (Some r) = RowTakes rows row values last o r
RowSized rows row values last o None = row_allowed rows row values ≡ false

-- ---- the time table

-- "Each new time gets an entry at its first change": the change at o, after one of the time `time`
unfoldable pub is_new : ℕ → ℕ → ℕ → Bool
is_new o time t = eqb o 4 || not (eqb t time)

-- the changes with an entry among those that are left, of which the first is at o
unfoldable pub entries_left : ℕ → ℕ → List Laid → List Laid
entries_left o time ls = if eqb o 4 then entries_of ls else new_times_after time ls

-- ---- the first pass

-- of changes that are allowed and end within the longest file
pub record ChangesFound (rows changes : List (List ℕ)) (values : List ℕ) (m : Measured) : Type 0 where
  pub sound : sound_from rows values 4 [] 0 changes ≡ true
  pub end : m.end ≡ end_from rows values 4 [] changes
  pub end_most : m.end ≤ longest_file
  pub entries : m.entries ≡ length (entries_of (lay_rows rows values 4 [] changes))
  pub entries_most : m.entries ≤ longest_file

-- of others it finds nothing
abbrev pub ChangesMeasured : List (List ℕ) → List (List ℕ) → List ℕ → Option Measured → Type 0
ChangesMeasured rows changes values (Some m) = ChangesFound rows changes values m
ChangesMeasured rows changes values None = sound_from rows values 4 [] 0 changes ≡ false

-- after i changes: what is left gives what the whole gives
pub record Measuring (rows changes : List (List ℕ)) (values : List ℕ) (i o time entries : ℕ) (last : List ℕ) : Type 0 where
  pub before : List Pair
  pub laying : Laying before last (length rows) o
  pub upto : i ≤ length changes
  pub from : 4 ≤ o
  pub few : entries + 4 ≤ o
  pub sound : sound_from rows values 4 [] 0 changes ≡ sound_from rows values o before time (drop i changes)
  pub end : end_from rows values 4 [] changes ≡ end_from rows values o before (drop i changes)
  pub left : length (entries_of (lay_rows rows values 4 [] changes)) ≡ entries + length (entries_left o time (lay_rows rows values o before (drop i changes)))

-- ---- the second pass

-- the entry of a change at o of the time t, and room for it
pub record EntryAsked (out : List ℕ) (e : Entry) (gap o t : ℕ) : Type 0 where
  pub apart : is_new o e.time t ≡ true → 4 ≤ gap
  pub room : is_new o e.time t ≡ true → e.at + gap + 4 ≤ length out
  pub behind : e.position ≤ o
  pub most : o ≤ longest_file
  pub rises : e.time ≤ t

-- it is put where the change gets one
pub record EntryPut (out : List ℕ) (e : Entry) (gap o t : ℕ) (out' : List ℕ) (e' : Entry) : Type 0 where
  pub old : is_new o e.time t ≡ false → (out' ≡ out) × (e' ≡ e)
  pub new : is_new o e.time t ≡ true
      → (out' ≡ placed (placed out e.at (big_endian 4 (o - e.position))) (e.at + gap) (big_endian 4 (t - e.time)))
      × (e' ≡ record { at = e.at + 4; position = o; time = t })

-- a row that is allowed, and room for its change at o
pub record RowAsked (rows : List (List ℕ)) (row values last out : List ℕ) (o : ℕ) : Type 0 where
  pub widths : Widths rows
  pub free : Free last (length rows) o
  pub allowed : row_allowed rows row values ≡ true
  pub room : o + length (row_bytes rows row values last o) ≤ length out
  pub spare : o + 4 ≤ length out

pub record RowPut (bytes out : List ℕ) (o : ℕ) (out' : List ℕ) (r : ℕ) : Type 0 where
  pub puts : out' ≡ placed out o bytes
  pub ends : r ≡ o + length bytes

-- the columns of the time table
abbrev pub positions_of : ℕ → List Laid → List ℕ
positions_of before ls = words (deltas_from before (map (λ l. l.offset) ls))

abbrev pub times_of : ℕ → List Laid → List ℕ
times_of before ls = words (deltas_from before (map (λ l. l.time) ls))

-- changes that are allowed, and room for them and for the columns of the time table
pub record PutAsked (rows changes : List (List ℕ)) (values last out : List ℕ) (positions gap : ℕ) : Type 0 where
  pub widths : Widths rows
  pub fresh : Fresh last (length rows)
  pub sound : sound_from rows values 4 [] 0 changes ≡ true
  pub column : gap ≡ 4 * length (entries_of (lay_rows rows values 4 [] changes))
  pub after : end_from rows values 4 [] changes + 4 ≤ positions
  pub room : positions + gap + gap ≤ length out

-- they are put, and the table has the newest change of each facility
pub record ChangesPut (rows changes : List (List ℕ)) (values out : List ℕ) (positions gap : ℕ) (last' out' : List ℕ) : Type 0 where
  pub bytes : Stands out' 4 (joined (λ l. l.bytes) (lay_rows rows values 4 [] changes))
  pub positions_stand : Stands out' positions (positions_of 0 (entries_of (lay_rows rows values 4 [] changes)))
  pub times_stand : Stands out' (positions + gap) (times_of 0 (entries_of (lay_rows rows values 4 [] changes)))
  pub table_long : length last' ≡ length rows
  pub newest : (f : ℕ) → f < length rows → get_or last' f 0 ≡ last_of f (reverse (map pair_of (lay_rows rows values 4 [] changes)))
  pub long : length out' ≡ length out
  pub tail : (k : ℕ) → positions + gap + gap ≤ k → drop k out' ≡ drop k out

-- the columns up to the entries that are left
pub record EntriesPut (whole-positions whole-times : List ℕ) (left : List Laid) (positions gap : ℕ) (e : Entry) (out : List ℕ) : Type 0 where
  pub put_positions : List ℕ
  pub put_times : List ℕ
  pub positions_left : whole-positions ≡ put_positions ++ positions_of e.position left
  pub times_left : whole-times ≡ put_times ++ times_of e.time left
  pub alike : length put_times ≡ length put_positions
  pub place : e.at ≡ positions + length put_positions
  pub positions_stand : Stands out positions put_positions
  pub times_stand : Stands out (positions + gap) put_times

-- after i changes
pub record Writing (rows changes : List (List ℕ)) (values out : List ℕ) (positions gap i o : ℕ) (e : Entry) (last' out' : List ℕ) : Type 0 where
  pub before : List Pair
  pub done : List ℕ
  pub laying : Laying before last' (length rows) o
  pub upto : i ≤ length changes
  pub from : 4 ≤ o
  pub behind : e.position ≤ o
  pub sound : sound_from rows values o before e.time (drop i changes) ≡ true
  pub pairs : reverse (map pair_of (lay_rows rows values 4 [] changes)) ≡ reverse_aux (map pair_of (lay_rows rows values o before (drop i changes))) before
  pub bytes : joined (λ l. l.bytes) (lay_rows rows values 4 [] changes) ≡ done ++ joined (λ l. l.bytes) (lay_rows rows values o before (drop i changes))
  pub place : o ≡ 4 + length done
  pub stands : Stands out' 4 done
  pub entries : EntriesPut
      (positions_of 0 (entries_of (lay_rows rows values 4 [] changes)))
      (times_of 0 (entries_of (lay_rows rows values 4 [] changes)))
      (entries_left o e.time (lay_rows rows values o before (drop i changes)))
      positions
      gap
      e
      out'
  pub long : length out' ≡ length out
  pub tail : (k : ℕ) → positions + gap + gap ≤ k → drop k out' ≡ drop k out
