-- Paper 02, Ask 5: "Given facilities (name, kind, msb, lsb), an initial symbol, a timescale and changes in file order with times".
-- What is written, as a trace, and as the two tables and two pools of bytes in which it is lent.
use Rattle.std.specs.Prelude.{ℕ, ◌+◌, Bool, ◌&&◌, List, map, length, get_or, ℤ, leb, eqb, if◌then◌else◌}
use Rattle.std.proofs.Math.Seq.{slice}
use Rattle.lxt_format.specs.Basics.{all}
use Rattle.lxt_format.specs.declared.Kind.{Kind}
use Rattle.lxt_format.specs.declared.Kind.TheVariants.{Bits, Integer, Real, Text}

-- ---- a trace

-- msb and lsb are 32-bit numbers in two's complement
pub record Facility : Type 0 where
  pub name : List ℕ
  pub kind : Kind
  pub msb : ℕ
  pub lsb : ℕ

-- a value is its symbols in ASCII, the 8 bytes of a real, the lowest first, or the bytes of a text without a zero
pub record Change : Type 0 where
  pub facility : ℕ
  pub time : ℕ
  pub value : List ℕ

pub record Trace : Type 0 where
  pub facilities : List Facility
  pub changes : List Change
  pub initial : ℕ
  pub timescale : ℤ

-- ---- how it is lent: a table of facilities over a pool of names, and a table of changes over a pool of values

-- the part of a pool that starts at `start` and has `size` bytes
unfoldable pub part : List ℕ → ℕ → ℕ → List ℕ
part pool start size = slice start (start + size) pool

-- kinds: 0 bits, 1 integer, 2 real, 3 text
unfoldable pub kind_of_code : ℕ → Kind
kind_of_code code = if eqb code 1 then Integer else if eqb code 2 then Real else if eqb code 3 then Text else Bits

-- a row of five numbers: where the name starts in the pool, its length, kind, msb, lsb
unfoldable pub facility_of : List ℕ → List ℕ → Facility
facility_of names row =
    record {
      name = part names (get_or row 0 0) (get_or row 1 0);
      kind = kind_of_code (get_or row 2 0);
      msb = get_or row 3 0;
      lsb = get_or row 4 0;
    }

-- a row of four numbers: facility, time, where the value starts in the pool, its length
unfoldable pub change_of : List ℕ → List ℕ → Change
change_of values row =
    record {
      facility = get_or row 0 0;
      time = get_or row 1 0;
      value = part values (get_or row 2 0) (get_or row 3 0);
    }

abbrev pub trace_of : List (List ℕ) → List ℕ → List (List ℕ) → List ℕ → ℕ → ℤ → Trace
trace_of facilities names changes values initial timescale =
    record {
      facilities = map (facility_of names) facilities;
      changes = map (change_of values) changes;
      initial = initial;
      timescale = timescale;
    }

-- ---- what these tables cannot mean: a part that is not inside its pool, a kind above 3

abbrev pub part_inside : List ℕ → ℕ → ℕ → Bool
part_inside pool start size = leb (start + size) (length pool)

unfoldable pub facility_row_allowed : List ℕ → List ℕ → Bool
facility_row_allowed names row = part_inside names (get_or row 0 0) (get_or row 1 0) && leb (get_or row 2 0) 3

unfoldable pub change_row_allowed : List ℕ → List ℕ → Bool
change_row_allowed values row = part_inside values (get_or row 2 0) (get_or row 3 0)

unfoldable pub rows_allowed : List (List ℕ) → List ℕ → List (List ℕ) → List ℕ → Bool
rows_allowed facilities names changes values = all (facility_row_allowed names) facilities && all (change_row_allowed values) changes
