-- What the functions of this crate answer and ask, by the definitions of the format.
use Rattle.std.specs.Prelude.{ℕ, ◌+◌, ◌*◌, ◌≤◌, ◌≡◌, List, length, replicate, if◌then◌else◌}
use Rattle.lxt_format.specs.Basics.{Answer, answer}
use Rattle.lxt_format.specs.Sections.{section_of, end_of, changes_from, facility_count, wide_times, times_at, time_count, timescale_of, initial_of}
use Rattle.lxt_format.specs.Reals.{has_real, byte_order}
use Rattle.lxt_format.specs.Judge.{tables_refusal}
use Rattle.lxt_format.specs.Stray.{whole_size}
use Rattle.lxt_tables.specs.declared.Tables.{Tables}

-- where the geometry lies, and n
pub record Geometry (s : List ℕ) (geometry n : ℕ) : Type 0 where
  pub start : geometry ≡ section_of s 0x04
  pub count : n ≡ facility_count s
  pub inside : geometry + 16 * n ≤ length s

-- the offset after the last name
abbrev pub after_names : List ℕ → ℕ
after_names s = section_of s 0x03 + whole_size s 0x03

-- where everything lies, with the byte order of reals
unfoldable pub tables_with : List ℕ → List ℕ → Tables
tables_with s order =
    record {
      wide_times = wide_times s;
      facilities = facility_count s;
      time_count = time_count s;
      end = end_of s;
      changes = changes_from s;
      sync = section_of s 0x02;
      names = section_of s 0x03;
      names_end = after_names s;
      geometry = section_of s 0x04;
      times = times_at s;
      timescale = timescale_of s;
      initial = initial_of s;
      order = order;
    }

-- where everything lies in a file that refusals 1 to 14 pass. The byte order of reals is 0 at each place where there is no real facility.
unfoldable pub tables_of : List ℕ → Tables
tables_of s = tables_with s (if has_real s then byte_order s else replicate 8 0)

-- that, or the refusal
abbrev pub tables_read : List ℕ → Answer Tables
tables_read s = answer (tables_refusal s) (tables_of s)
