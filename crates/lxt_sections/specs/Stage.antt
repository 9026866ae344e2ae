-- What the functions of this crate answer, by the definitions of the format.
use Rattle.std.specs.Prelude.{ℕ, ◌*◌, ◌≤◌, ◌≡◌, Bool, true, not, ◌&&◌, ◌||◌, List, map, length, get_or, eqb, if◌then◌else◌, Option, Some, None}
use Rattle.lxt_format.specs.Basics.{◌unless◌, ◌or_else◌, Answer, answer, range, any}
use Rattle.lxt_format.specs.Sections.{length_allowed, starts_right, ends_right, Item, listing_of, value_in, section_of, present, end_of, changes_from, facility_count, wide_times, times_at, time_count, nothing_compressed, times_once, sections_present, inside, bodies_inside, count_allowed}
use Rattle.lxt_sections.specs.declared.Listing.{Listing}
use Rattle.lxt_sections.specs.declared.Places.{Places}
use Rattle.lxt_sections.specs.declared.Sections.{Sections}

-- refusals 1 to 3
unfoldable pub frame_refusal : List ℕ → ℕ
frame_refusal s = 1 unless length_allowed s or_else 2 unless starts_right s or_else 3 unless ends_right s

-- the counting value of each tag from 00 to 14 hex
unfoldable pub table_of : List Item → List ℕ
table_of items = map (λ tag. value_in tag items) (range 0 21)

-- the section list, where it ends
unfoldable pub listed_of : List ℕ → Option Listing
listed_of s = if (listing_of s).listed then Some (record { table = table_of (listing_of s).items; end = (listing_of s).end }) else None

-- what a section list says, by name
abbrev pub placed_by : Listing → Places
placed_by l =
    record {
      compressed = any (λ tag. not (eqb (get_or l.table tag 0) 0)) (range 0x0A 9);
      end = l.end;
      changes = get_or l.table 1 0;
      sync = get_or l.table 2 0;
      names = get_or l.table 3 0;
      geometry = get_or l.table 4 0;
      timescale = get_or l.table 5 0;
      times = get_or l.table 6 0;
      initial = get_or l.table 7 0;
      real_test = get_or l.table 8 0;
      wide_times = get_or l.table 9 0;
      excluded = get_or l.table 19 0;
      time_zero = get_or l.table 20 0;
    }

-- what that of a file says
unfoldable pub places_of : List ℕ → Places
places_of s =
    record {
      compressed = any (present s) (range 0x0A 9);
      end = end_of s;
      changes = changes_from s;
      sync = section_of s 0x02;
      names = section_of s 0x03;
      geometry = section_of s 0x04;
      timescale = section_of s 0x05;
      times = section_of s 0x06;
      initial = section_of s 0x07;
      real_test = section_of s 0x08;
      wide_times = section_of s 0x09;
      excluded = section_of s 0x13;
      time_zero = section_of s 0x14;
    }

-- the table of times: whether it is that of tag 09, and where it starts
abbrev pub wide_in : Places → Bool
wide_in p = not (eqb p.wide_times 0)

abbrev pub table_in : Places → ℕ
table_in p = if wide_in p then p.wide_times else p.times

-- the places of a file whose section list ends and names the names and times
pub record Ready (s : List ℕ) (p : Places) : Type 0 where
  pub places : p ≡ places_of s
  pub within : p.end ≤ length s
  pub names_there : p.names ≡ 0 → ⊥
  pub times_there : table_in p ≡ 0 → ⊥

-- a section is absent, or its body lies inside
abbrev pub body_in : ℕ → ℕ → ℕ → Bool
body_in end start size = not (not (eqb start 0)) || inside end start size

-- refusal 8 from the places, n and the bytes of the times
unfoldable pub all_inside : Places → ℕ → ℕ → Bool
all_inside p n size =
    (body_in p.end p.sync (4 * n)
    && (body_in p.end p.names 8
    && (body_in p.end p.geometry (16 * n)
    && (body_in p.end p.timescale 1
    && (body_in p.end p.times size
    && (body_in p.end p.initial 1 && true))))))
    && (body_in p.end p.wide_times size && inside p.end p.changes 0)

-- refusals 8 and 9
unfoldable pub counted_refusal : List ℕ → ℕ
counted_refusal s = 8 unless bodies_inside s or_else 9 unless count_allowed (facility_count s)

-- refusals 1 to 9
unfoldable pub sections_refusal : List ℕ → ℕ
sections_refusal s =
    frame_refusal s
    or_else 4 unless (listing_of s).listed
    or_else 5 unless nothing_compressed s
    or_else 6 unless times_once s
    or_else 7 unless sections_present s
    or_else counted_refusal s

-- where everything lies in a file that they pass
unfoldable pub sections_of : List ℕ → Sections
sections_of s =
    record {
      wide_times = wide_times s;
      facilities = facility_count s;
      time_count = time_count s;
      end = end_of s;
      changes = changes_from s;
      sync = section_of s 0x02;
      names = section_of s 0x03;
      geometry = section_of s 0x04;
      timescale = section_of s 0x05;
      times = times_at s;
      initial = section_of s 0x07;
      real_test = section_of s 0x08;
      excluded = section_of s 0x13;
      time_zero = section_of s 0x14;
    }

-- that, or the refusal
abbrev pub located : List ℕ → Answer Sections
located s = answer (sections_refusal s) (sections_of s)
