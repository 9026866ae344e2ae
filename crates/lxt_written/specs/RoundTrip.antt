-- Paper 02, Ask 5: "What it writes is accepted and read back as the same facilities (msb, lsb as written), initial symbol, timescale and changes."
-- The claim is `RoundTrip`; its proof is `round_trip` (lxt_round_trip/proofs/RoundTripped).
use Rattle.std.specs.Prelude.{ℕ, ◌+◌, ◌<◌, ◌≡◌, true, List, [], map, reverse, get_or, ℤ, pos}
use Rattle.std.proofs.Math.Seq.{slice}
use Rattle.lxt_format.specs.Basics.{range}
use Rattle.lxt_format.specs.Bytes.{little_endian}
use Rattle.lxt_format.specs.BytesLaws.{AreBytes}
use Rattle.lxt_format.specs.Sections.{facility_count, timescale_of, initial_of}
use Rattle.lxt_format.specs.Names.{name_of}
use Rattle.lxt_format.specs.Geometry.{root_of, facts_of}
use Rattle.lxt_format.specs.Times.{time_of}
use Rattle.lxt_format.specs.Values.{Content, bits, real, text, not_driven, content_of}
use Rattle.lxt_format.specs.Judge.{file_refusal, all_clean}
use Rattle.lxt_format.specs.Walk.{full_list, all_asked}
use Rattle.lxt_format.specs.Stray.{stray_bytes}
use Rattle.lxt_format.specs.declared.Facts.{Facts}
use Rattle.lxt_format.specs.declared.Pair.{Pair}
use Rattle.lxt_written.specs.Input.{Facility, Change, Trace, trace_of}
use Rattle.lxt_written.specs.WrittenFile.{file_of}
use Rattle.lxt_written.specs.Writing.{facts_for, input_allowed}

-- ---- facilities as they are read: name and facts

pub record Described : Type 0 where
  pub name : List ℕ
  pub facts : Facts

abbrev pub described_in : List ℕ → ℕ → Described
described_in s f = record { name = name_of s f; facts = facts_of s f }

abbrev pub described : Facility → Described
described f = record { name = f.name; facts = facts_for f }

-- ---- changes as they are read: facility, time and value

pub record Seen : Type 0 where
  pub facility : ℕ
  pub time : ℤ
  pub value : List ℕ

-- a value that was read, as values are given to the writer: symbols, the bytes of a real's bits, the bytes of a text's part of the file
abbrev pub value_seen : List ℕ → Content → List ℕ
value_seen s (bits symbols) = symbols
value_seen s (real x b) = little_endian 8 b
value_seen s (text start size) = slice start (start + size) s
value_seen s not_driven = []

-- a change that a walk hands out, as reading it answers
abbrev pub seen_in : List ℕ → Pair → Seen
seen_in s p =
    record {
      facility = p.number;
      time = time_of s p.offset;
      value = value_seen s (content_of s (root_of s p.number) p.offset);
    }

abbrev pub seen : Change → Seen
seen c = record { facility = c.facility; time = pos c.time; value = c.value }

-- ---- the claim

-- the file s is accepted, and is read back as the trace t
pub record ReadBack (t : Trace) (s : List ℕ) : Type 0 where
  pub accepted : file_refusal s ≡ 0
  -- every unused bit is 0, and no byte is in no change and no section
  pub clean : all_clean s ≡ true
  pub none_stray : stray_bytes s ≡ 0
  pub timescale : timescale_of s ≡ t.timescale
  pub initial : initial_of s ≡ t.initial
  -- as many facilities, in order
  pub facilities : map (described_in s) (range 0 (facility_count s)) ≡ map described t.facilities
  -- the walk over all facilities, turned round, meets the changes in their order
  pub changes : map (seen_in s) (reverse (full_list s (all_asked s))) ≡ map seen t.changes

-- every element of a table's rows is a number of 32 bits
abbrev pub AreWords : List (List ℕ) → Type 0
AreWords table = (i j : ℕ) → get_or (get_or table i []) j 0 < 4294967296

-- THE ROUND TRIP: what is written of any input that is not refused as 24 is accepted and read back as the same
abbrev pub RoundTrip : Type 0
RoundTrip =
    (facilities : List (List ℕ)) (names : List ℕ) (changes : List (List ℕ)) (values : List ℕ) (initial : ℕ) (timescale : ℤ)
    → AreWords facilities → AreBytes names → AreWords changes → AreBytes values
    → input_allowed facilities names changes values initial timescale ≡ true
    → ReadBack (trace_of facilities names changes values initial timescale) (file_of (trace_of facilities names changes values initial timescale))
