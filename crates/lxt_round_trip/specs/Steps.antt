-- The steps of the round trip: what is read of one written change, and of the written tables.
use Rattle.std.specs.Prelude.{ℕ, ◌+◌, ◌≤◌, ◌<◌, ◌≡◌, true, List, [], ◌∷◌, map, reverse, length, pos}
use Rattle.lxt_format.specs.Limits.{longest_file}
use Rattle.lxt_format.specs.Basics.{range, any, joined}
use Rattle.lxt_format.specs.BytesLaws.{AreBytes}
use Rattle.lxt_format.specs.Sections.{end_of, changes_from, facility_count, timescale_of, initial_of}
use Rattle.lxt_format.specs.Geometry.{root_of, own_facts, sync_of}
use Rattle.lxt_format.specs.Times.{time_of}
use Rattle.lxt_format.specs.Reals.{byte_order}
use Rattle.lxt_format.specs.Changes.{Signal, previous_of, change_end, fault_at, clean_at}
use Rattle.lxt_format.specs.Values.{content_by}
use Rattle.lxt_format.specs.Judge.{tables_refusal}
use Rattle.lxt_format.specs.Stray.{body_tags, in_body}
use Rattle.lxt_chains.specs.Pending.{Each}
use Rattle.lxt_written.specs.Input.{Facility, Change, Trace}
use Rattle.lxt_written.specs.WrittenChanges.{numbered, last_of, pair_of, laid, changes_bytes}
use Rattle.lxt_written.specs.WrittenFile.{sections_of, any_real, file_of}
use Rattle.lxt_written.specs.Writing.{facts_for, trace_allowed}
use Rattle.lxt_written.specs.RoundTrip.{described_in, described, value_seen}
use Rattle.lxt_written.specs.Stands.{Stands}

-- ---- the traces that are written: their numbers are of their types, and nothing is refused as 24

pub record FacilityTyped (f : Facility) : Type 0 where
  pub name : AreBytes f.name
  pub msb : f.msb < 4294967296
  pub lsb : f.lsb < 4294967296

pub record ChangeTyped (c : Change) : Type 0 where
  pub time : c.time < 4294967296
  pub value : AreBytes c.value

pub record Writable (t : Trace) : Type 0 where
  pub facilities : Each FacilityTyped t.facilities
  pub changes : Each ChangeTyped t.changes
  pub allowed : trace_allowed t ≡ true
  pub short : length (file_of t) ≤ longest_file

-- ---- one change

-- what is read of a change at o with these bytes, whose previous change is at `prev`
pub record ChangeRead (s : List ℕ) (g : Signal) (prev o : ℕ) (bytes value : List ℕ) : Type 0 where
  pub previous : previous_of s o ≡ prev
  pub end : change_end s g o ≡ o + length bytes
  pub fault : fault_at s g o ≡ 0
  pub clean : clean_at s g o ≡ true
  pub read : value_seen s (content_by s g.kind g.width o) ≡ value

-- the byte order of reals that are given lowest byte first
abbrev pub lowest_first : List ℕ
lowest_first = 0 ∷ 1 ∷ 2 ∷ 3 ∷ 4 ∷ 5 ∷ 6 ∷ 7 ∷ []

-- ---- the tables

-- where the changes end, and T
abbrev pub changes_end : Trace → ℕ
changes_end t = 4 + length (changes_bytes t)

abbrev pub sections_end : Trace → ℕ
sections_end t = changes_end t + length (joined (λ x. x.body) (sections_of t))

-- the frame and the sections of the written file
pub record TablesRead (t : Trace) (s : List ℕ) : Type 0 where
  pub refusal : tables_refusal s ≡ 0
  pub from : changes_from s ≡ 4
  pub end : end_of s ≡ sections_end t
  pub end_inside : end_of s ≤ length s
  pub count : facility_count s ≡ length t.facilities
  pub timescale : timescale_of s ≡ t.timescale
  pub initial : initial_of s ≡ t.initial
  pub facilities : map (described_in s) (range 0 (facility_count s)) ≡ map described t.facilities
  pub facts : (f : ℕ) → f < length t.facilities → own_facts s f ≡ facts_for (numbered t.facilities f)
  pub root : (f : ℕ) → f < length t.facilities → root_of s f ≡ f
  pub sync : (f : ℕ) → f < length t.facilities → sync_of s f ≡ last_of f (reverse (map pair_of (laid t)))
  pub times : Each (λ l. time_of s l.offset ≡ pos l.time) (laid t)
  pub order : any_real t ≡ true → byte_order s ≡ lowest_first
  pub stands : Stands s 4 (changes_bytes t)
  pub covered : (o : ℕ) → changes_end t ≤ o → o < end_of s → any (in_body s o) body_tags ≡ true
