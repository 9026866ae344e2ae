-- The tables of a written file are read back: refusals 1 to 14 pass, and what they say is what was written.
use Prim.Native.Nat.{ℕ, ◌≤◌}
use native.Mathlib.Nat.{zero-add}
use mathlib.Core.Path.{◌≡◌}
use mathlib.Core.List.{List, map}
use lib.ListN.{length}
use Rattle.lxt_format.specs.Limits.{longest_file}
use Rattle.lxt_format.specs.Basics.{range}
use Rattle.lxt_format.specs.Sections.{facility_count, changes_from}
use Rattle.lxt_format.specs.Judge.{tables_refusal_by, tables_refusal}
use Rattle.lxt_chains.specs.Pending.{Each}
use Rattle.lxt_written.specs.Input.{Trace}
use Rattle.lxt_written.specs.WrittenChanges.{no_facility}
use Rattle.lxt_written.specs.WrittenFile.{file_of}
use Rattle.lxt_written.specs.RoundTrip.{described_in, described}
use Rattle.lxt_round_trip.specs.Steps.{ChangeTyped, Writable, TablesRead}
use Rattle.lxt_round_trip.proofs.ListLaws.{map_places}
use Rattle.lxt_round_trip.proofs.AllowedLaws.{Kept, kept_of}
use Rattle.lxt_round_trip.proofs.SectionLaws.{Shape, shape, list_ends}
use Rattle.lxt_round_trip.proofs.BodyLaws.{Bodies, bodies}
use Rattle.lxt_round_trip.proofs.FrameLaws.{length_allowed_lem, starts_right_lem, ends_right_lem, nothing_compressed_lem, times_once_lem, sections_present_lem}
use Rattle.lxt_round_trip.proofs.FrameLaws.{bodies_inside_lem, count_read, count_allowed_lem, timescale_read, initial_read}
use Rattle.lxt_round_trip.proofs.NameTableLaws.{names_allowed_lem, name_read}
use Rattle.lxt_round_trip.proofs.GeometryReadLaws.{geometries_allowed_lem, aliases_allowed_lem, own_root, own_facts_lem, facts_given}
use Rattle.lxt_round_trip.proofs.RealTestLaws.{order_read, test_allowed}
use Rattle.lxt_round_trip.proofs.SyncReadLaws.{sync_read}
use Rattle.lxt_round_trip.proofs.TimeTableLaws.{times_told, times_allowed_lem}
use Rattle.lxt_round_trip.proofs.CoveredLaws.{covered}

module _ (t : Trace) (s : List ℕ) (h : Shape t s) (b : Bodies t s) (short : length s ≤ longest_file) (k : Kept t) (typed : Each ChangeTyped t.changes) where
  -- 1 to 14 pass
  tables_pass : tables_refusal s ≡ 0
  unfolding tables_refusal tables_refusal_by
  tables_pass =
      rw (length_allowed_lem t s h short, starts_right_lem t s h, ends_right_lem t s h, (list_ends t s h short).0)
      (rw (nothing_compressed_lem t s b, times_once_lem t s b, sections_present_lem t s b, bodies_inside_lem t s b short k, count_allowed_lem t s b short k)
      (rw (names_allowed_lem t s b short k, geometries_allowed_lem t s b short k, aliases_allowed_lem t s b short k, times_allowed_lem t s b short k typed, test_allowed t s b short k)))

  -- the changes start at 4
  from_4 : changes_from s ≡ 4
  unfolding changes_from
  from_4 = b.changes_at

  -- the facilities are described as they were given
  facilities_read : map (described_in s) (range 0 (facility_count s)) ≡ map described t.facilities
  facilities_read =
      rw (count_read t s b short k)
      (map_places (described_in s) described no_facility 0 t.facilities (λ f l. rw (zero-add f, name_read t s b short k f, facts_given t s b short k f l)))

  -- all that is read
  tables : TablesRead t s
  tables =
      record {
        refusal = tables_pass;
        from = from_4;
        end = (list_ends t s h short).1;
        end_inside = b.end_inside;
        count = count_read t s b short k;
        timescale = timescale_read t s b k;
        initial = initial_read t s b k;
        facilities = facilities_read;
        facts = own_facts_lem t s b short k;
        root = own_root t s b short k;
        sync = sync_read t s b short;
        times = times_told t s b short k typed;
        order = order_read t s b;
        stands = h.changes;
        covered = covered t s b short k;
      }

-- THE TABLES: what is written of any trace that is not refused as 24 has its tables read back
pub tables_read : (t : Trace) → Writable t → TablesRead t (file_of t)
tables_read t w =
    let h = shape t in
    tables t (file_of t) h (bodies t (file_of t) h w.short) w.short (kept_of t w) w.changes
