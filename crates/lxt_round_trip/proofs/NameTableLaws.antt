-- The name table of a written file: refusal 10, and the name of each facility.
use Prim.Native.Nat.{ℕ, ◌+◌, ◌≤◌}
use mathlib.Core.Path.{◌≡◌}
use mathlib.Core.Bool.{true}
use mathlib.Core.List.{List, [], ◌∷◌, ◌++◌, map}
use mathlib.Core.Option.{some}
use lib.ListN.{length, length-map, get_or-map}
use lib.Seq.{slice}
use native.Mathlib.Omega.{arith}
use borrow.Author.Tests.{le-leb}
use Rattle.lxt_format.specs.Limits.{longest_file}
use Rattle.lxt_format.specs.Bytes.{u32_at}
use Rattle.lxt_format.specs.Sections.{section_of, end_of, facility_count}
use Rattle.lxt_format.specs.Names.{name_table, memory_of, names_allowed, names_size, name_of}
use Rattle.lxt_chains.specs.Pending.{Each}
use Rattle.lxt_written.specs.Input.{Facility, Trace}
use Rattle.lxt_written.specs.WrittenChanges.{no_facility, numbered}
use Rattle.lxt_written.specs.WrittenFile.{words, names_from, names_of, names_body}
use Rattle.lxt_written.specs.Stands.{stands_front, stands_back}
use Rattle.lxt_written.specs.TableSizes.{length_words}
use Rattle.lxt_written.specs.WrittenLaws.{names_long}
use Rattle.lxt_round_trip.proofs.TableLaws.{stands_word, slice_front}
use Rattle.lxt_round_trip.proofs.AllowedLaws.{FacilityKept, Kept}
use Rattle.lxt_round_trip.proofs.BodyLaws.{Bodies}
use Rattle.lxt_round_trip.proofs.FrameLaws.{count_read}
use Rattle.lxt_round_trip.proofs.NamesReadLaws.{NameKept, names_read, names_size_lem, memory_small}

-- each name may be written
names_kept : (fs : List Facility) → Each FacilityKept fs → Each NameKept (map (λ f. f.name) fs)
names_kept fs Each.none = Each.none
names_kept fs (Each.both {l = rest} h k) = Each.both (record { short = h.short; no_zero_lem = h.no_zero_lem }) (names_kept rest k)

-- there are as many names as facilities
names_count : (t : Trace) → length (names_of t) ≡ length t.facilities
unfolding names_of
names_count t = length-map t.facilities (λ f. f.name)

module _ (t : Trace) (s : List ℕ) (b : Bodies t s) (short : length s ≤ longest_file) (k : Kept t) where
  -- all names of a trace may be written
  all_kept : Each NameKept (names_of t)
  unfolding names_of
  all_kept = names_kept t.facilities k.facilities

  -- what the names take of the part that holds them
  names_part : slice (section_of s 0x03 + 8) (end_of s) s
      ≡ names_from [] (names_of t) ++ slice (section_of s 0x03 + 8 + length (names_from [] (names_of t))) (end_of s) s
  unfolding names_body
  names_part =
      let head : List ℕ = words (length t.facilities ∷ memory_of (names_of t) ∷ []) in
      let l : length head ≡ 8 = length_words _ in
      let n = names_long t in
      slice_front s (section_of s 0x03 + 8) (end_of s) _ (rw l at (stands_back s (section_of s 0x03) head _ b.names)) (omega arith) b.end_inside

  -- M
  memory_read : u32_at s (section_of s 0x03 + 4) ≡ memory_of (names_of t)
  unfolding names_body
  memory_read =
      let m = memory_small (names_of t) all_kept in
      let c = names_count t in
      stands_word _ s (section_of s 0x03) (stands_front s (section_of s 0x03) _ _ b.names) 1 (omega arith) (omega (arith, k.count))

  -- the names are read as they were given
  table_read : name_table s ≡ some (names_of t)
  unfolding name_table
  table_read = rw (names_part, count_read t s b short k, ← (names_count t)) (names_read (names_of t) [] _ all_kept)

  -- 10
  pub names_allowed_lem : names_allowed s ≡ true
  unfolding names_allowed
  names_allowed_lem = rw (table_read, memory_read) (le-leb (memory_of (names_of t)) (memory_of (names_of t)) (omega arith))

  -- the name of facility f
  pub name_read : (f : ℕ) → name_of s f ≡ (numbered t.facilities f).name
  unfolding name_of names_of
  name_read f = rw table_read (get_or-map (λ f. f.name) t.facilities f no_facility)

  -- the bytes of all names
  pub names_bytes : names_size (facility_count s) (slice (section_of s 0x03 + 8) (end_of s) s) ≡ length (names_from [] (names_of t))
  names_bytes = rw (names_part, count_read t s b short k, ← (names_count t)) (names_size_lem (names_of t) [] _ all_kept)
