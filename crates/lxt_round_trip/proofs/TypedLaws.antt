-- Input that is not refused as 24, as it is lent, is a trace that may be written.
use Prim.Native.Nat.{ℕ, suc, ◌+◌, ◌<◌}
use mathlib.Core.Path.{◌≡◌}
use mathlib.Core.Bool.{true, ◌&&◌}
use mathlib.Core.List.{List, [], ◌∷◌, map}
use lib.ListN.{length, get_or, take, get_or-eq_default, length-take}
use lib.Seq.{get_or-drop, get_or-take}
use lib.IntN.{ℤ}
use lib.Dec.{leb}
use native.Mathlib.Omega.{arith}
use native.Mathlib.Decide.{dec_le}
use borrow.Author.Tests.{leb-true}
use Rattle.lxt_format.specs.Limits.{longest_file}
use Rattle.lxt_format.specs.BasicsLaws.{and_both}
use Rattle.lxt_format.specs.BytesLaws.{AreBytes}
use Rattle.lxt_chains.specs.Pending.{Each}
use Rattle.lxt_written.specs.Input.{Trace, part, facility_of, change_of, trace_of, rows_allowed}
use Rattle.lxt_written.specs.WrittenFile.{file_of}
use Rattle.lxt_written.specs.Writing.{trace_allowed, input_allowed}
use Rattle.lxt_written.specs.RoundTrip.{AreWords}
use Rattle.lxt_round_trip.specs.Steps.{FacilityTyped, ChangeTyped, Writable}
use Rattle.lxt_round_trip.proofs.ListLaws.{each_image}

-- a row of numbers of 32 bits
abbrev WordsOnly : List ℕ → Type 0
WordsOnly row = (j : ℕ) → get_or row j 0 < 4294967296

-- each row of a table of such numbers has them only
rows_words : (table : List (List ℕ)) → AreWords table → Each WordsOnly table
rows_words [] words = Each.none
rows_words (row ∷ table) words = Each.both (words 0) (rows_words table (λ i j. words (suc i) j))

-- a part of a pool of bytes is bytes
part_bytes : (pool : List ℕ) (start size : ℕ) → AreBytes pool → AreBytes (part pool start size)
unfolding part
part_bytes pool start size bytes i =
    let front : List ℕ = take (start + size) pool in
    elim (dec_le (start + size) (start + i)) [
      | yes h ↦ (let z = get_or-eq_default front 0 {n = start + i} (omega (arith, length-take (start + size) pool)) in rw (get_or-drop start front i 0, z) (omega arith))
      | no h ↦ (let l : start + i < start + size = omega arith in rw (get_or-drop start front i 0, get_or-take (start + size) pool (start + i) 0 l) (bytes (start + i)))
    ]

module _ (facilities : List (List ℕ)) (names : List ℕ) (changes : List (List ℕ)) (values : List ℕ) (initial : ℕ) (timescale : ℤ) where
  -- the facilities are of their types
  facilities_typed : AreWords facilities → AreBytes names → Each FacilityTyped (map (facility_of names) facilities)
  unfolding facility_of
  facilities_typed words bytes =
      each_image (facility_of names) (λ row h. record { name = part_bytes names (get_or row 0 0) (get_or row 1 0) bytes; msb = h 3; lsb = h 4 }) (rows_words facilities words)

  -- and so are the changes
  changes_typed : AreWords changes → AreBytes values → Each ChangeTyped (map (change_of values) changes)
  unfolding change_of
  changes_typed words bytes =
      each_image (change_of values) (λ row h. record { time = h 1; value = part_bytes values (get_or row 2 0) (get_or row 3 0) bytes }) (rows_words changes words)

  -- so with what is not refused as 24 they are a trace that may be written
  pub writable : AreWords facilities → AreBytes names → AreWords changes → AreBytes values → input_allowed facilities names changes values initial timescale ≡ true
      → Writable (trace_of facilities names changes values initial timescale)
  unfolding input_allowed
  writable facility-words name_bytes_lem change-words value-bytes h =
      let t : Trace = trace_of facilities names changes values initial timescale in
      let short = leb (length (file_of t)) longest_file in
      let a = and_both (rows_allowed facilities names changes values) (trace_allowed t && short) h in
      let b = and_both (trace_allowed t) short a.1 in
      record {
        facilities = facilities_typed facility-words name_bytes_lem;
        changes = changes_typed change-words value-bytes;
        allowed = b.0;
        short = leb-true _ _ b.1;
      }
