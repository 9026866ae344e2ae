-- THE ROUND TRIP: what is written of any input that is not refused as 24 is accepted, clean and without a stray byte, and is read back as the same.
use Prim.Native.Nat.{ℕ}
use native.Mathlib.Omega.{arith}
use mathlib.Core.Path.{◌≡◌, ◌∙◌}
use mathlib.Core.Bool.{Bool}
use mathlib.Core.List.{List, ◌++◌}
use lib.ListN.{length, take, drop}
use lib.Seq.{take-append-le, take_all}
use lib.IntN.{ℤ}
use lib.Dec.{leb}
use Rattle.lxt_format.specs.Basics.{◌unless◌}
use Rattle.lxt_format.specs.BasicsLaws.{kept, neither}
use Rattle.lxt_format.specs.BytesLaws.{AreBytes}
use Rattle.lxt_written.specs.Input.{Trace, trace_of}
use Rattle.lxt_written.specs.WrittenFile.{file_of}
use Rattle.lxt_written.specs.Writing.{input_allowed, write_refusal, write_buffer}
use Rattle.lxt_written.specs.RoundTrip.{AreWords, ReadBack, RoundTrip}
use Rattle.lxt_round_trip.specs.Steps.{Writable}
use Rattle.lxt_round_trip.proofs.AllowedLaws.{kept_of, changes_kept}
use Rattle.lxt_round_trip.proofs.TablesReadLaws.{tables_read}
use Rattle.lxt_round_trip.proofs.ChangesBackLaws.{file_accepted, file_clean, none_stray, changes_back}
use Rattle.lxt_round_trip.proofs.TypedLaws.{writable}

-- a trace that may be written is read back
pub read_back : (t : Trace) → Writable t → ReadBack t (file_of t)
read_back t w =
    let r = tables_read t w in
    let kept = changes_kept t.facilities 0 w.changes (kept_of t w).changes in
    record {
      accepted = file_accepted t (file_of t) r w.short kept;
      clean = file_clean t (file_of t) r w.short kept;
      none_stray = none_stray t (file_of t) r w.short kept;
      timescale = r.timescale;
      initial = r.initial;
      facilities = r.facilities;
      changes = changes_back t (file_of t) r w.short kept;
    }

-- what is lent is such a trace
pub round_trip : RoundTrip
round_trip facilities names changes values initial timescale facility-words name_bytes_lem change-words value-bytes allowed =
    read_back (trace_of facilities names changes values initial timescale)
    (writable facilities names changes values initial timescale facility-words name_bytes_lem change-words value-bytes allowed)

-- and so are the first bytes of a lent buffer, as many as are answered, after a write that is not refused
pub buffer_read_back : (facilities : List (List ℕ)) (names : List ℕ) (changes : List (List ℕ)) (values : List ℕ) (initial : ℕ) (timescale : ℤ)
    → AreWords facilities → AreBytes names → AreWords changes → AreBytes values
    → (out : List ℕ) → write_refusal facilities names changes values initial timescale (length out) ≡ 0
    → ReadBack (trace_of facilities names changes values initial timescale)
    (take (length (file_of (trace_of facilities names changes values initial timescale))) (write_buffer facilities names changes values initial timescale out))
unfolding write_refusal write_buffer
buffer_read_back facilities names changes values initial timescale fw nb cw vb out none =
    let file : List ℕ = file_of (trace_of facilities names changes values initial timescale) in
    let allowed : Bool = input_allowed facilities names changes values initial timescale in
    let first = neither (24 unless allowed) (25 unless leb (length file) (length out)) none in
    let begins : take (length file) (file ++ drop (length file) out) ≡ file =
    take-append-le (length file) file (drop (length file) out) (omega arith) ∙ take_all (length file) file (omega arith)
    in
    rw (none, begins) (round_trip facilities names changes values initial timescale fw nb cw vb (kept 24 allowed (omega arith) first.0))
