-- The changes of a written file are read back: each as it was given, linked to the newest one of its facility below it.
use Prim.Native.Nat.{ℕ, ◌+◌, ◌≤◌, ◌<◌}
use mathlib.Core.Path.{◌≡◌, refl}
use mathlib.Core.Bool.{true}
use mathlib.Core.List.{List, [], ◌∷◌, ◌++◌, map, reverse_aux}
use lib.ListN.{length, length-append}
use lib.IntN.{pos}
use native.Mathlib.Omega.{arith}
use Rattle.lxt_format.specs.Limits.{longest_file}
use Rattle.lxt_format.specs.Basics.{joined}
use Rattle.lxt_format.specs.Sections.{end_of, changes_from}
use Rattle.lxt_format.specs.Geometry.{facts_by}
use Rattle.lxt_format.specs.Times.{time_of}
use Rattle.lxt_format.specs.Reals.{byte_order, is_real}
use Rattle.lxt_format.specs.Values.{content_of}
use Rattle.lxt_format.specs.Judge.{signal_of, end_at}
use Rattle.lxt_format.specs.declared.Kind.{Kind}
use Rattle.lxt_format.specs.declared.Kind.TheVariants.{Bits, Integer, Real, Text}
use Rattle.lxt_format.specs.declared.Pair.{Pair}
use Rattle.lxt_chains.specs.Pending.{Each}
use Rattle.lxt_written.specs.Input.{Facility, Change, Trace}
use Rattle.lxt_written.specs.WrittenChanges.{no_facility, numbered, last_of, Laid, pair_of, lay_at, lay_from, laid, changes_bytes}
use Rattle.lxt_written.specs.WrittenFile.{any_real}
use Rattle.lxt_written.specs.Writing.{facts_for}
use Rattle.lxt_written.specs.RoundTrip.{seen_in, seen}
use Rattle.lxt_written.specs.Stands.{Stands, stands_front, stands_back}
use Rattle.lxt_round_trip.specs.Steps.{ChangeRead, lowest_first, TablesRead}
use Rattle.lxt_round_trip.proofs.ListLaws.{any_at}
use Rattle.lxt_round_trip.proofs.AllowedLaws.{ChangeKept}
use Rattle.lxt_round_trip.proofs.LaidLaws.{laid_at_lem}
use Rattle.lxt_round_trip.proofs.ChangeReadLaws.{change_read}
use Rattle.lxt_round_trip.proofs.ChainedLaws.{Linked, Chained, none, more, chained_from, last_under, last_from}

-- facts have the kind by which they are made
kind_by : (kind : Kind) (msb lsb : ℕ) → (facts_by kind msb lsb).kind ≡ kind
unfolding facts_by
kind_by Bits msb lsb = refl
kind_by Integer msb lsb = refl
kind_by Real msb lsb = refl
kind_by Text msb lsb = refl

-- so the facts of a facility have its kind
facts_kind : (f : Facility) → (facts_for f).kind ≡ f.kind
unfolding facts_for
facts_kind f = kind_by f.kind f.msb f.lsb

-- the changes cs, laid as ls from o on after those before, are linked without a gap to them, and seen as they were given
pub record AsGiven (s : List ℕ) (n o : ℕ) (before : List Pair) (ls : List Laid) (cs : List Change) : Type 0 where
  pub chained : Chained s n (o + length (joined (λ l. l.bytes) ls)) (reverse_aux (map pair_of ls) before)
  pub told : map (seen_in s) (map pair_of ls) ≡ map seen cs

module _ (t : Trace) (s : List ℕ) (r : TablesRead t s) (short : length s ≤ longest_file) where
  -- where a facility is real, reals go lowest byte first
  order_of : (f : ℕ) → f < length t.facilities → is_real (numbered t.facilities f).kind ≡ true → byte_order s ≡ lowest_first
  unfolding any_real
  order_of f h e = r.order (any_at (λ g. is_real g.kind) no_facility t.facilities f h e)

  -- ---- one change

  module _ (c : Change) (k : ChangeKept t.facilities c) (o : ℕ) (before : List Pair) (chained : Chained s (length t.facilities) o before)
      (stands : Stands s o (lay_at t.facilities o before c).bytes) (inside : o + length (lay_at t.facilities o before c).bytes ≤ end_of s) where
    -- a change laid after those before it is read as it was given
    laid_read : ChangeRead s (signal_of s c.facility) (last_of c.facility before) o (lay_at t.facilities o before c).bytes c.value
    unfolding lay_at
    laid_read =
        let n : ℕ = length t.facilities in
        let f : ℕ = c.facility in
        let prev : ℕ = last_of f before in
        let from = r.from in
        let first = chained_from s n chained in
        let linked : 0 < prev → changes_from s ≤ prev = λ z. rw from (last_from s n f chained z) in
        let kind : Kind = (numbered t.facilities f).kind in
        let width : ℕ = (facts_for (numbered t.facilities f)).width in
        let in-file = r.end_inside in
        rw (r.facts f k.below, facts_kind (numbered t.facilities f))
        (change_read s (changes_from s) (end_of s) prev o kind width c.value k.typed.value k.allowed (order_of f k.below) stands inside refl in-file
        (omega arith) (last_under s n f chained) linked (omega arith))

    -- so it is linked to those before it
    laid_linked : Linked s (length t.facilities) (pair_of (lay_at t.facilities o before c)) before
    unfolding lay_at
    laid_linked =
        let read = laid_read in
        record { number = k.below; previous = read.previous; fault = read.fault; clean = read.clean }

    -- it ends where its bytes end
    laid_ends : end_at s (pair_of (lay_at t.facilities o before c)) ≡ o + length (lay_at t.facilities o before c).bytes
    unfolding end_at lay_at
    laid_ends = laid_read.end

    -- with those before it, it leaves no gap
    laid_chained : Chained s (length t.facilities) (o + length (lay_at t.facilities o before c).bytes) (pair_of (lay_at t.facilities o before c) ∷ before)
    laid_chained = rw (← laid_ends) (more laid_linked (rw (laid_at_lem t.facilities o before c) chained))

    -- and it is seen as it was given, where its time is told
    laid_seen : time_of s (lay_at t.facilities o before c).offset ≡ pos (lay_at t.facilities o before c).time → seen_in s (pair_of (lay_at t.facilities o before c)) ≡ seen c
    unfolding content_of lay_at
    laid_seen time = rw (r.root c.facility k.below, time, laid_read.read)

  -- ---- all changes

  -- laid one after the other, they are read as they were given
  lay_given : {cs : List Change} → Each (ChangeKept t.facilities) cs → (o : ℕ) (before : List Pair) → Chained s (length t.facilities) o before
      → Stands s o (joined (λ l. l.bytes) (lay_from t.facilities o before cs)) → o + length (joined (λ l. l.bytes) (lay_from t.facilities o before cs)) ≤ end_of s
      → Each (λ l. time_of s l.offset ≡ pos l.time) (lay_from t.facilities o before cs) → AsGiven s (length t.facilities) o before (lay_from t.facilities o before cs) cs
  unfolding lay_from joined
  lay_given Each.none o before chained stands inside times = let e : o + 0 ≡ o = omega arith in record { chained = rw e chained; told = refl }
  lay_given (Each.both {x = c} {l = cs} k rest) o before chained stands inside (Each.both time times) =
      let l : Laid = lay_at t.facilities o before c in
      let size : ℕ = length l.bytes in
      let ls : List Laid = lay_from t.facilities (o + size) (pair_of l ∷ before) cs in
      let bytes : List ℕ = joined (λ l. l.bytes) ls in
      let long = length-append l.bytes bytes in
      let front = stands_front s o l.bytes bytes stands in
      let fits : o + size ≤ end_of s = omega arith in
      let next = laid_chained c k o before chained front fits in
      let ih = lay_given rest (o + size) (pair_of l ∷ before) next (stands_back s o l.bytes bytes stands) (omega arith) times in
      let e : o + length (l.bytes ++ bytes) ≡ o + size + length bytes = omega arith in
      record { chained = rw e ih.chained; told = rw (laid_seen c k o before chained front fits time, ih.told) }

  -- so are the changes of the whole trace, from offset 4 on
  pub laid_given : Each (ChangeKept t.facilities) t.changes → AsGiven s (length t.facilities) 4 [] (laid t) t.changes
  unfolding laid changes_bytes
  laid_given kept = let end = r.end in lay_given kept 4 [] none r.stands (omega arith) r.times
