-- A written file is accepted and clean, no byte of it is stray, and its full list, turned round, is what was given.
use Rattle.std.specs.Prelude.{if◌then◌else◌}
use Prim.Native.Nat.{ℕ, ◌≤◌, ◌<◌}
use mathlib.Core.Path.{◌≡◌, sym, ◌∙◌}
use mathlib.Core.Bool.{true, false, not, and-false}
use mathlib.Core.List.{List, map, reverse, reverse-reverse}
use lib.ListN.{length}
use native.Mathlib.Omega.{arith}
use native.Mathlib.Decide.{dec_le}
use Rattle.lxt_format.specs.Limits.{longest_file}
use Rattle.lxt_format.specs.Basics.{any}
use Rattle.lxt_format.specs.BasicsLaws.{on_test}
use Rattle.lxt_format.specs.Sections.{end_of}
use Rattle.lxt_format.specs.Geometry.{is_alias, sync_of}
use Rattle.lxt_format.proofs.GeometryLaws.{root_no_alias}
use Rattle.lxt_format.specs.Judge.{all_changes, file_refusal, all_clean}
use Rattle.lxt_format.specs.Walk.{sort, full_list, all_asked}
use Rattle.lxt_format.proofs.WalkLaws.{all_asked_lem}
use Rattle.lxt_format.specs.Stray.{in_change, stray_at, stray_bytes}
use Rattle.lxt_format.specs.declared.Pair.{Pair}
use Rattle.lxt_chains.specs.Pending.{Each, root_offsets}
use Rattle.lxt_chains.specs.Reading.{chains_verdict}
use Rattle.lxt_chains.specs.Sweep.{fitting, left}
use Rattle.lxt_chains.proofs.Sorted.{each_sort}
use Rattle.lxt_chains.proofs.Bridge.{all_roots}
use Rattle.lxt_chains.proofs.CountLaws.{counted_none}
use Rattle.lxt_chains.proofs.FittingLaws.{fits_pass, clean_is}
use Rattle.lxt_written.specs.Input.{Trace}
use Rattle.lxt_written.specs.WrittenChanges.{last_of, pair_of, laid, changes_bytes}
use Rattle.lxt_written.specs.RoundTrip.{seen_in, seen}
use Rattle.lxt_round_trip.specs.Steps.{changes_end, TablesRead}
use Rattle.lxt_round_trip.proofs.ListLaws.{none_each, map_same}
use Rattle.lxt_round_trip.proofs.AllowedLaws.{ChangeKept}
use Rattle.lxt_round_trip.proofs.ChainedLaws.{Chained, chained_fits, chained_clean, chained_covers}
use Rattle.lxt_round_trip.proofs.ChainedSortLaws.{newest, chained_sorted}
use Rattle.lxt_round_trip.proofs.LaidReadLaws.{laid_given}

-- the changes of a trace as they are laid, newest first
abbrev from_newest : Trace → List Pair
from_newest t = reverse (map pair_of (laid t))

module _ (t : Trace) (s : List ℕ) (r : TablesRead t s) (short : length s ≤ longest_file) (kept : Each (ChangeKept t.facilities) t.changes) where
  -- they are linked without a gap up to the end of the changes
  chained : Chained s (length t.facilities) (changes_end t) (from_newest t)
  unfolding changes_bytes
  chained = (laid_given t s r short kept).chained

  -- ---- the order of the changes that are read

  -- no facility is an alias
  no_alias : (f : ℕ) → f < length t.facilities → is_alias s f ≡ false
  no_alias f h =
      let count = r.count in
      let root = r.root f h in
      rw root at (root_no_alias s f (omega arith))

  -- the chains start at the newest change of each facility
  starts_newest : root_offsets s ≡ newest (length t.facilities) (from_newest t)
  unfolding root_offsets
  starts_newest =
      rw r.count
      (map_same (λ f. if is_alias s f then 0 else sync_of s f) (λ f. last_of f (from_newest t)) 0 (length t.facilities)
      (λ f a b. let h : f < length t.facilities = omega arith in rw (no_alias f h, r.sync f h)))

  -- so by falling offset the changes are those that were laid
  changes_sorted : left s (root_offsets s) ≡ from_newest t
  changes_sorted = rw starts_newest (chained_sorted s (length t.facilities) chained)

  -- and so are all changes of the file
  all_sorted : sort (all_changes s) ≡ from_newest t
  all_sorted = rw (all_roots s) changes_sorted

  -- ---- the file is accepted

  -- the changes end at or below T
  ends_inside : changes_end t ≤ end_of s
  ends_inside = let end = r.end in omega arith

  -- they fit
  changes_fit : fitting s (end_of s) (left s (root_offsets s)) ≡ true
  changes_fit = rw changes_sorted (chained_fits s (length t.facilities) (end_of s) chained ends_inside)

  -- 1 to 17 pass
  pub file_accepted : file_refusal s ≡ 0
  unfolding file_refusal chains_verdict
  file_accepted = rw r.refusal (fits_pass s changes_fit)

  -- every unused bit is 0
  pub file_clean : all_clean s ≡ true
  file_clean = sym (clean_is s) ∙ rw changes_sorted (chained_clean s (length t.facilities) chained)

  -- ---- no byte is stray

  -- each byte up to the end of the changes lies in one of them
  changes_whole : (j : ℕ) → 4 ≤ j → j < changes_end t → any (in_change s j) (all_changes s) ≡ true
  changes_whole j from below =
      on_test (any (in_change s j) (all_changes s)) (λ e. e)
      (λ e. absurd (chained_covers s (length t.facilities) j chained (rw all_sorted at (each_sort (none_each (in_change s j) (all_changes s) e))) from below))

  -- and each from there up to T lies in a section
  not_stray : (j : ℕ) → 4 ≤ j → j < end_of s → stray_at s j ≡ false
  unfolding stray_at
  not_stray j from below =
      elim (dec_le (changes_end t) j) [
        | yes h ↦ rw (r.covered j h below) (and-false (not (any (in_change s j) (all_changes s))))
        | no h ↦ rw (changes_whole j from (omega arith))
      ]

  -- so there is none
  pub none_stray : stray_bytes s ≡ 0
  unfolding stray_bytes
  none_stray = counted_none (stray_at s) 4 (end_of s) not_stray

  -- ---- what is read

  -- the full list is the changes as they were laid, newest first
  full_list_lem : full_list s (all_asked s) ≡ from_newest t
  full_list_lem = all_asked_lem s ∙ all_sorted

  -- turned round it is read as what was given
  pub changes_back : map (seen_in s) (reverse (full_list s (all_asked s))) ≡ map seen t.changes
  changes_back = rw (full_list_lem, reverse-reverse) (laid_given t s r short kept).told
