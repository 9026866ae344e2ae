-- Paper 01, "Refusal numbers": the refusals of a file, 1 to 17, in their order.
use Rattle.std.specs.Prelude.{ℕ, Bool, true, ◌&&◌, ◌||◌, List, [], ◌∷◌, map, leb}
use Rattle.lxt_format.specs.Basics.{◌unless◌, ◌or_else◌, Answer, answer, all, joined, first_fault}
use Rattle.lxt_format.specs.Sections.{length_allowed, starts_right, ends_right, listing_of, nothing_compressed, times_once, sections_present, bodies_inside, count_allowed, facility_count, changes_from, end_of, timescale_of, initial_of}
use Rattle.lxt_format.specs.Names.{names_allowed}
use Rattle.lxt_format.specs.Geometry.{geometries_allowed, aliases_allowed, roots_of, own_facts, sync_of}
use Rattle.lxt_format.specs.Times.{times_allowed}
use Rattle.lxt_format.specs.Reals.{real_test_allowed}
use Rattle.lxt_format.specs.Changes.{Signal, change_end, chain_of, chain_fault, chain_clean}
use Rattle.lxt_format.specs.declared.Facts.{Facts}
use Rattle.lxt_format.specs.declared.Pair.{Pair}
use Rattle.lxt_format.specs.declared.Summary.{Summary}

-- checks 1 to 14, by whether the rules of 6, 7, 8 and 13 are kept, which paper 02 changes: ShortTimes and RisingTimes put those before it in their place
unfoldable pub tables_refusal_by : Bool → Bool → Bool → Bool → List ℕ → ℕ
tables_refusal_by once there bodies times s =
    1 unless length_allowed s
    or_else 2 unless starts_right s
    or_else 3 unless ends_right s
    or_else 4 unless (listing_of s).listed
    or_else 5 unless nothing_compressed s
    or_else 6 unless once
    or_else 7 unless there
    or_else 8 unless bodies
    or_else 9 unless count_allowed (facility_count s)
    or_else 10 unless names_allowed s
    or_else 11 unless geometries_allowed s
    or_else 12 unless aliases_allowed s
    or_else 13 unless times
    or_else 14 unless real_test_allowed s

-- by the rules that hold: carrying on makes these too
unfoldable pub tables_refusal : List ℕ → ℕ
tables_refusal s = tables_refusal_by (times_once s) (sections_present s) (bodies_inside s) (times_allowed s) s

-- how the changes of a facility with these facts are read, and those of the root f
abbrev pub signal_by : List ℕ → Facts → Signal
signal_by s facts = record { from = changes_from s; end = end_of s; kind = facts.kind; width = facts.width }

abbrev pub signal_of : List ℕ → ℕ → Signal
signal_of s f = signal_by s (own_facts s f)

-- the fault of the chain from the offset o on, read as one of the root f
unfoldable pub fault_from : List ℕ → ℕ → ℕ → ℕ
fault_from s f o = chain_fault s (signal_of s f) o

-- "15 and 16: facilities that are roots in order, newest change first; the first fault gives the number."
unfoldable pub chains_refusal : List ℕ → ℕ
chains_refusal s = first_fault (map (λ f. fault_from s f (sync_of s f)) (roots_of s))

-- the changes of the root f, newest first
unfoldable pub changes_of : List ℕ → ℕ → List Pair
changes_of s f = map (λ o. record { number = f; offset = o }) (chain_of s (sync_of s f))

-- the changes of all roots: "one offset reached from two roots counts as two changes"
unfoldable pub all_changes : List ℕ → List Pair
all_changes s = joined (changes_of s) (roots_of s)

-- the offset after the last byte of a change
unfoldable pub end_at : List ℕ → Pair → ℕ
end_at s p = change_end s (signal_of s p.number) p.offset

-- two changes share no byte
unfoldable pub apart : (Pair → ℕ) → Pair → Pair → Bool
apart end p q = leb (end p) q.offset || leb (end q) p.offset

-- a relation holds of any two, the earlier first
unfoldable pub pairwise : {A : Type 0} → (A → A → Bool) → List A → Bool
pairwise r [] = true
pairwise r (x ∷ l) = all (r x) l && pairwise r l

-- 17: "two changes, of one root or two, share a byte"
unfoldable pub changes_apart : List ℕ → Bool
changes_apart s = pairwise (apart (end_at s)) (all_changes s)

-- the refusal of a file, or 0 where it is accepted
unfoldable pub file_refusal : List ℕ → ℕ
file_refusal s = tables_refusal s or_else chains_refusal s or_else 17 unless changes_apart s

-- whether the padding of the chain from the offset o on, read as one of the root f, was clean
unfoldable pub clean_from : List ℕ → ℕ → ℕ → Bool
clean_from s f o = chain_clean s (signal_of s f) o

-- paper 02, Ask 6: "judging says whether every change reachable from a root was clean"
unfoldable pub all_clean : List ℕ → Bool
all_clean s = all (λ f. clean_from s f (sync_of s f)) (roots_of s)

unfoldable pub summary_of : List ℕ → Summary
summary_of s =
    record {
      facilities = facility_count s;
      changes = changes_from s;
      end = end_of s;
      timescale = timescale_of s;
      initial = initial_of s;
      clean = all_clean s;
    }

-- "Judge: n, C, T, timescale and initial symbol, or a refusal", and with Ask 6 whether all was clean
unfoldable pub judge : List ℕ → Answer Summary
judge s = answer (file_refusal s) (summary_of s)
