-- Checks 15, 16 and 17 together, over changes by falling offset.
use Rattle.std.specs.Prelude.{ℕ, ◌+◌, ◌-◌, ◌≤◌, ◌<◌, ◌≡◌, Bool, true, false, ◌&&◌, List, [], ◌∷◌, length, get_or, leb, eqb, if◌then◌else◌, Option, Some, None}
use Rattle.lxt_format.specs.Basics.{Answer, answer, all}
use Rattle.lxt_format.specs.Sections.{end_of}
use Rattle.lxt_format.specs.Geometry.{is_alias, own_facts}
use Rattle.lxt_format.specs.Changes.{fault_at, clean_at}
use Rattle.lxt_format.specs.Judge.{signal_of, end_at, all_clean}
use Rattle.lxt_format.specs.Walk.{sort}
use Rattle.lxt_format.specs.declared.Pair.{Pair}
use Rattle.lxt_chains.specs.Pending.{pair_of, pending_changes, root_offsets}
use Rattle.lxt_chains.specs.Reading.{Ready, chains_verdict}
use Rattle.lxt_chains.specs.Groups.{bits_width, kind_number}
use Rattle.lxt_chains.specs.Windows.{window, Holds, Upto}
use Rattle.lxt_chains.specs.Free.{free_around, Ordered}
use Rattle.lxt_chains.specs.declared.chains.Chains.{Chains}
use Rattle.lxt_changes.specs.Keeping.{kept_with}
use Rattle.lxt_changes.specs.declared.keep.Kept.{Kept}
use Rattle.lxt_chains.specs.declared.sweep.Swept.{Swept}
use Rattle.lxt_chains.specs.declared.sweep.Totals.{Totals}

-- a change breaks no rule of 15 or 16 and ends at or below a bound
unfoldable pub keeps : List ℕ → ℕ → Pair → Bool
keeps s bound p = eqb (fault_at s (signal_of s p.number) p.offset) 0 && leb (end_at s p) bound

-- so does each of a list, the start of each being the bound of the next
unfoldable pub fitting : List ℕ → ℕ → List Pair → Bool
fitting s bound [] = true
fitting s bound (p ∷ l) = keeps s bound p && fitting s p.offset l

-- the padding of a change was clean, and that of each of a list
unfoldable pub padding_of : List ℕ → Pair → Bool
padding_of s p = clean_at s (signal_of s p.number) p.offset

unfoldable pub cleanly : List ℕ → List Pair → Bool
cleanly s l = all (padding_of s) l

-- the changes from pending offsets on, by falling offset
abbrev pub left : List ℕ → List ℕ → List Pair
left s os = sort (pending_changes s 0 os)

-- what was found of one change
pub record Tested (s : List ℕ) (bound f o : ℕ) (r : Option Kept) : Type 0 where
  pub told : r ≡ kept_with (keeps s bound (pair_of f o)) (padding_of s (pair_of f o)) (end_at s (pair_of f o))

-- the kind and width of a root as a group of its own (Groups)
pub record OfRoot (s : List ℕ) (f width kinds : ℕ) : Type 0 where
  pub width_is : width ≡ bits_width (own_facts s f).kind (own_facts s f).width
  pub kinds_are : kinds ≡ kind_number (own_facts s f).kind

-- a pending offset for each facility, 0 for an alias, and the kind and width of those that are not 0
pub record Rooted (s : List ℕ) (c : Chains) (widths kinds os : List ℕ) : Type 0 where
  pub long : length os ≡ c.facilities
  pub widths_long : length widths ≡ c.facilities
  pub kinds_long : length kinds ≡ c.facilities
  pub roots : (f : ℕ) → 0 < get_or os f 0 → is_alias s f ≡ false
  pub facts : (f : ℕ) → 0 < get_or os f 0 → OfRoot s f (get_or widths f 0) (get_or kinds f 0)

-- the slots of the window from base on hold the pending offsets, of which none is at i or above it
pub record Sweeping (s : List ℕ) (c : Chains) (base i : ℕ) (widths kinds os slots : List ℕ) : Type 0 where
  pub rooted : Rooted s c widths kinds os
  pub holds : Holds base c.facilities os slots
  pub upto : Upto os (base + i - 1)

-- what a visit of slot i asks: an offset is pending there and none above it, and the free bytes counted so far leave room for those below the bound
pub record Visiting (s : List ℕ) (c : Chains) (parts : List ℕ) (base i : ℕ) (widths kinds os slots : List ℕ) (above : Swept) : Type 0 where
  pub ready : Ready s c
  pub sweeping : Sweeping s c base (i + 1) widths kinds os slots
  pub low : base ≤ c.end
  pub inside : i < window
  pub some : get_or slots i 0 ≡ 0 → ⊥
  pub room : above.free + above.bound ≤ c.end
  pub ordered : Ordered parts

-- the changes from the offsets os on fit below the bound and are clean exactly where those from os₀ on are below bound₀, so far as that is not known; and
-- with the free bytes that were counted there are as many around them
pub record Same (s parts os₀ : List ℕ) (bound₀ : ℕ) (clean₀ : Bool) (free₀ : ℕ) (os : List ℕ) (bound : ℕ) (clean : Bool) (free : ℕ) : Type 0 where
  pub fits : fitting s bound (left s os) ≡ fitting s bound₀ (left s os₀)
  pub cleans : (clean && cleanly s (left s os)) ≡ (clean₀ && cleanly s (left s os₀))
  pub frees : free + free_around s parts bound (left s os) ≡ free₀ + free_around s parts bound₀ (left s os₀)

-- what a part of the sweep leaves where it kept the rules: all below i is still pending and all above it was counted
pub record Gone (s : List ℕ) (c : Chains) (parts : List ℕ) (base i : ℕ) (widths kinds os₀ : List ℕ) (bound₀ : ℕ) (clean₀ : Bool) (free₀ : ℕ) (os slots : List ℕ) (n : Swept) : Type 0 where
  pub state : Sweeping s c base i widths kinds os slots
  pub same : Same s parts os₀ bound₀ clean₀ free₀ os n.bound n.clean n.free
  pub bounded : n.free + n.bound ≤ c.end

-- that, or a rule is broken
pub record Went (s : List ℕ) (c : Chains) (parts : List ℕ) (base i : ℕ) (widths kinds os₀ : List ℕ) (bound₀ : ℕ) (clean₀ : Bool) (free₀ : ℕ) (os slots : List ℕ) (r : Option Swept) : Type 0 where
  pub gone : (n : Swept) → r ≡ Some n → Gone s c parts base i widths kinds os₀ bound₀ clean₀ free₀ os slots n
  pub broken : r ≡ None → fitting s bound₀ (left s os₀) ≡ false

-- what the whole sweep finds where all changes keep the rules: whether their padding was clean, and how many bytes are free
abbrev pub totals_of : List ℕ → List ℕ → List ℕ → Totals
totals_of s parts os = record { clean = cleanly s (left s os); free = free_around s parts (end_of s) (left s os) }

pub record SweptAll (s parts os : List ℕ) (r : Option Totals) : Type 0 where
  pub told : r ≡ (if fitting s (end_of s) (left s os) then Some (totals_of s parts os) else None)

-- what is found of the changes of a file: whether their padding was clean, and how many bytes are free; or the refusal, 15 to 17
unfoldable pub outcome_of : List ℕ → List ℕ → Totals
outcome_of s parts = record { clean = all_clean s; free = free_around s parts (end_of s) (left s (root_offsets s)) }

abbrev pub outcome : List ℕ → List ℕ → Answer Totals
outcome s parts = answer (chains_verdict s) (outcome_of s parts)
