-- Groups of roots that are on one chain from some offset on. A change that is a fault for bits of one width is a fault for every greater one, so
-- a group is tested by the greatest width of its bits, and once for each other kind.
use Rattle.std.specs.Prelude.{ℕ, suc, ◌+◌, ◌-◌, ◌*◌, ◌/◌, ◌%◌, ◌≤◌, ◌<◌, max, ◌≡◌, Bool, true, false, not, ◌&&◌, ◌||◌, List, length, get_or, set, eqb, Option, Some, None}
use Rattle.lxt_format.specs.Limits.{most_facilities, widest_facility}
use Rattle.lxt_format.specs.Sections.{changes_from, end_of}
use Rattle.lxt_format.specs.Geometry.{is_alias, own_facts}
use Rattle.lxt_format.specs.Changes.{Signal, signal, fault_at, chain_fault}
use Rattle.lxt_format.specs.Judge.{fault_from}
use Rattle.lxt_format.specs.declared.Kind.{Kind}
use Rattle.lxt_format.specs.declared.Kind.TheVariants.{Bits, Integer, Real, Text}
use Rattle.lxt_changes.specs.Windows.{Known}
use Rattle.lxt_changes.specs.declared.symbols.Window.{Window}
use Rattle.lxt_chains.specs.Windows.{window, Inside, Holds, Upto}
use Rattle.lxt_chains.specs.declared.chains.Chains.{Chains}

-- ---- the kinds of a group: the greatest width of its bits, 0 where it has none; and the sum of 1 for integers, 2 for reals and 4 for texts

unfoldable pub has : ℕ → ℕ → Kind → Bool
has width kinds Bits = not (eqb width 0)
has width kinds Integer = eqb (kinds % 2) 1
has width kinds Real = eqb (kinds / 2 % 2) 1
has width kinds Text = eqb (kinds / 4 % 2) 1

unfoldable pub width_as : ℕ → Kind → ℕ
width_as width Bits = width
width_as width Integer = 32
width_as width Real = 0
width_as width Text = 0

-- how the changes of a group are read as those of a kind
abbrev pub group_signal : List ℕ → ℕ → Kind → Signal
group_signal s width kind = signal (changes_from s) (end_of s) kind (width_as width kind)

-- a group of one root, with that kind and width
unfoldable pub bits_width : Kind → ℕ → ℕ
bits_width Bits width = width
bits_width Integer width = 0
bits_width Real width = 0
bits_width Text width = 0

unfoldable pub kind_number : Kind → ℕ
kind_number Bits = 0
kind_number Integer = 1
kind_number Real = 2
kind_number Text = 4

-- the kinds of two groups
unfoldable pub both_kinds : ℕ → ℕ → ℕ
both_kinds a b = max (a % 2) (b % 2) + (2 * max (a / 2 % 2) (b / 2 % 2) + 4 * max (a / 4 % 2) (b / 4 % 2))

-- ---- faults

-- a change breaks a rule of 15 or 16, read as one of a kind and width that are asked for
pub record FaultAs (s : List ℕ) (asked : Bool) (kind : Kind) (width o : ℕ) : Type 0 where
  pub for : asked ≡ true
  pub fault : fault_at s (signal (changes_from s) (end_of s) kind width) o ≡ 0 → ⊥

-- it breaks none of them, or is not asked for
unfoldable pub kept_as : List ℕ → Bool → Kind → ℕ → ℕ → Bool
kept_as s asked kind width o = not asked || eqb (fault_at s (signal (changes_from s) (end_of s) kind width) o) 0

-- it breaks none, read as one of a group's kinds but bits
unfoldable pub others_kept : List ℕ → ℕ → ℕ → Bool
others_kept s kinds o = kept_as s (eqb (kinds % 2) 1) Integer 32 o && (kept_as s (eqb (kinds / 2 % 2) 1) Real 0 o && kept_as s (eqb (kinds / 4 % 2) 1) Text 0 o)

-- read as one of a group's kinds
pub record FaultyAt (s : List ℕ) (width kinds o : ℕ) : Type 0 where
  pub kind : Kind
  pub faulty : FaultAs s (has width kinds kind) kind (width_as width kind) o

-- so does a change of a chain
pub record GroupFault (s : List ℕ) (width kinds o : ℕ) : Type 0 where
  pub kind : Kind
  pub member : has width kinds kind ≡ true
  pub fault : chain_fault s (group_signal s width kind) o ≡ 0 → ⊥

-- and one of the chain of some group
pub record Faulty (s os widths kinds : List ℕ) : Type 0 where
  pub group : ℕ
  pub faulty : GroupFault s (get_or widths group 0) (get_or kinds group 0) (get_or os group 0)

-- whether something was found
pub record Decides (P : Type 0) (r : Bool) : Type 0 where
  pub yes : r ≡ true → P
  pub no : r ≡ false → P → ⊥

-- what was found of a change: it passes exactly where it is no fault; and the bytes that are known to be good after that
pub record Judges (s : List ℕ) (P : Type 0) (r : Option Window) : Type 0 where
  pub passed : (w : Window) → r ≡ Some w → P → ⊥
  pub failed : r ≡ None → P
  pub known : (w : Window) → r ≡ Some w → Known s w

-- a kind of a group
pub record Member (width kinds : ℕ) : Type 0 where
  pub kind : Kind
  pub is : has width kinds kind ≡ true

-- ---- the groups of pending offsets

-- each pending offset has a group with some kind, whose width is not too great
pub record Groups (os widths kinds : List ℕ) : Type 0 where
  pub few : length os ≤ most_facilities
  pub widths_long : length widths ≡ length os
  pub kinds_long : length kinds ≡ length os
  pub narrow : (f : ℕ) → 0 < get_or os f 0 → get_or widths f 0 ≤ widest_facility
  pub members : (f : ℕ) → 0 < get_or os f 0 → Member (get_or widths f 0) (get_or kinds f 0)

-- the slots of the window from base on hold the pending offsets, of which none is at i or above it
pub record Grouped (c : Chains) (base i : ℕ) (os slots widths kinds : List ℕ) : Type 0 where
  pub groups : Groups os widths kinds
  pub holds : Holds base (length os) os slots
  pub upto : Upto os (base + i - 1)
  pub low : base ≤ c.end

-- some group has a fault now exactly where one had before
pub record Alike (s os₀ widths₀ kinds₀ os widths kinds : List ℕ) : Type 0 where
  pub long : length os ≡ length os₀
  pub forth : Faulty s os₀ widths₀ kinds₀ → Faulty s os widths kinds
  pub back : Faulty s os widths kinds → Faulty s os₀ widths₀ kinds₀

-- group f can be put into the slot of its pending offset, or added to the group that holds it
pub record Settles (base f : ℕ) (os slots widths kinds : List ℕ) : Type 0 where
  pub number : f < length os
  pub few : length os ≤ most_facilities
  pub widths_long : length widths ≡ length os
  pub kinds_long : length kinds ≡ length os
  pub long : length slots ≡ window
  pub upto : get_or os f 0 < base + window
  pub numbers : (i g : ℕ) → get_or slots i 0 ≡ suc g → g < length os

-- its offset lies outside the window, or it was put, or it was added to group g and is no longer pending
pub data Settling (base f : ℕ) (os slots widths kinds os' slots' widths' kinds' : List ℕ) : Type 0 where
  outside : (Inside base (get_or os f 0) → ⊥) → os' ≡ os → slots' ≡ slots → widths' ≡ widths → kinds' ≡ kinds
      → Settling base f os slots widths kinds os' slots' widths' kinds'
  put : Inside base (get_or os f 0) → get_or slots (get_or os f 0 - base) 0 ≡ 0 → os' ≡ os → slots' ≡ set slots (get_or os f 0 - base) (suc f) → widths' ≡ widths → kinds' ≡ kinds
      → Settling base f os slots widths kinds os' slots' widths' kinds'
  added : (g : ℕ) → Inside base (get_or os f 0) → get_or slots (get_or os f 0 - base) 0 ≡ suc g → os' ≡ set os f 0 → slots' ≡ slots
      → widths' ≡ set widths g (max (get_or widths g 0) (get_or widths f 0)) → kinds' ≡ set kinds g (both_kinds (get_or kinds g 0) (get_or kinds f 0))
      → Settling base f os slots widths kinds os' slots' widths' kinds'

-- the slots hold the pending offsets of the first n groups in the window from base on, and the groups are like the ones before
pub record Entered (base n : ℕ) (os₀ widths₀ kinds₀ os slots widths kinds : List ℕ) : Type 0 where
  pub groups : Groups os widths kinds
  pub holds : Holds base n os slots
  pub upto : Upto os (base + window - 1)
  pub long : length os ≡ length os₀
  pub alike : (s : List ℕ) → end_of s ≤ length s → Alike s os₀ widths₀ kinds₀ os widths kinds

-- after a part of the pass the groups are alike, their slots hold them, and nothing at i or above it is pending
pub record Reached (s : List ℕ) (c : Chains) (base i : ℕ) (os₀ widths₀ kinds₀ os slots widths kinds : List ℕ) : Type 0 where
  pub state : Grouped c base i os slots widths kinds
  pub alike : Alike s os₀ widths₀ kinds₀ os widths kinds

-- what a part of the pass leaves: that, or a fault
pub record Passes (s : List ℕ) (c : Chains) (base i : ℕ) (os₀ widths₀ kinds₀ os slots widths kinds : List ℕ) (r : Option Window) : Type 0 where
  pub reached : (w : Window) → r ≡ Some w → Reached s c base i os₀ widths₀ kinds₀ os slots widths kinds
  pub failed : r ≡ None → Faulty s os₀ widths₀ kinds₀
  pub known : (w : Window) → r ≡ Some w → Known s w

-- room for the kinds and widths of groups
pub record Room (os widths kinds : List ℕ) : Type 0 where
  pub widths_long : length widths ≡ length os
  pub kinds_long : length kinds ≡ length os

-- where the offset o of facility f is pending, that one is a group of its own; the others stay
pub record Alone (s : List ℕ) (f o : ℕ) (widths kinds widths' kinds' : List ℕ) : Type 0 where
  pub widths_long : length widths' ≡ length widths
  pub kinds_long : length kinds' ≡ length kinds
  pub width_is : 0 < o → get_or widths' f 0 ≡ bits_width (own_facts s f).kind (own_facts s f).width
  pub kinds_are : 0 < o → get_or kinds' f 0 ≡ kind_number (own_facts s f).kind
  pub narrow : 0 < o → (own_facts s f).width ≤ widest_facility
  pub other_widths : (g : ℕ) → (g ≡ f → ⊥) → get_or widths' g 0 ≡ get_or widths g 0
  pub other_kinds : (g : ℕ) → (g ≡ f → ⊥) → get_or kinds' g 0 ≡ get_or kinds g 0

-- each pending facility below n is one
pub record Single (s : List ℕ) (n : ℕ) (os widths kinds : List ℕ) : Type 0 where
  pub room : Room os widths kinds
  pub width_is : (f : ℕ) → f < n → 0 < get_or os f 0 → get_or widths f 0 ≡ bits_width (own_facts s f).kind (own_facts s f).width
  pub kinds_are : (f : ℕ) → f < n → 0 < get_or os f 0 → get_or kinds f 0 ≡ kind_number (own_facts s f).kind
  pub narrow : (f : ℕ) → f < n → 0 < get_or os f 0 → (own_facts s f).width ≤ widest_facility

-- the offsets of facilities that are no aliases
pub record Roots (s : List ℕ) (c : Chains) (os : List ℕ) : Type 0 where
  pub few : length os ≤ c.facilities
  pub roots : (f : ℕ) → 0 < get_or os f 0 → is_alias s f ≡ false

-- the chain of a pending offset breaks a rule of 15 or 16
pub record ChainFault (s os : List ℕ) : Type 0 where
  pub number : ℕ
  pub fault : fault_from s number (get_or os number 0) ≡ 0 → ⊥
