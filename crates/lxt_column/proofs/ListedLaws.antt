-- The laws of the items of a list: the sum of their widths, and what each of them asks.
use Prim.Native.Nat.{ℕ, ◌≤◌, ◌<◌}
use mathlib.Core.Path.{◌≡◌, refl}
use mathlib.Core.Bool.{true, false}
use mathlib.Core.List.{List}
use lib.ListN.{length, get_or}
use lib.IntN.{ℤ}
use lib.Dec.{ltb}
use native.Mathlib.Omega.{arith}
use borrow.Author.Tests.{ltb-true}
use Rattle.lxt_format.specs.Limits.{widest_facility}
use Rattle.lxt_format.specs.Basics.{total}
use Rattle.lxt_format.specs.BasicsLaws.{all_at}
use Rattle.lxt_format.specs.Sections.{facility_count}
use Rattle.lxt_format.specs.Geometry.{geometry_allowed, is_alias, own_facts, root_of, facts_of, sync_of}
use Rattle.lxt_format.specs.Changes.{chain_of}
use Rattle.lxt_format.specs.declared.Facts.{Facts}
use Rattle.lxt_tables.specs.Stage.{Geometry}
use Rattle.lxt_tables.specs.Asked.{Resolved}
use Rattle.lxt_tables.specs.declared.Tables.{Tables}
use Rattle.lxt_tables.proofs.TablesLaws.{tables_known}
use Rattle.lxt_values.specs.Times.{Limit, found_at, first_below, visited_to}
use Rattle.std.specs.Prelude.{Option}
use Rattle.lxt_column.specs.Listing.{Listed, Rooted}
use Rattle.lxt_column.proofs.ItemLaws.{root_known, facts_ask, width_small, Found, item_found}
use Rattle.lxt_column.proofs.ListLaws.{total_most}

pub below_at : (s : List ℕ) (t : Tables) (asked : List ℕ) → Listed s t asked → (i : ℕ) → i < length asked → get_or asked i 0 < facility_count s
below_at s t asked w i below = ltb-true _ _ (all_at (λ f. ltb f (facility_count s)) asked i 0 w.below below)

module _ {s : List ℕ} {t : Tables} {asked roots : List ℕ} (w : Listed s t asked × Resolved s t.facilities true roots) where
  -- the widths together fit any number of 64 bits
  pub widths_most : total (λ f. (facts_of s f).width) asked ≤ 16777216
  widths_most =
      let each = total_most (λ f. (facts_of s f).width) widest_facility asked (λ i below. width_small s t w.0.accepted w.0.tables (get_or asked i 0) (below_at s t asked w.0 i below)) in
      omega (arith, w.0.short)

  pub geometry_asks : Geometry s t.geometry t.facilities
  geometry_asks = (tables_known s t w.0.tables w.0.accepted).geometry_at

  module _ {i : ℕ} (below : i < length asked) where
    abbrev number : ℕ
    number = get_or asked i 0

    inside : number < t.facilities
    inside = let k = tables_known s t w.0.tables w.0.accepted in rw k.facilities (below_at s t asked w.0 i below)

    pub number_small : number < 4096
    number_small = let k = tables_known s t w.0.tables w.0.accepted in omega (arith, inside, k.few)

    -- its root stands in the table
    pub root_inside : number < length roots
    root_inside = omega (arith, inside, w.1.room)

    pub root_is : get_or roots number 0 ≡ root_of s number
    root_is = w.1.roots_are refl number inside

    pub facts_asked_lem : (get_or roots number 0 < t.facilities)
        × ((geometry_allowed s (get_or roots number 0) ≡ true) × (is_alias s (get_or roots number 0) ≡ false))
    facts_asked_lem = facts_ask s t w.0.accepted w.0.tables number (below_at s t asked w.0 i below) (get_or roots number 0) root_is

    pub width_is : {facts : Facts} → facts ≡ own_facts s (get_or roots number 0) → facts.width ≡ (facts_of s number).width
    unfolding facts_of
    width_is e = rw (e, root_is)

    pub rooted : Rooted s t (get_or roots number 0)
    rooted = root_known s t w.0.accepted w.0.tables number (below_at s t asked w.0 i below) (get_or roots number 0) root_is

    pub listed_found : {time : ℤ} {P : ℕ} → Limit s time P → {o : Option ℕ} {visited : ℕ}
        → (o ≡ found_at (first_below P (chain_of s (sync_of s (get_or roots number 0))))) × (visited ≡ visited_to P (chain_of s (sync_of s (get_or roots number 0))))
        → {facts : Facts} → facts ≡ own_facts s (get_or roots number 0) → Found s t time number facts o visited
    listed_found limit found known =
        item_found s t w.0.accepted w.0.tables number (below_at s t asked w.0 i below) (get_or roots number 0) root_is _ _ limit _ _ found _ known
