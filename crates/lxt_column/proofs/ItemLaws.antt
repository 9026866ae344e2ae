-- The laws of one item of a column.
use Prim.Native.Nat.{ℕ, ◌≤◌, ◌<◌}
use mathlib.Core.Path.{◌≡◌, refl, ◌∙◌, ap}
use mathlib.Core.Bool.{true, false}
use mathlib.Core.List.{List}
use lib.ListN.{length, length-replicate}
use lib.IntN.{ℤ}
use native.Mathlib.Omega.{arith}
use borrow.Author.Tests.{lt-ltb}
use Rattle.lxt_format.proofs.JudgeLaws.{accepted, root_sound}
use Rattle.lxt_values.proofs.SoundChains.{chain_readable}
use Rattle.lxt_format.specs.Limits.{widest_facility}
use Rattle.lxt_format.specs.Sections.{facility_count, initial_of}
use Rattle.lxt_format.specs.Geometry.{flags_of, msb_of, lsb_of, kind_of_flags, geometry_allowed, is_alias, width_between, facts_by, own_facts, root_of, facts_of, sync_of}
use Rattle.lxt_format.specs.Changes.{chain_of}
use Rattle.lxt_format.specs.Values.{symbol_of, content_by, latest_at, change_at, visited_in, visited_at, content_at, source_by, text_at}
use Rattle.lxt_format.specs.Judge.{file_refusal, fault_from}
use Rattle.lxt_format.specs.Questions.{facility_refusal, written}
use Rattle.lxt_format.specs.declared.Facts.{Facts}
use Rattle.lxt_format.specs.declared.Kind.{Kind}
use Rattle.lxt_format.specs.declared.Kind.TheVariants.{Bits, Integer, Real, Text}
use Rattle.lxt_tables.specs.Stage.{tables_of}
use Rattle.lxt_tables.specs.Asked.{Sync}
use Rattle.lxt_tables.specs.declared.Tables.{Tables}
use Rattle.lxt_tables.proofs.TablesLaws.{Known, tables_known, entry_allowed, root_in, root_plain, width_most}
use Rattle.lxt_values.specs.Times as Ti
use Rattle.lxt_values.specs.Times.{Limit, Readable, found_at, first_below, visited_to}
use Rattle.std.specs.Prelude.{Option, Some, None}
use Rattle.lxt_values.specs.Value.{Readies, Shows, start_content, content_from}
use Rattle.lxt_values.proofs.TimeLaws.{latest_found}
use Rattle.lxt_values.proofs.StartLaws.{content_at_lem}
use Rattle.lxt_values.proofs.ReadLaws.{bits_drawn, integer_drawn, symbols_long}
use Rattle.lxt_reader.specs.Changing.{chain_at}
use Rattle.lxt_reader.specs.declared.changes.Chain.{Chain}
use Rattle.lxt_reader.proofs.ChangeWays.{Chained, chain_of_fine}
use Rattle.lxt_reader.proofs.ValueWays.{chain_there, latest_fine, visited_fits, readies}
use Rattle.lxt_column.specs.Listing.{Rooted}

-- ---- how many symbols a value has

long_by : (s : List ℕ) (end : ℕ) (order : List ℕ) (kind : Kind) (msb lsb code : ℕ) (latest : Option ℕ) (room : ℕ)
    → ((o : ℕ) → latest ≡ Some o → Readies s end order (facts_by kind msb lsb).kind (facts_by kind msb lsb).width o room)
    → length (written (content_from s code (facts_by kind msb lsb).kind (facts_by kind msb lsb).width latest)) ≡ (facts_by kind msb lsb).width
unfolding facts_by content_from start_content content_by written
long_by s end order Bits msb lsb code None room ready = length-replicate (width_between msb lsb) (symbol_of code)
long_by s end order Bits msb lsb code (Some o) room ready =
    let width : ℕ = width_between msb lsb in
    symbols_long s width o (bits_drawn s end order Bits width o room (ready o refl) refl).0
long_by s end order Integer msb lsb code None room ready = length-replicate 32 (symbol_of code)
long_by s end order Integer msb lsb code (Some o) room ready = symbols_long s 32 o (integer_drawn s end order Integer 32 o room (ready o refl) refl).0
long_by s end order Real msb lsb code None room ready = refl
long_by s end order Real msb lsb code (Some o) room ready = refl
long_by s end order Text msb lsb code None room ready = refl
long_by s end order Text msb lsb code (Some o) room ready = refl

-- ---- a facility of an accepted file

module _ (s : List ℕ) (t : Tables) (file_fine : file_refusal s ≡ 0) (e : t ≡ tables_of s) (f : ℕ) (below : f < facility_count s) where
  tables_of_lem : Known s t
  tables_of_lem = tables_known s t e file_fine

  -- its root
  pub root_below : root_of s f < facility_count s
  root_below = root_in s tables_of_lem.passed f below

  root_no_alias : is_alias s (root_of s f) ≡ false
  root_no_alias = root_plain s tables_of_lem.passed f below

  pub root_known : (root : ℕ) → root ≡ root_of s f → Rooted s t root
  root_known root er = record { accepted = file_fine; tables = e; below = rw er root_below; plain = rw er root_no_alias }

  -- what the facts of its root ask
  pub facts_ask : (root : ℕ) → root ≡ root_of s f
      → (root < t.facilities) × ((geometry_allowed s root ≡ true) × (is_alias s root ≡ false))
  facts_ask root er =
      let k = tables_of_lem in
      (rw (er, k.facilities) root_below, (rw er (entry_allowed s k.passed (root_of s f) root_below), rw er root_no_alias))

  pub width_small : (facts_of s f).width ≤ widest_facility
  unfolding facts_of
  width_small = width_most s (root_of s f) (entry_allowed s tables_of_lem.passed (root_of s f) root_below) root_no_alias

  -- its chain, as a question about it finds it
  abbrev chain : Chain
  chain = record { start = sync_of s (root_of s f); facts = facts_of s f; tables = t }

  facility_fine : facility_refusal s f ≡ 0
  unfolding facility_refusal
  facility_fine = rw (file_fine, lt-ltb f (facility_count s) below)

  chained : Chained s f chain
  unfolding chain_at
  chained = chain_of_fine s f chain facility_fine (rw e)

  -- the symbols that it writes are as many as it is wide
  pub written_width : (time : ℤ) → length (written (content_at s (root_of s f) time)) ≡ (facts_of s f).width
  unfolding facts_of own_facts
  written_width time =
      let way = chain_of s (sync_of s (root_of s f)) in
      let latest : Option ℕ = found_at (latest_at s time way) in
      let ready : (o : ℕ) → latest ≡ Some o → Readies s t.end t.order (facts_of s f).kind (facts_of s f).width o (facts_of s f).width =
      λ o e. readies s f chain chained o (facts_of s f).width
      (latest_fine s f time chain chained latest (visited_in s time way) (refl, refl) o e) (omega arith) in
      let is : content_from s (initial_of s) (facts_of s f).kind (facts_of s f).width latest ≡ content_at s (root_of s f) time =
      content_at_lem s (root_of s f) time latest (unfold change_at in refl) in
      rw (← is) (long_by s _ _ (kind_of_flags (flags_of s (root_of s f))) (msb_of s (root_of s f)) (lsb_of s (root_of s f)) (initial_of s) latest _ ready)

-- ---- its latest change at a time, by the limit of the time

module _ (s : List ℕ) (t : Tables) (file_fine : file_refusal s ≡ 0) (e : t ≡ tables_of s) (f : ℕ) (below : f < facility_count s) (root : ℕ) (er : root ≡ root_of s f)
    (time : ℤ) (P : ℕ) (limit : Limit s time P) (o : Option ℕ) (visited : ℕ) (found : (o ≡ found_at (first_below P (chain_of s (sync_of s root)))) × (visited ≡ visited_to P (chain_of s (sync_of s root)))) where
  latest : (o ≡ found_at (latest_at s time (chain_of s (sync_of s (root_of s f))))) × (visited ≡ visited_in s time (chain_of s (sync_of s (root_of s f))))
  latest =
      let here = rw er at found in
      latest_found s time P (sync_of s (root_of s f)) o visited limit (chain_there s f (chain s t file_fine e f below) (chained s t file_fine e f below)) here

  pub item_visited : visited ≡ visited_at s (root_of s f) time
  unfolding visited_at
  item_visited = latest.1

  pub visited_small : visited < 4294967296
  visited_small = visited_fits s f time (chain s t file_fine e f below) (chained s t file_fine e f below) o visited latest

  module _ (facts : Facts) (ef : facts ≡ own_facts s root) where
    same_facts : facts ≡ facts_of s f
    unfolding facts_of
    same_facts = ef ∙ rw er

    pub item_width : facts.width ≡ (facts_of s f).width
    item_width = ap (λ a. a.width) same_facts

    -- it can be read, with enough room
    pub item_shows : (room : ℕ) → (facts_of s f).width ≤ room → Shows s t.end t.order facts.kind facts.width o room
    item_shows room enough =
        let c = chain s t file_fine e f below in
        let w = chained s t file_fine e f below in
        rw same_facts
        (record {
          enough = enough;
          ready = λ p e. readies s f c w p room (latest_fine s f time c w o visited latest p e) enough;
        })

    -- and is the value at the time
    pub item_content : content_from s t.initial facts.kind facts.width o ≡ content_at s (root_of s f) time
    unfolding facts_of
    item_content =
        let k = tables_known s t e file_fine in
        rw (same_facts, k.initial) (content_at_lem s (root_of s f) time o (unfold change_at in latest.0))

    pub item_text : (lent : ℕ) → source_by facts.kind (content_from s t.initial facts.kind facts.width o) lent ≡ text_at s (root_of s f) time lent
    unfolding text_at facts_of
    item_text lent = ap (λ value. source_by facts.kind value lent) item_content ∙ rw same_facts

-- ---- a root

module _ {s : List ℕ} {t : Tables} {root : ℕ} (w : Rooted s t root) where
  pub sync_asks : Sync s t.sync t.facilities × (root < t.facilities)
  sync_asks =
      let k = tables_known s t w.tables w.accepted in
      (k.sync_at, rw k.facilities w.below)

  pub root_readable : Readable s (chain_of s (sync_of s root))
  unfolding fault_from
  root_readable =
      let k = tables_known s t w.tables w.accepted in
      chain_readable s _ (sync_of s root) (root_sound s (accepted s w.accepted).chains root w.below w.plain) (omega (arith, k.end_high, k.end))

  pub root_small : root < 4096
  root_small =
      let k = tables_known s t w.tables w.accepted in
      omega (arith, k.few, k.facilities, w.below)

-- ---- the time table

pub times_ask : (s : List ℕ) (t : Tables) → file_refusal s ≡ 0 → t ≡ tables_of s → Ti.Times s t.times t.time_count t.wide_times
times_ask s t file_fine e =
    let k = tables_known s t e file_fine in
    record { start = k.times; count = k.time_count_lem; form = k.wide; inside = k.times_at_lem.inside; end = omega (arith, k.end_high); allowed = k.passed.times }

-- ---- an item that was found and whose facts are known

pub record Found (s : List ℕ) (t : Tables) (time : ℤ) (f : ℕ) (facts : Facts) (o : Option ℕ) (visited : ℕ) : Type 0 where
  pub width_is : facts.width ≡ (facts_of s f).width
  pub shows : (room : ℕ) → (facts_of s f).width ≤ room → Shows s t.end t.order facts.kind facts.width o room
  pub content : content_from s t.initial facts.kind facts.width o ≡ content_at s (root_of s f) time
  pub source : (lent : ℕ) → source_by facts.kind (content_from s t.initial facts.kind facts.width o) lent ≡ text_at s (root_of s f) time lent
  pub visited_is : visited ≡ visited_at s (root_of s f) time
  pub few : visited < 4294967296
  pub long : length (written (content_at s (root_of s f) time)) ≡ (facts_of s f).width

pub item_found : (s : List ℕ) (t : Tables) (file_fine : file_refusal s ≡ 0) (e : t ≡ tables_of s) (f : ℕ) (below : f < facility_count s) (root : ℕ) → root ≡ root_of s f
    → (time : ℤ) (P : ℕ) → Limit s time P → (o : Option ℕ) (visited : ℕ) → (o ≡ found_at (first_below P (chain_of s (sync_of s root)))) × (visited ≡ visited_to P (chain_of s (sync_of s root)))
    → (facts : Facts) → facts ≡ own_facts s root → Found s t time f facts o visited
item_found s t file_fine e f below root er time P limit o visited found facts ef =
    record {
      width_is = item_width s t file_fine e f below root er time P limit o visited found facts ef;
      shows = item_shows s t file_fine e f below root er time P limit o visited found facts ef;
      content = item_content s t file_fine e f below root er time P limit o visited found facts ef;
      source = item_text s t file_fine e f below root er time P limit o visited found facts ef;
      visited_is = item_visited s t file_fine e f below root er time P limit o visited found;
      few = visited_small s t file_fine e f below root er time P limit o visited found;
      long = written_width s t file_fine e f below time;
    }
