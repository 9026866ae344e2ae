-- The laws of the loop that puts all items of a column.
use Prim.Native.Nat.{ℕ, suc, ◌+◌, ◌*◌, ◌-◌, ◌≤◌, ◌<◌}
use mathlib.Core.Path.{◌≡◌, refl, sym, ◌∙◌}
use mathlib.Core.List.{List}
use lib.ListN.{length, get_or, set, drop, length-set}
use lib.Seq.{drop-cons}
use lib.IntN.{ℤ}
use mir.Syntax.{w64}
use mir.Val.{SFits, to_z, of_z}
use mir.ValLaws.{to_z-of_z}
use native.Mathlib.Omega.{arith}
use Rattle.lxt_format.specs.Basics.{joined}
use Rattle.lxt_format.specs.Columns.{onto}
use Rattle.lxt_format.specs.Buffers.{placed, length_placed, placed_none, placed_start, placed_more, placed_next}
use Rattle.lxt_format.specs.Geometry.{root_of, facts_of}
use Rattle.lxt_format.specs.Values.{Content, visited_at, source_by}
use Rattle.lxt_format.specs.Answers.{shown}
use Rattle.lxt_format.specs.Questions.{written, widths_of, column_bits, record_by, column_records, column_visited}
use Rattle.lxt_format.specs.declared.Facts.{Facts}
use Rattle.lxt_tables.specs.declared.Tables.{Tables}
use Rattle.std.specs.Prelude.{Option}
use Rattle.lxt_values.specs.Value.{content_from, Shows}
use Rattle.lxt_column.specs.Listing.{Remembered}
use Rattle.lxt_column.proofs.ItemLaws.{Found}
use Rattle.lxt_column.proofs.ListLaws.{drop_all, Adding, add_begun, add_ended, add_turn, add_within}

-- after i items: what is left, put from here on, gives what the whole gives
pub record Putting (s : List ℕ) (time : ℤ) (lent : ℕ) (asked bits₀ : List ℕ) (records₀ : List (List ℕ)) (end room : ℕ) (bits : List ℕ) (records : List (List ℕ)) (known : List ℕ) (start visited i : ℕ) : Type 0 where
  pub remembered : Remembered s end known
  pub widths : Adding (λ f. (facts_of s f).width) asked i start
  pub sum : Adding (λ f. visited_at s (root_of s f) time) asked i visited
  pub small : visited ≤ i * 4294967296
  pub bits_long : length bits ≡ length bits₀
  pub records_long : length records ≡ length records₀
  pub known_long : length known ≡ room
  pub bits_left : placed bits start (column_bits s time (drop i asked)) ≡ onto (column_bits s time asked) bits₀
  pub records_left : placed records i (column_records s time lent start (drop i asked)) ≡ onto (column_records s time lent 0 asked) records₀

module _ {s : List ℕ} {time : ℤ} {lent : ℕ} {asked bits₀ : List ℕ} {records₀ : List (List ℕ)} {end : ℕ} where
  pub put_begun : {known : List ℕ} → Remembered s end known → Putting s time lent asked bits₀ records₀ end (length known) bits₀ records₀ known 0 0 0
  put_begun w =
      record {
        remembered = w;
        widths = add_begun;
        sum = add_begun;
        small = omega arith;
        bits_long = refl;
        records_long = refl;
        known_long = refl;
        bits_left = placed_start bits₀ (column_bits s time asked);
        records_left = placed_start records₀ (column_records s time lent 0 asked);
      }

  module _ {room : ℕ} {bits : List ℕ} {records : List (List ℕ)} {known : List ℕ} {start visited i : ℕ} (w : Putting s time lent asked bits₀ records₀ end room bits records known start visited i) where
    pub put_ended : length asked ≤ i
        → (visited ≡ column_visited s time asked) × ((bits ≡ onto (column_bits s time asked) bits₀) × (records ≡ onto (column_records s time lent 0 asked) records₀))
    unfolding column_visited column_bits joined column_records
    put_ended h =
        let none = drop_all asked i h in (
          add_ended w.sum h,
          (sym (placed_none bits start) ∙ (rw none at w.bits_left), sym (placed_none records i) ∙ (rw none at w.records_left)),
        )

    module _ (below : i < length asked) (fits : (widths_of s asked ≤ length bits₀) × (length asked ≤ length records₀)) where
      abbrev number : ℕ
      number = get_or asked i 0

      -- the bits of item i have room from `start` on, and its record has a place
      pub width_fits : start + (facts_of s number).width ≤ length bits
      unfolding widths_of
      width_fits = omega (arith, add_within w.widths below (facts_of s number).width refl, w.bits_long, fits.0)

      pub record_fits : i < length records
      record_fits = omega (arith, w.records_long, fits.1)

      module _ {t : Tables} {facts : Facts} {o : Option ℕ} {count : ℕ} (found : Found s t time number facts o count) where
        pub item_asks : (start ≤ length bits) × Shows s t.end t.order facts.kind facts.width o (length bits - start)
        item_asks = (omega (arith, width_fits), found.shows (length bits - start) (omega (arith, width_fits)))

        -- neither sum is too large for 64 bits
        pub start_fits : start + facts.width ≤ length bits
        start_fits = omega (arith, width_fits, found.width_is)

        pub sum_fits : length asked ≤ 4096 → visited + count < 18446744073709551616
        sum_fits short = omega (arith, w.small, found.few)

        abbrev value : Content
        value = content_from s t.initial facts.kind facts.width o

        abbrev rest : List ℕ
        rest = drop (suc i) asked

        module _ {row : List ℕ} (er : row ≡ record_by start (shown value) (source_by facts.kind value lent)) {bits' : List ℕ} (eb : bits' ≡ placed bits start (written value))
            {known' : List ℕ} (k : Remembered s end known') (same : length known' ≡ length known) where
          same_width : facts.width ≡ length (written value)
          same_width = found.width_is ∙ rw found.content (sym found.long)

          enough : start + length (written value) ≤ length bits
          enough = rw (← same_width) start_fits

          bits_turn : placed bits' (start + facts.width) (column_bits s time rest) ≡ onto (column_bits s time asked) bits₀
          unfolding column_bits joined
          bits_turn =
              rw (same_width, eb)
              (placed_more bits start (written value) (column_bits s time rest) enough
              ∙ rw found.content (rw (drop-cons asked i 0 below) at w.bits_left))

          records_turn : placed (set records i row) (i + 1) (column_records s time lent (start + facts.width) rest) ≡ onto (column_records s time lent 0 asked) records₀
          unfolding column_records
          records_turn =
              rw (same_width, er)
              (placed_next records i (record_by start (shown value) (source_by facts.kind value lent)) (column_records s time lent (start + length (written value)) rest) record_fits
              ∙ rw (found.source lent, found.content) (rw (drop-cons asked i 0 below) at w.records_left))

          pub put_turn : Putting s time lent asked bits₀ records₀ end room bits' (set records i row) known' (start + facts.width) (visited + count) (i + 1)
          put_turn =
              let next : suc i ≡ i + 1 = omega arith in
              record {
                remembered = k;
                widths = add_turn w.widths below facts.width found.width_is;
                sum = add_turn w.sum below count found.visited_is;
                small = omega (arith, w.small, found.few);
                bits_long = rw eb (length_placed bits start (written value) enough ∙ w.bits_long);
                records_long = length-set records i row ∙ w.records_long;
                known_long = same ∙ w.known_long;
                bits_left = rw (← next) bits_turn;
                records_left = rw (← next) (rw (← next) at records_turn);
              }

-- at a time that is read back from its bits
pub put_at : (s : List ℕ) (time : ℤ) → SFits w64 time → (lent : ℕ) (asked bits₀ : List ℕ) (records₀ : List (List ℕ)) (visited : ℕ) (bits : List ℕ) (records : List (List ℕ))
    → (visited ≡ column_visited s (to_z w64 (of_z w64 time)) asked)
    × ((bits ≡ onto (column_bits s (to_z w64 (of_z w64 time)) asked) bits₀) × (records ≡ onto (column_records s (to_z w64 (of_z w64 time)) lent 0 asked) records₀))
    → (visited ≡ column_visited s time asked) × ((bits ≡ onto (column_bits s time asked) bits₀) × (records ≡ onto (column_records s time lent 0 asked) records₀))
put_at s time fits lent asked bits₀ records₀ visited bits records h = rw (to_z-of_z w64 time fits) at h
