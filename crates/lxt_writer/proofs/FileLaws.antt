-- Laws of the second pass: the parts of the file, and the whole.
use Rattle.std.specs.Prelude.{if◌then◌else◌}
use Prim.Native.Nat.{ℕ, zero, suc, ◌+◌, ◌*◌, ◌-◌, ◌≤◌, ◌<◌}
use native.Mathlib.Omega.{arith}
use native.Mathlib.Nat.{add-zero, zero-add}
use mathlib.Core.Path.{◌≡◌, refl, ap, ◌∙◌}
use mathlib.Core.Bool.{Bool}
use mathlib.Core.List.{List, [], ◌∷◌, ◌++◌, map, reverse, append-nil}
use lib.ListN.{length, get_or, drop, length-append, length-map}
use lib.IntN.{ℤ}
use Rattle.lxt_format.specs.Basics.{joined, range}
use Rattle.lxt_format.specs.Buffers.{placed, length_placed, placed_more}
use Rattle.lxt_format.specs.Columns.{onto}
use Rattle.lxt_written.specs.Input.{Trace, facility_of, change_of, trace_of}
use Rattle.lxt_written.specs.WrittenChanges.{big_endian, last_of, Laid, pair_of, laid, changes_bytes}
use Rattle.lxt_written.specs.WrittenFile.{header, words, deltas_from, names_from, names_of, geometry_bytes, geometry_body, sync_body}
use Rattle.lxt_written.specs.WrittenFile.{entries_of, first_time_of, last_time_of, file_of}
use Rattle.lxt_written.specs.Stands.{Stands, stands_front, stands_back}
use Rattle.lxt_written.specs.TableSizes.{length_rows, length_words, length_geometry}
use Rattle.lxt_written.specs.WrittenLaws.{length_deltas}
use Rattle.lxt_pack.proofs.PutLaws.{Filling, fill_begun, fill_turn, fill_ended}
use Rattle.lxt_layout.specs.declared.Sizes.{Sizes}
use Rattle.lxt_layout.specs.declared.Places.{Places}
use Rattle.lxt_layout.specs.Layout.{PlacesFor, Below, values_section, tail_of, Parts}
use Rattle.lxt_layout.proofs.PlacedLaws.{placed_stands, placed_below, placed_above, placed_tail}
use Rattle.lxt_layout.proofs.WholeLaws.{values_long, tail_long, tail_asks, file_onto}
use Rattle.lxt_facilities.specs.Rows.{names_in}
use Rattle.lxt_writer.specs.Changes.{lay_rows, Fresh, PutAsked, ChangesPut}
use Rattle.lxt_writer.specs.Plan.{first_of, final_of, tables_bytes, TablesAsked, end_bytes, EndAsked, FileAsked}
use Rattle.lxt_writer.proofs.PlanLaws.{widths_of_lem, laid_rows, changes_end_lem, allowed_count, allowed_facilities, allowed_sound}

-- ---- names, geometry, sync and the head of the times

module _ (rows : List (List ℕ)) (names last out : List ℕ) (p : Places) (a : TablesAsked rows names last out p) (memory entries first final : ℕ) where
  abbrev names_head : List ℕ
  names_head = words (length rows ∷ memory ∷ [])

  abbrev all_names : List ℕ
  all_names = names_from [] (names_in names rows)

  abbrev geometry : List ℕ
  geometry = joined geometry_bytes (map (facility_of []) rows)

  abbrev times_head : List ℕ
  times_head = words (entries ∷ first ∷ final ∷ [])

  -- 16 bytes a facility
  geometry_size : length geometry ≡ 16 * length rows
  geometry_size = length_rows 16 geometry_bytes length_geometry (map (facility_of []) rows) ∙ ap (λ k. 16 * k) (length-map rows (facility_of []))

  -- they end where the positions of the time table start
  tables_long : p.names + length (tables_bytes rows names memory last entries first final) ≡ p.times + 12
  unfolding tables_bytes
  tables_long =
      let h = length_words (length rows ∷ memory ∷ []) in
      let g = geometry_size in
      let s = length_words last in
      let t = length_words (entries ∷ first ∷ final ∷ []) in
      let e₁ = length-append names_head (all_names ++ (geometry ++ (words last ++ times_head))) in
      let e₂ = length-append all_names (geometry ++ (words last ++ times_head)) in
      let e₃ = length-append geometry (words last ++ times_head) in
      let e₄ = length-append (words last) times_head in
      omega (arith, a.geometry, a.sync, a.times)

  -- one put after the other they are all
  pub tables_put : (one two three four five : List ℕ) → one ≡ placed out p.names names_head → two ≡ placed one (p.names + 8) all_names
      → three ≡ placed two p.geometry geometry → four ≡ placed three p.sync (words last) → five ≡ placed four p.times times_head
      → five ≡ placed out p.names (tables_bytes rows names memory last entries first final)
  unfolding tables_bytes
  tables_put one two three four five e₁ e₂ e₃ e₄ e₅ =
      let text : List ℕ = tables_bytes rows names memory last entries first final in
      let h = length_words (length rows ∷ memory ∷ []) in
      let g = geometry_size in
      let s = length_words last in
      let t = length_words (entries ∷ first ∷ final ∷ []) in
      let room : p.names + length text ≤ length out = omega (arith, tables_long, a.room) in
      let after-geometry : List ℕ = words last ++ times_head in
      let after-names : List ℕ = geometry ++ after-geometry in
      let after-head : List ℕ = all_names ++ after-names in
      let f₀ : Filling out p.names text (names_head ++ after-head) out p.names = fill_begun out p.names text room in
      let f₁ = fill_turn out p.names text names_head after-head out p.names f₀ one e₁ (p.names + 8) (omega arith) in
      let f₂ = fill_turn out p.names text all_names after-names one (p.names + 8) f₁ two e₂ p.geometry a.geometry in
      let f₃ = fill_turn out p.names text geometry after-geometry two p.geometry f₂ three e₃ p.sync (omega (arith, a.sync)) in
      let f₄ = fill_turn out p.names text (words last) times_head three p.sync f₃ four e₄ p.times (omega (arith, a.times)) in
      let f₅ : Filling out p.names text (times_head ++ []) four p.times = rw append-nil f₄ in
      let f₆ = fill_turn out p.names text times_head [] four p.times f₅ five e₅ (p.times + 12) (omega arith) in
      fill_ended out p.names text five (p.times + 12) f₆

-- ---- the sections of one value, END and the section list

module _ (real : Bool) (out : List ℕ) (p : Places) (a : EndAsked real out p) where
  -- END follows them
  end_place : p.end ≡ p.timescale + 2 + (if real then 8 else 0)
  end_place = rw a.real_is at a.places.end

  tail_room : (p.end + (if real then 42 else 37) ≤ length out) × (p.length < 4294967296) × Below p
  tail_room = rw a.real_is at (tail_asks a.sizes p out a.bounded a.places a.room)

  -- there is room for them
  pub values_asked : p.timescale + 2 + (if real then 8 else 0) ≤ length out
  values_asked = let e = end_place in omega (arith, tail_room.0)

  module _ (timescale : ℤ) (initial : ℕ) (one : List ℕ) (e : one ≡ placed out p.timescale (values_section timescale initial real)) where
    values_kept : length one ≡ length out
    values_kept =
        let l = values_long timescale initial real in
        rw e (length_placed out p.timescale (values_section timescale initial real) (omega (arith, values_asked)))

    pub tail_asked : (p.end + (if real then 42 else 37) ≤ length one) × (p.length < 4294967296) × Below p
    tail_asked = rw values_kept tail_room

    -- one put after the other
    pub end_put : (two : List ℕ) → two ≡ placed one p.end (tail_of p real) → two ≡ placed out p.timescale (end_bytes timescale initial real p)
    unfolding end_bytes
    end_put two d =
        let l = values_long timescale initial real in
        let place : p.end ≡ p.timescale + length (values_section timescale initial real) = omega (arith, end_place) in
        d
        ∙ ap (λ b. placed b p.end (tail_of p real)) e
        ∙ ap (λ k. placed (placed out p.timescale (values_section timescale initial real)) k (tail_of p real)) place
        ∙ placed_more out p.timescale (values_section timescale initial real) (tail_of p real) (omega (arith, values_asked))

-- ---- the tables of the trace

-- a table that has g of each number from i on, as words
sync_rows : (g : ℕ → ℕ) (l : List ℕ) (i : ℕ) → ((f : ℕ) → f < length l → get_or l f 0 ≡ g (i + f))
    → words l ≡ joined (λ f. big_endian 4 (g f)) (range i (length l))
unfolding joined range
sync_rows g [] i h = refl
sync_rows g (x ∷ l) i h =
    let first : x ≡ g i = h 0 (omega arith) ∙ ap g (add-zero i) in
    let rest = sync_rows g l (suc i) (λ f k. h (suc f) (omega arith) ∙ ap g (omega arith)) in
    rw (first, rest)

-- names do not matter for the geometry
geometry_same : (names : List ℕ) (rows : List (List ℕ)) → joined geometry_bytes (map (facility_of []) rows) ≡ joined geometry_bytes (map (facility_of names) rows)
unfolding joined geometry_bytes facility_of
geometry_same names [] = refl
geometry_same names (row ∷ rows) = rw (geometry_same names rows)

-- the time of change i, by its row
time_at : (values : List ℕ) (changes : List (List ℕ)) (i : ℕ) → get_or (map (λ c. c.time) (map (change_of values) changes)) i 0 ≡ get_or (get_or changes i []) 1 0
unfolding change_of
time_at values [] i = refl
time_at values (row ∷ changes) zero = refl
time_at values (row ∷ changes) (suc i) = time_at values changes i

-- ---- the whole file

module _ (facilities : List (List ℕ)) (names : List ℕ) (changes : List (List ℕ)) (values : List ℕ) (initial : ℕ) (timescale : ℤ)
    (z : Sizes) (memory : ℕ) (out : List ℕ) (a : FileAsked facilities names changes values initial timescale z memory out) (p : Places) (pf : PlacesFor z p) where
  abbrev trace : Trace
  trace = trace_of facilities names changes values initial timescale

  -- the sizes by the rows
  count_is : z.facilities ≡ length facilities
  count_is = a.sizes.facilities ∙ length-map facilities (facility_of names)

  rows_laid : laid trace ≡ lay_rows facilities values 4 [] changes
  rows_laid = laid_rows facilities names changes values initial timescale

  -- the changes can be put
  pub changes_asked_lem : (last : List ℕ) → Fresh last (length facilities) → PutAsked facilities changes values last out (p.times + 12) (4 * z.entries)
  changes_asked_lem last fresh =
      let e = changes_end_lem facilities names changes values initial timescale in
      let room = a.room p pf in
      record {
        widths = widths_of_lem names facilities (allowed_facilities facilities names changes values initial timescale a.allowed);
        fresh = fresh;
        sound = allowed_sound facilities names changes values initial timescale a.allowed;
        column = ap (λ k. 4 * k) (a.sizes.entries ∙ ap (λ ls. length (entries_of ls)) rows_laid);
        after = omega (arith, a.sizes.changes, pf.names, pf.geometry, pf.sync, pf.times);
        room = omega (arith, pf.timescale, pf.end, pf.length);
      }

  -- then the tables
  tables_asked : (last two : List ℕ) → length last ≡ length facilities → length two ≡ length out → TablesAsked facilities names last two p
  unfolding names_of
  tables_asked last two l k =
      let n = count_is in
      let room = a.room p pf in
      record {
        count = allowed_count facilities names changes values initial timescale a.allowed;
        allowed = allowed_facilities facilities names changes values initial timescale a.allowed;
        geometry = pf.geometry ∙ ap (λ m. p.names + 8 + m) a.sizes.names;
        sync = omega (arith, pf.sync);
        times = omega (arith, pf.times);
        room = omega (arith, pf.timescale, pf.end, pf.length);
      }

  -- and the end
  end_asked : (three : List ℕ) → length three ≡ length out → EndAsked z.real three p
  end_asked three k = record { sizes = z; real_is = refl; bounded = a.bounded; places = pf; room = omega (arith, a.room p pf) }

  module _ (last one two : List ℕ) (put : ChangesPut facilities changes values out (p.times + 12) (4 * z.entries) last one)
      (second : two ≡ placed one 0 header) where
    abbrev tables : List ℕ
    tables = tables_bytes facilities names memory last z.entries (first_of changes) (final_of changes)

    -- each part is put where there is room for it
    names_place : p.names ≡ 4 + length (changes_bytes trace)
    names_place = pf.names ∙ a.sizes.changes

    two_long : length two ≡ length out
    two_long =
        let room = a.room p pf in
        let n = names_place in
        let fits : 0 + length header ≤ length one =
        omega (arith, put.long, pf.geometry, pf.sync, pf.times, pf.timescale, pf.end, pf.length) in
        rw second (length_placed one 0 header fits ∙ put.long)

    -- the tables end where the positions start
    tables_end : p.names + length tables ≡ p.times + 12
    tables_end =
        let asked = tables_asked last two put.table_long two_long in
        tables_long facilities names last two p asked memory z.entries (first_of changes) (final_of changes)

    -- and there is room for them, and for the header
    tables_room : p.names + length tables ≤ length two
    tables_room = let room = a.room p pf in let l = two_long in let e = tables_end in omega (arith, pf.timescale, pf.end, pf.length)

    header_room : 0 + length header ≤ length one
    header_room = let l = two_long in let e = tables_room in let n = names_place in omega (arith, put.long, two_long)

    pub tables_ready : TablesAsked facilities names last two p
    tables_ready = tables_asked last two put.table_long two_long

    module _ (three : List ℕ)
        (third : three ≡ placed two p.names (tables_bytes facilities names memory last z.entries (first_of changes) (final_of changes))) where
      three_long : length three ≡ length out
      three_long = rw third (length_placed two p.names tables tables_room ∙ two_long)

      pub end_ready : EndAsked z.real three p
      end_ready = end_asked three three_long

      abbrev ending : List ℕ
      ending = end_bytes timescale initial z.real p

      -- it ends where the file does
      ending_end : p.timescale + length ending ≡ p.length
      unfolding end_bytes
      ending_end =
          let v = values_long timescale initial z.real in
          let t = tail_long p z.real in
          let e = length-append (values_section timescale initial z.real) (tail_of p z.real) in
          omega (arith, pf.end, pf.length)

      ending_room : p.timescale + length ending ≤ length three
      ending_room = let room = a.room p pf in let l = three_long in let e = ending_end in omega arith

      module _ (four : List ℕ) (fourth : four ≡ placed three p.timescale (end_bytes timescale initial z.real p)) where
        -- what stands below the tables, or between them and the end, stays
        keeps : (o : ℕ) (x : List ℕ) → Stands one o x → 4 ≤ o → o + length x ≤ p.names → Stands four o x
        keeps o x s from upto =
            rw fourth
            (placed_below three p.timescale ending ending_room o x
            (rw third (placed_below two p.names tables tables_room o x (rw second (placed_above one 0 header o x s (omega arith))) upto))
            (omega (arith, pf.geometry, pf.sync, pf.times, pf.timescale)))

        keeps_between : (o : ℕ) (x : List ℕ) → Stands one o x → p.times + 12 ≤ o → o + length x ≤ p.timescale → Stands four o x
        keeps_between o x s from upto =
            let n = names_place in
            let e = tables_end in
            rw fourth
            (placed_below three p.timescale ending ending_room o x
            (rw third
            (placed_above two p.names tables o x
            (rw second (placed_above one 0 header o x s (omega (arith, pf.geometry, pf.sync, pf.times))))
            (omega arith)))
            upto)

        -- the parts that were put last, and what is not put over them
        header_stands : Stands four 0 header
        header_stands =
            let n = names_place in
            rw fourth
            (placed_below three p.timescale ending ending_room 0 header
            (rw third (placed_below two p.names tables tables_room 0 header (rw second (placed_stands one 0 header header_room)) (omega arith)))
            (omega (arith, pf.geometry, pf.sync, pf.times, pf.timescale)))

        tables_stand : Stands four p.names tables
        tables_stand =
            let e = tables_end in
            rw fourth
            (placed_below three p.timescale ending ending_room p.names tables
            (rw third (placed_stands two p.names tables tables_room))
            (omega (arith, pf.timescale)))

        ending_stands : Stands four p.timescale ending
        ending_stands = rw fourth (placed_stands three p.timescale ending ending_room)

        -- what follows the file stays
        rest_kept : drop p.length four ≡ drop p.length out
        rest_kept =
            let e = ending_end in
            let t = tables_end in
            let n = names_place in
            let d₄ : drop p.length four ≡ drop p.length three =
            rw fourth (placed_tail three p.timescale ending ending_room p.length (omega arith)) in
            let d₃ : drop p.length three ≡ drop p.length two =
            rw third (placed_tail two p.names tables tables_room p.length (omega (arith, pf.timescale, pf.end, pf.length))) in
            let d₂ : drop p.length two ≡ drop p.length one =
            rw second
            (placed_tail one 0 header header_room p.length
            (omega (arith, pf.geometry, pf.sync, pf.times, pf.timescale, pf.end, pf.length))) in
            d₄ ∙ d₃ ∙ d₂ ∙ put.tail p.length (omega (arith, pf.timescale, pf.end, pf.length))

        -- bytes stand behind those before them
        behind : (o q : ℕ) (xs ys : List ℕ) → Stands four o (xs ++ ys) → q ≡ o + length xs → Stands four q ys
        behind o q xs ys h e = rw e (stands_back four o xs ys h)

        -- each part of the file stands at its place
        parts : Parts trace z p four
        unfolding tables_bytes end_bytes names_of geometry_body sync_body changes_bytes first_time_of last_time_of first_of final_of
        parts =
            let n = count_is in
            let l = put.table_long in
            let asked = tables_asked last two put.table_long two_long in
            let h : List ℕ = words (length facilities ∷ memory ∷ []) in
            let lh = length_words (length facilities ∷ memory ∷ []) in
            let ns : List ℕ = names_from [] (names_in names facilities) in
            let g : List ℕ = joined geometry_bytes (map (facility_of []) facilities) in
            let lg = geometry_size facilities names last two p asked memory z.entries (first_of changes) (final_of changes) in
            let ls = length_words last in
            let t : List ℕ = words (z.entries ∷ first_of changes ∷ final_of changes ∷ []) in
            let after-names : List ℕ = g ++ (words last ++ t) in
            let s₁ : Stands four (p.names + 8) (ns ++ after-names) =
            behind p.names (p.names + 8) h (ns ++ after-names) tables_stand (omega arith) in
            let s₂ : Stands four p.geometry after-names = behind (p.names + 8) p.geometry ns after-names s₁ asked.geometry in
            let s₃ : Stands four p.sync (words last ++ t) = behind p.geometry p.sync g (words last ++ t) s₂ (omega (arith, pf.sync)) in
            let s₄ : Stands four p.times t = behind p.sync p.times (words last) t s₃ (omega (arith, pf.times)) in
            let place : p.names ≡ 4 + length (joined (λ x. x.bytes) (lay_rows facilities values 4 [] changes)) = rw (← rows_laid) names_place in
            let newest-of : ℕ → ℕ = λ f. last_of f (reverse (map pair_of (laid trace))) in
            let newest : words last ≡ joined (λ f. big_endian 4 (newest-of f)) (range 0 (length (map (facility_of names) facilities))) =
            rw (length-map facilities (facility_of names), ← l)
            (sync_rows newest-of last 0 (λ f k. rw (zero-add f, rows_laid) (put.newest f (omega arith)))) in
            let v : List ℕ = values_section timescale initial z.real in
            let lv = values_long timescale initial z.real in
            let columns = a.sizes.entries ∙ ap (λ x. length (entries_of x)) rows_laid in
            let entries : List Laid = entries_of (lay_rows facilities values 4 [] changes) in
            let lp = length_words (deltas_from 0 (map (λ x. x.offset) entries)) in
            let lq = length_words (deltas_from 0 (map (λ x. x.time) entries)) in
            let dp = length_deltas 0 (map (λ x. x.offset) entries) in
            let dq = length_deltas 0 (map (λ x. x.time) entries) in
            let mp = length-map entries (λ x. x.offset) in
            let mq = length-map entries (λ x. x.time) in
            record {
              header = header_stands;
              changes = rw rows_laid (keeps 4 _ put.bytes (omega arith) (omega arith));
              names_head =
                  rw (length-map facilities (facility_of names), ← a.memory_is) (stands_front four p.names h (ns ++ after-names) tables_stand);
              names = stands_front four (p.names + 8) ns after-names s₁;
              geometry = rw (← geometry_same names facilities) (stands_front four p.geometry g (words last ++ t) s₂);
              sync = rw (← newest) (stands_front four p.sync (words last) t s₃);
              times_head =
                  rw (← a.sizes.entries, time_at values changes 0, length-map changes (change_of values), time_at values changes (length changes - 1)) s₄;
              positions = rw rows_laid (keeps_between (p.times + 12) _ put.positions_stand (omega arith) (omega (arith, pf.timescale)));
              times = rw rows_laid (keeps_between (p.times + 12 + 4 * z.entries) _ put.times_stand (omega arith) (omega (arith, pf.timescale)));
              values = stands_front four p.timescale v (tail_of p z.real) ending_stands;
              tail = behind p.timescale p.end v (tail_of p z.real) ending_stands (omega (arith, pf.end));
            }

        -- the file, and what was behind it
        pub file_put : four ≡ onto (file_of trace) out
        file_put = file_onto trace z p a.sizes pf four parts out rest_kept
