-- The parts that stand at their places are the whole file.
use Rattle.std.specs.Prelude.{if◌then◌else◌}
use Prim.Native.Nat.{ℕ, suc, ◌+◌, ◌*◌, ◌≤◌, ◌<◌}
use native.Mathlib.Omega.{arith}
use mathlib.Core.Path.{◌≡◌, refl, ◌∙◌}
use mathlib.Core.Bool.{Bool, true, false}
use mathlib.Core.List.{List, [], ◌∷◌, ◌++◌, map, append_assoc}
use lib.ListN.{length, drop, length-append, length-map}
use lib.IntN.{ℤ}
use borrow.Author.Tests.{ne_eqb}
use Rattle.lxt_format.specs.Basics.{range, joined}
use Rattle.lxt_format.specs.BasicsLaws.{on_test}
use Rattle.lxt_format.specs.Columns.{onto}
use Rattle.lxt_format.specs.Sections.{value_in}
use Rattle.lxt_format.specs.Names.{memory_of}
use Rattle.lxt_written.specs.Input.{Trace}
use Rattle.lxt_written.specs.WrittenChanges.{big_endian, laid, changes_bytes}
use Rattle.lxt_written.specs.WrittenFile.{words, header, names_of, names_from, names_body, geometry_body, sync_body, times_body, entries_of, deltas_from}
use Rattle.lxt_written.specs.WrittenFile.{signed_byte, any_real, places_of, item_bytes, list_bytes, file_of}
use Rattle.lxt_written.specs.Stands.{Stands}
use Rattle.lxt_written.specs.TableSizes.{length_words}
use Rattle.lxt_written.specs.WrittenLaws.{geometry_long, sync_long, length_deltas, times_long, names_long, test_body, sections_are, starts_are}
use Rattle.lxt_layout.specs.declared.Sizes.{Sizes}
use Rattle.lxt_layout.specs.declared.Places.{Places}
use Rattle.lxt_layout.specs.Layout.{Bounded, PlacesFor, Below, values_section, items_from, item_values, tail_of, Measures, Parts}
use Rattle.lxt_layout.proofs.LayoutLaws.{length_items, length_values, five_each}
use Rattle.lxt_layout.proofs.PlacedLaws.{stands_join_at, onto_whole}

-- ---- bounds of the places

-- no section starts past END
pub below_of : (z : Sizes) (p : Places) → PlacesFor z p → Below p
below_of z p q =
    record { names = omega arith; geometry = omega arith; sync = omega arith; times = omega arith; timescale = omega arith; end = omega arith }

-- the real test and the tail are short
test_size : (real : Bool) → (if real then 8 else 0) ≤ 8
test_size true = omega arith
test_size false = omega arith

tail_size : (real : Bool) → (if real then 42 else 37) ≤ 42
tail_size true = omega arith
tail_size false = omega arith

-- the file has a length of 32 bits
pub length_small : (z : Sizes) (p : Places) → Bounded z → PlacesFor z p → p.length < 4294967296
length_small z p b q = omega (arith, test_size z.real, tail_size z.real)

-- so the tail may be put into a buffer that has room for the file
pub tail_asks : (z : Sizes) (p : Places) (b : List ℕ) → Bounded z → PlacesFor z p → p.length ≤ length b
    → (p.end + (if z.real then 42 else 37) ≤ length b) × (p.length < 4294967296) × Below p
tail_asks z p b k q h = (omega arith, length_small z p k q, below_of z p q)

-- ---- the lengths of the small parts

pub values_long : (scale : ℤ) (initial : ℕ) (real : Bool) → length (values_section scale initial real) ≡ 2 + (if real then 8 else 0)
unfolding values_section
values_long scale initial true = refl
values_long scale initial false = refl

pub tail_long : (p : Places) (real : Bool) → length (tail_of p real) ≡ (if real then 42 else 37)
unfolding tail_of
tail_long p real =
    let list : List ℕ = items_from 0x01 (item_values p real) in
    omega (arith, length-append list (0xB4 ∷ []), length_items 0x01 (item_values p real), (five_each real (length (item_values p real)) (length_values p real)).1)

-- an item with a value, before the others
item_next : (tag v : ℕ) (vs rest : List ℕ) → 4 ≤ v → rest ≡ items_from (suc tag) vs → item_bytes tag v ++ rest ≡ items_from tag (v ∷ vs)
unfolding item_bytes items_from
item_next tag v vs rest h e = rw (ne_eqb v 0 (λ z. omega arith)) (append_assoc (big_endian 4 v) (tag ∷ []) rest ∙ rw e)

-- the sections and what follows them
regroup : (a b c d v e : List ℕ) → (a ++ (b ++ (c ++ (d ++ v)))) ++ e ≡ a ++ (b ++ (c ++ (d ++ (v ++ e))))
regroup a b c d v e = simp append_assoc

-- a table of two columns behind its head
two_columns : (s : List ℕ) (o k m : ℕ) (head ps ts : List ℕ) → Stands s o (words head) → Stands s (o + k) (words ps) → Stands s (o + k + 4 * m) (words ts)
    → k ≡ 4 * length head → m ≡ length ps → Stands s o (words head ++ (words ps ++ words ts))
two_columns s o k m head ps ts a b c long rows =
    let columns = stands_join_at s (o + k) (words ps) (words ts) b (o + k + 4 * m) (omega (arith, length_words ps)) c in
    stands_join_at s o (words head) (words ps ++ words ts) a (o + k) (omega (arith, length_words head)) columns

module _ (t : Trace) (z : Sizes) (p : Places) (m : Measures t z) (q : PlacesFor z p) where
  abbrev values_part : List ℕ
  values_part = values_section t.timescale t.initial z.real

  abbrev tail_part : List ℕ
  tail_part = tail_of p z.real

  -- ---- each part starts where the one before it ends

  record Follows : Type 0 where
    names : p.names ≡ 4 + length (changes_bytes t)
    geometry : p.geometry ≡ p.names + length (names_body t)
    sync : p.sync ≡ p.geometry + length (geometry_body t)
    times : p.times ≡ p.sync + length (sync_body t)
    timescale : p.timescale ≡ p.times + length (times_body t)
    end : p.end ≡ p.timescale + length values_part
    length : p.length ≡ p.end + length tail_part

  follows : Follows
  follows =
      record {
        names = omega (arith, m.changes, q.names);
        geometry = omega (arith, names_long t, m.names, q.geometry);
        sync = omega (arith, geometry_long t, m.facilities, q.sync);
        times = omega (arith, sync_long t, m.facilities, q.times);
        timescale = omega (arith, times_long t, m.entries, q.timescale);
        end = omega (arith, values_long t.timescale t.initial z.real, q.end);
        length = omega (arith, tail_long p z.real, q.length);
      }

  -- ---- the section list

  -- "08 only where a real facility exists"
  last_item : item_bytes 0x08 (value_in 0x08 (places_of t)) ++ [] ≡ items_from 0x08 (if z.real then (p.timescale + 2) ∷ [] else [])
  last_item =
      let s = starts_are t in
      let f = follows in
      let place : any_real t ≡ true → value_in 0x08 (places_of t) ≡ p.timescale + 2 = λ e. omega (arith, s.test e) in
      rw m.real
      (on_test (any_real t) (λ e. rw (e, place e) (item_next 0x08 (p.timescale + 2) [] [] (omega arith) (unfold items_from in refl)))
      (λ e. rw (e, s.no_test e) (unfold item_bytes items_from in refl)))

  -- the list has the places, of which none is 0
  list_is : list_bytes (places_of t) ≡ items_from 0x01 (item_values p z.real)
  unfolding list_bytes joined range item_values
  list_is =
      let s = starts_are t in
      let f = follows in
      let two : value_in 0x02 (places_of t) ≡ p.sync = omega (arith, s.sync) in
      let three : value_in 0x03 (places_of t) ≡ p.names = omega (arith, s.names) in
      let four : value_in 0x04 (places_of t) ≡ p.geometry = omega (arith, s.geometry) in
      let five : value_in 0x05 (places_of t) ≡ p.timescale = omega (arith, s.timescale) in
      let six : value_in 0x06 (places_of t) ≡ p.times = omega (arith, s.times) in
      let seven : value_in 0x07 (places_of t) ≡ p.timescale + 1 = omega (arith, s.initial) in
      rw (s.changes, two, three, four, five, six, seven)
      (item_next 0x01 4 _ _ (omega arith)
      (item_next 0x02 p.sync _ _ (omega arith)
      (item_next 0x03 p.names _ _ (omega arith)
      (item_next 0x04 p.geometry _ _ (omega arith)
      (item_next 0x05 p.timescale _ _ (omega arith)
      (item_next 0x06 p.times _ _ (omega arith)
      (item_next 0x07 (p.timescale + 1) _ _ (omega arith) last_item)))))))

  -- so END, the list and the last byte are the tail of the places
  tail_is : 0x00 ∷ (list_bytes (places_of t) ++ (0xB4 ∷ [])) ≡ tail_of p z.real
  unfolding tail_of
  tail_is = rw list_is

  -- ---- the whole file

  -- its parts, one after the other
  file_is : file_of t ≡ header ++ (changes_bytes t ++ (names_body t ++ (geometry_body t ++ (sync_body t ++ (times_body t ++ (values_part ++ tail_part))))))
  unfolding file_of
  file_is =
      let values : signed_byte t.timescale ∷ t.initial ∷ test_body t ≡ values_part = unfold values_section in rw m.real in
      rw (tail_is, sections_are t, values, regroup (names_body t) (geometry_body t) (sync_body t) (times_body t) values_part tail_part)

  -- it is as long as the places say
  pub file_long : p.length ≡ length (file_of t)
  file_long =
      let f = follows in
      let sum = lengths (changes_bytes t) (names_body t) (geometry_body t) (sync_body t) (times_body t) values_part tail_part in
      rw file_is (omega arith)
    where
      lengths : (c n g y x v e : List ℕ)
          → length (c ++ (n ++ (g ++ (y ++ (x ++ (v ++ e)))))) ≡ length c + length n + length g + length y + length x + length v + length e
      lengths c n g y x v e =
          omega (
            arith,
            length-append c (n ++ (g ++ (y ++ (x ++ (v ++ e))))),
            length-append n (g ++ (y ++ (x ++ (v ++ e)))),
            length-append g (y ++ (x ++ (v ++ e))),
            length-append y (x ++ (v ++ e)),
            length-append x (v ++ e),
            length-append v e,
          )

  module _ (s : List ℕ) (h : Parts t z p s) where
    -- the tables of more than one part
    names_stand : Stands s p.names (names_body t)
    unfolding names_body
    names_stand =
        let head : List ℕ = length t.facilities ∷ memory_of (names_of t) ∷ [] in
        stands_join_at s p.names (words head) (names_from [] (names_of t)) h.names_head (p.names + 8) (omega (arith, length_words head)) h.names

    times_stand : Stands s p.times (times_body t)
    unfolding times_body
    times_stand =
        let entries = entries_of (laid t) in
        let rows : z.entries ≡ length (deltas_from 0 (map (λ l. l.offset) entries)) =
        omega (arith, m.entries, length_deltas 0 (map (λ l. l.offset) entries), length-map entries (λ l. l.offset)) in
        two_columns s p.times 12 z.entries _ _ _ h.times_head h.positions h.times refl rows

    -- the file stands at the start
    file_stands : Stands s 0 (file_of t)
    file_stands =
        let f = follows in
        let values = stands_join_at s p.timescale values_part tail_part h.values p.end f.end h.tail in
        let times = stands_join_at s p.times (times_body t) _ times_stand p.timescale f.timescale values in
        let sync = stands_join_at s p.sync (sync_body t) _ h.sync p.times f.times times in
        let geometry = stands_join_at s p.geometry (geometry_body t) _ h.geometry p.sync f.sync sync in
        let names = stands_join_at s p.names (names_body t) _ names_stand p.geometry f.geometry geometry in
        let changes = stands_join_at s 4 (changes_bytes t) _ h.changes p.names f.names names in
        rw file_is (stands_join_at s 0 header _ h.header 4 refl changes)

    -- and where nothing behind the file has changed, the file stands before what was there
    pub file_onto : (out : List ℕ) → drop p.length s ≡ drop p.length out → s ≡ onto (file_of t) out
    file_onto out e = onto_whole s (file_of t) out file_stands (rw file_long at e)
