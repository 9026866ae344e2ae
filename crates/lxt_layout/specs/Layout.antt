-- Where the parts of a written file stand.
use Rattle.std.specs.Prelude.{ℕ, suc, ◌+◌, ◌*◌, ◌≤◌, ◌≡◌, Bool, List, [], ◌∷◌, ◌++◌, map, length, ℤ, if◌then◌else◌}
use Rattle.lxt_format.specs.Names.{memory_of}
use Rattle.lxt_format.specs.Reals.{test_pattern}
use Rattle.lxt_written.specs.Input.{Trace}
use Rattle.lxt_written.specs.WrittenChanges.{big_endian, laid, changes_bytes}
use Rattle.lxt_written.specs.WrittenFile.{words, header, names_of, names_from, geometry_body, sync_body, entries_of, deltas_from, first_time_of, last_time_of, signed_byte, any_real}
use Rattle.lxt_written.specs.Stands.{Stands}
use Rattle.lxt_layout.specs.declared.Sizes.{Sizes}
use Rattle.lxt_layout.specs.declared.Places.{Places}

-- sizes whose sums are small numbers
pub record Bounded (z : Sizes) : Type 0 where
  pub facilities : z.facilities ≤ 4096
  pub names : z.names ≤ 4202496
  pub changes : z.changes ≤ 16777216
  pub entries : z.entries ≤ 16777216

-- each section starts where the one before it ends
pub record PlacesFor (z : Sizes) (p : Places) : Type 0 where
  pub names : p.names ≡ z.changes
  pub geometry : p.geometry ≡ p.names + 8 + z.names
  pub sync : p.sync ≡ p.geometry + 16 * z.facilities
  pub times : p.times ≡ p.sync + 4 * z.facilities
  pub timescale : p.timescale ≡ p.times + 12 + 8 * z.entries
  pub end : p.end ≡ p.timescale + 2 + (if z.real then 8 else 0)
  pub length : p.length ≡ p.end + (if z.real then 42 else 37)

-- no section starts past END, and END is in the file
pub record Below (p : Places) : Type 0 where
  pub names : p.names ≤ p.end
  pub geometry : p.geometry ≤ p.end
  pub sync : p.sync ≤ p.end
  pub times : p.times ≤ p.end
  pub timescale : p.timescale + 2 ≤ p.end
  pub end : p.end ≤ p.length

-- the sections of one value: timescale, initial symbol, and the real test where a facility is a real
unfoldable pub values_section : ℤ → ℕ → Bool → List ℕ
values_section timescale initial real = signed_byte timescale ∷ initial ∷ (if real then test_pattern else [])

-- items of rising tags
unfoldable pub items_from : ℕ → List ℕ → List ℕ
items_from tag [] = []
items_from tag (v ∷ vs) = big_endian 4 v ++ (tag ∷ items_from (suc tag) vs)

-- the values of the section list by rising tag: 01 is 4, and 08 is there where a facility is a real
unfoldable pub item_values : Places → Bool → List ℕ
item_values p real =
    4 ∷ p.sync ∷ p.names ∷ p.geometry ∷ p.timescale ∷ p.times ∷ (p.timescale + 1) ∷ (if real then (p.timescale + 2) ∷ [] else [])

-- END, the section list and the last byte
unfoldable pub tail_of : Places → Bool → List ℕ
tail_of p real = 0x00 ∷ (items_from 1 (item_values p real) ++ (0xB4 ∷ []))

-- ---- the parts of the file of a trace

-- the sizes of a trace
pub record Measures (t : Trace) (z : Sizes) : Type 0 where
  pub facilities : z.facilities ≡ length t.facilities
  pub names : z.names ≡ length (names_from [] (names_of t))
  pub changes : z.changes ≡ 4 + length (changes_bytes t)
  pub entries : z.entries ≡ length (entries_of (laid t))
  pub real : z.real ≡ any_real t

-- every part stands at its place
pub record Parts (t : Trace) (z : Sizes) (p : Places) (s : List ℕ) : Type 0 where
  pub header : Stands s 0 header
  pub changes : Stands s 4 (changes_bytes t)
  pub names_head : Stands s p.names (words (length t.facilities ∷ memory_of (names_of t) ∷ []))
  pub names : Stands s (p.names + 8) (names_from [] (names_of t))
  pub geometry : Stands s p.geometry (geometry_body t)
  pub sync : Stands s p.sync (sync_body t)
  pub times_head : Stands s p.times (words (length (entries_of (laid t)) ∷ first_time_of t ∷ last_time_of t ∷ []))
  pub positions : Stands s (p.times + 12) (words (deltas_from 0 (map (λ l. l.offset) (entries_of (laid t)))))
  pub times : Stands s (p.times + 12 + 4 * z.entries) (words (deltas_from 0 (map (λ l. l.time) (entries_of (laid t)))))
  pub values : Stands s p.timescale (values_section t.timescale t.initial z.real)
  pub tail : Stands s p.end (tail_of p z.real)
