-- How long the sections of a written file are, and where they start.
use Rattle.std.specs.Prelude.{ℕ, suc, ◌+◌, ◌*◌, ◌≡◌, refl, true, false, List, [], ◌∷◌, ◌++◌, map, reverse, length, if◌then◌else◌}
use Rattle.std.proofs.Common.{ap, ◌∙◌, length-append, arith}
use Rattle.std.proofs.lemmas.List.{length-map}
use Rattle.lxt_format.specs.Basics.{range, joined}
use Rattle.lxt_format.specs.BasicsLaws.{on_test, length_range}
use Rattle.lxt_format.specs.Sections.{value_in}
use Rattle.lxt_format.specs.Names.{memory_of}
use Rattle.lxt_format.specs.Reals.{test_pattern}
use Rattle.lxt_written.specs.Input.{Trace}
use Rattle.lxt_written.specs.WrittenChanges.{big_endian, last_of, pair_of, laid, changes_bytes}
use Rattle.lxt_written.specs.WrittenFile.{words, names_from, names_of, names_body, geometry_bytes, geometry_body, sync_body, entries_of, deltas_from, times_body}
use Rattle.lxt_written.specs.WrittenFile.{signed_byte, any_real, sections_of, places_from, places_of}
use Rattle.lxt_written.specs.Stands.{length_big_endian}
use Rattle.lxt_written.specs.TableSizes.{length_rows, length_words, length_geometry}

-- ---- the lengths of the bodies

-- "16 bytes per facility"
pub geometry_long : (t : Trace) → length (geometry_body t) ≡ 16 * length t.facilities
unfolding geometry_body
geometry_long t = length_rows 16 geometry_bytes length_geometry t.facilities

-- "4 bytes per facility"
pub sync_long : (t : Trace) → length (sync_body t) ≡ 4 * length t.facilities
unfolding sync_body
sync_long t =
    length_rows 4 (λ f. big_endian 4 (last_of f (reverse (map pair_of (laid t))))) (λ f. length_big_endian 4 _) (range 0 (length t.facilities))
    ∙ rw (length_range 0 (length t.facilities))

-- there are as many deltas as numbers
pub length_deltas : (before : ℕ) (xs : List ℕ) → length (deltas_from before xs) ≡ length xs
unfolding deltas_from
length_deltas before [] = refl
length_deltas before (x ∷ xs) = ap suc (length_deltas x xs)

-- a table of three numbers and two columns of m
table_long : (head ps ts : List ℕ) (m : ℕ) → length ps ≡ m → length ts ≡ m → length (words head ++ (words ps ++ words ts)) ≡ 4 * length head + 4 * m + 4 * m
table_long head ps ts m p q =
    omega (arith, length-append (words head) (words ps ++ words ts), length-append (words ps) (words ts), length_words head, length_words ps, length_words ts)

-- the table of times, of m entries
pub times_long : (t : Trace) → length (times_body t) ≡ 12 + 4 * length (entries_of (laid t)) + 4 * length (entries_of (laid t))
unfolding times_body
times_long t =
    let entries = entries_of (laid t) in
    table_long _ _ _ (length entries)
    (length_deltas 0 _ ∙ length-map entries (λ l. l.offset)) (length_deltas 0 _ ∙ length-map entries (λ l. l.time))

-- the names have a head of 8 bytes
pub names_long : (t : Trace) → length (names_body t) ≡ 8 + length (names_from [] (names_of t))
unfolding names_body
names_long t =
    let head : List ℕ = length t.facilities ∷ memory_of (names_of t) ∷ [] in
    omega (arith, length-append (words head) (names_from [] (names_of t)), length_words head)

-- ---- the bodies

-- the body of tag 08, where there is one
abbrev pub test_body : Trace → List ℕ
test_body t = if any_real t then test_pattern else []

-- the bodies one after the other
pub sections_are : (t : Trace)
    → joined (λ x. x.body) (sections_of t)
    ≡ names_body t ++ (geometry_body t ++ (sync_body t ++ (times_body t ++ (signed_byte t.timescale ∷ t.initial ∷ test_body t))))
unfolding joined sections_of
sections_are t = on_test (any_real t) (λ e. rw e) (λ e. rw e)

-- ---- where they start

-- the changes end where the names start
abbrev names_at : Trace → ℕ
names_at t = 4 + length (changes_bytes t)

-- where each section starts, and that there is no 08 without a real
pub record Starts (t : Trace) : Type 0 where
  pub changes : value_in 0x01 (places_of t) ≡ 4
  pub names : value_in 0x03 (places_of t) ≡ names_at t
  pub geometry : value_in 0x04 (places_of t) ≡ names_at t + length (names_body t)
  pub sync : value_in 0x02 (places_of t) ≡ names_at t + length (names_body t) + length (geometry_body t)
  pub times : value_in 0x06 (places_of t) ≡ names_at t + length (names_body t) + length (geometry_body t) + length (sync_body t)
  pub timescale : value_in 0x05 (places_of t) ≡ names_at t + length (names_body t) + length (geometry_body t) + length (sync_body t) + length (times_body t)
  pub initial : value_in 0x07 (places_of t) ≡ names_at t + length (names_body t) + length (geometry_body t) + length (sync_body t) + length (times_body t) + 1
  pub test : any_real t ≡ true → value_in 0x08 (places_of t) ≡ names_at t + length (names_body t) + length (geometry_body t) + length (sync_body t) + length (times_body t) + 1 + 1
  pub no_test : any_real t ≡ false → value_in 0x08 (places_of t) ≡ 0

-- each place is the length of what stands before it
pub starts_are : (t : Trace) → Starts t
unfolding value_in places_of places_from sections_of
starts_are t =
    record {
      changes = refl;
      names = refl;
      geometry = refl;
      sync = refl;
      times = refl;
      timescale = refl;
      initial = refl;
      test = λ e. rw e;
      no_test = λ e. rw e;
    }
