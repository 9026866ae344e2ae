-- The frame and the section list of a written file, and where its sections stand.
use Prim.Native.Nat.{ℕ, ◌+◌, ◌*◌, ◌-◌, ◌≤◌, ◌<◌}
use mathlib.Core.Path.{◌≡◌, sym, ap, ◌∙◌}
use mathlib.Core.Bool.{true}
use mathlib.Core.List.{List, [], ◌∷◌, ◌++◌, append-nil}
use lib.ListN.{length, length-append}
use lib.Dec.{eqb}
use native.Mathlib.Omega.{arith}
use Rattle.lxt_format.specs.Limits.{longest_file}
use Rattle.lxt_format.specs.Basics.{range, joined}
use Rattle.lxt_format.specs.BasicsLaws.{on_test}
use Rattle.lxt_format.specs.Bytes.{byte_at}
use Rattle.lxt_format.specs.Sections.{Item, listing_of, value_in, section_of, end_of}
use Rattle.lxt_format.specs.SectionsLaws.{listing_at, list_end}
use Rattle.lxt_written.specs.Input.{Trace}
use Rattle.lxt_written.specs.WrittenChanges.{changes_bytes}
use Rattle.lxt_written.specs.WrittenFile.{Section, sections_of, places_from, places_of, list_bytes, header, file_of}
use Rattle.lxt_written.specs.Stands.{Stands, stands_whole, stands_front, stands_back}
use Rattle.lxt_round_trip.specs.Steps.{changes_end, sections_end}
use Rattle.lxt_round_trip.proofs.ListReadLaws.{item_of, length_items, list_read, chosen, chosen_bytes, chosen_readable, chosen_none, chosen_value}

-- ---- the parts of the file

-- where they stand
pub record Shape (t : Trace) (s : List ℕ) : Type 0 where
  pub head : Stands s 0 header
  pub changes : Stands s 4 (changes_bytes t)
  pub sections : Stands s (changes_end t) (joined (λ x. x.body) (sections_of t))
  pub end : byte_at s (sections_end t) ≡ 0
  pub list : Stands s (sections_end t + 1) (list_bytes (places_of t))
  pub last : byte_at s (length s - 1) ≡ 0xB4
  pub long : length s ≡ sections_end t + 2 + length (list_bytes (places_of t))

-- a byte that stands at o
pub stands_byte : (s : List ℕ) (o x : ℕ) (xs : List ℕ) → Stands s o (x ∷ xs) → byte_at s o ≡ x
stands_byte s o x xs h = let e : o + 0 ≡ o = omega arith in sym (ap (byte_at s) e) ∙ h.same 0 (omega arith)

-- every part of what is written stands at its place
pub shape : (t : Trace) → Shape t (file_of t)
unfolding file_of
shape t =
    let s : List ℕ = file_of t in
    let changes : List ℕ = changes_bytes t in
    let sections : List ℕ = joined (λ x. x.body) (sections_of t) in
    let list : List ℕ = list_bytes (places_of t) in
    let after : List ℕ = list ++ (0xB4 ∷ []) in
    let whole : Stands s 0 (header ++ (changes ++ (sections ++ (0x00 ∷ after)))) = stands_whole s in
    let a = stands_back s 0 header (changes ++ (sections ++ (0x00 ∷ after))) whole in
    let b = stands_back s 4 changes (sections ++ (0x00 ∷ after)) a in
    let c = stands_back s (changes_end t) sections (0x00 ∷ after) b in
    let d = stands_back s (sections_end t) (0x00 ∷ []) after c in
    let e = stands_back s (sections_end t + 1) list (0xB4 ∷ []) d in
    let la = length-append changes (sections ++ (0x00 ∷ after)) in
    let lb = length-append sections (0x00 ∷ after) in
    let lc = length-append list (0xB4 ∷ []) in
    let long : length s ≡ sections_end t + 2 + length list = omega arith in
    let q : sections_end t + 1 + length list ≡ length s - 1 = omega arith in
    record {
      head = stands_front s 0 header (changes ++ (sections ++ (0x00 ∷ after))) whole;
      changes = stands_front s 4 changes (sections ++ (0x00 ∷ after)) a;
      sections = stands_front s (changes_end t) sections (0x00 ∷ after) b;
      end = stands_byte s (sections_end t) 0x00 after c;
      list = stands_front s (sections_end t + 1) list (0xB4 ∷ []) d;
      last = sym (ap (byte_at s) q) ∙ stands_byte s (sections_end t + 1 + length list) 0xB4 [] e;
      long = long;
    }

-- ---- the section list

-- no section starts past the end of the last
place_below : (tag at : ℕ) (xs : List Section) → value_in tag (places_from at xs) ≤ at + length (joined (λ x. x.body) xs)
unfolding value_in places_from joined
place_below tag at [] = omega arith
place_below tag at (x ∷ xs) =
    let rest = place_below tag (at + length x.body) xs in
    let l = length-append x.body (joined (λ x. x.body) xs) in
    on_test (eqb x.tag tag) (λ e. rw e (omega arith)) (λ e. rw e (omega arith))

-- of a trace
places_below : (t : Trace) (tag : ℕ) → value_in tag (places_of t) ≤ sections_end t
unfolding value_in places_of
places_below t tag =
    let rest = place_below tag (changes_end t) (sections_of t) in
    on_test (eqb 0x01 tag) (λ e. rw e (omega arith)) (λ e. rw e rest)

-- the items that are written
abbrev items_for : Trace → List Item
items_for t = joined (chosen (λ tag. value_in tag (places_of t))) (range 0x01 8)

-- they are the bytes of the list
list_bytes_lem : (t : Trace) → list_bytes (places_of t) ≡ joined item_of (items_for t)
unfolding list_bytes
list_bytes_lem t = chosen_bytes (λ tag. value_in tag (places_of t)) (range 0x01 8)

module _ (t : Trace) (s : List ℕ) (h : Shape t s) (short : length s ≤ longest_file) where
  -- the list is read back whole
  listing : listing_of s ≡ record { listed = true; items = items_for t; end = sections_end t }
  listing =
      let v : ℕ → ℕ = λ tag. value_in tag (places_of t) in
      let xs : List Item = items_for t in
      let e = list_bytes_lem t in
      let n = length_items xs in
      let m : length (list_bytes (places_of t)) ≡ length (joined item_of xs) = ap length e in
      let p : length s - 2 ≡ sections_end t + 5 * length xs = omega (arith, h.long) in
      let fits : (tag : ℕ) → v tag < 4294967296 = λ tag. omega (arith, places_below t tag, h.long) in
      let read = list_read s (sections_end t) xs [] (omega arith) (rw e at h.list) (chosen_readable v 0x01 8 (omega arith) fits) in
      listing_at s ∙ rw (p, read) (rw append-nil (list_end s (sections_end t) xs (omega arith) h.end))

  -- END is met, at T
  pub list_ends : ((listing_of s).listed ≡ true) × (end_of s ≡ sections_end t)
  unfolding end_of
  list_ends = (ap (λ l. l.listed) listing, ap (λ l. l.end) listing)

  -- the sections of tags 1 to 8 are found where they are
  pub section_placed : (tag : ℕ) → 0x01 ≤ tag → tag < 0x09 → section_of s tag ≡ value_in tag (places_of t)
  unfolding section_of
  section_placed tag a b = ap (λ l. value_in tag l.items) listing ∙ chosen_value (λ tag. value_in tag (places_of t)) tag 0x01 8 a (omega arith)

  -- and no others
  pub section_absent : (tag : ℕ) → 0x09 ≤ tag → section_of s tag ≡ 0
  unfolding section_of
  section_absent tag a =
      ap (λ l. value_in tag l.items) listing
      ∙ chosen_none (λ tag. value_in tag (places_of t)) tag 0x01 8 (λ j c d e. omega arith)
