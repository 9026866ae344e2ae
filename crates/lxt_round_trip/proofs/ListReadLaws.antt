-- The section list of a written file, read from its end.
use Rattle.std.specs.Prelude.{if◌then◌else◌}
use Prim.Native.Nat.{ℕ, zero, suc, ◌+◌, ◌*◌, ◌-◌, ◌≤◌, ◌<◌}
use mathlib.Core.Path.{◌≡◌, refl, sym, ap, ◌∙◌}
use mathlib.Core.List.{List, [], ◌∷◌, ◌++◌}
use lib.ListN.{length, length-append}
use lib.Dec.{eqb}
use native.Mathlib.Omega.{arith}
use native.Mathlib.Decide.{ℕ_discrete}
use borrow.Author.Tests.{eq-eqb, ne_eqb, eqb-true}
use Rattle.lxt_format.specs.Basics.{range, joined}
use Rattle.lxt_format.specs.BasicsLaws.{on_test}
use Rattle.lxt_format.specs.Bytes.{byte_at, u32_at}
use Rattle.lxt_format.specs.Sections.{Item, value_in}
use Rattle.lxt_format.specs.SectionsLaws.{list_at, list_next}
use Rattle.lxt_chains.specs.Pending.{Each}
use Rattle.lxt_chains.proofs.Lists.{each_joined, each_range}
use Rattle.lxt_written.specs.WrittenChanges.{big_endian}
use Rattle.lxt_written.specs.WrittenFile.{item_bytes}
use Rattle.lxt_written.specs.Stands.{Stands, stands_front, stands_back, length_big_endian}
use Rattle.lxt_written.specs.TableSizes.{length_rows}
use Rattle.lxt_round_trip.proofs.TableLaws.{stands_u32}

-- ---- items

-- the bytes of an item
abbrev pub item_of : Item → List ℕ
item_of i = big_endian 4 i.value ++ (i.tag ∷ [])

-- "a tag byte with a 4-byte value"
length_item : (i : Item) → length (item_of i) ≡ 5
length_item i = omega (arith, length-append (big_endian 4 i.value) (i.tag ∷ []), length_big_endian 4 i.value)

-- items are 5 bytes each long
pub length_items : (xs : List Item) → length (joined item_of xs) ≡ 5 * length xs
length_items xs = length_rows 5 item_of length_item xs

-- an item that can be read: its tag is not END, and its value has 4 bytes
pub record Readable (i : Item) : Type 0 where
  pub tag : 0 < i.tag
  pub value : i.value < 4294967296

-- an item that stands before the byte after p + 5 is read there
item_read : (s : List ℕ) (p : ℕ) (i : Item) → Stands s (p + 1) (item_of i) → Readable i → (byte_at s (p + 5) ≡ i.tag) × (u32_at s (p + 5 - 4) ≡ i.value)
item_read s p i h r =
    let e : p + 5 - 4 ≡ p + 1 = omega arith in
    let l = length_big_endian 4 i.value in
    let last = stands_back s (p + 1) (big_endian 4 i.value) (i.tag ∷ []) h in
    let q : p + 1 + length (big_endian 4 i.value) + 0 ≡ p + 5 = omega arith in
    let tag : byte_at s (p + 5) ≡ i.tag = sym (ap (byte_at s) q) ∙ last.same 0 (omega arith) in
    (tag, rw e (stands_u32 i.value s (p + 1) (stands_front s (p + 1) (big_endian 4 i.value) (i.tag ∷ []) h) r.value))

-- items that stand after p are read back to p, the first nearest
pub list_read : (s : List ℕ) (p : ℕ) (xs met : List Item) → 4 ≤ p → Stands s (p + 1) (joined item_of xs) → Each Readable xs
    → list_at s (p + 5 * length xs) met ≡ list_at s p (xs ++ met)
unfolding joined
list_read s p [] met l h r = let e : p + 5 * 0 ≡ p = omega arith in rw e
list_read s p (x ∷ xs) met l h (Each.both r rs) =
    let e : p + 5 * suc (length xs) ≡ p + 5 + 5 * length xs = omega arith in
    let n = length_item x in
    let q : p + 1 + length (item_of x) ≡ p + 5 + 1 = omega arith in
    let rest = list_read s (p + 5) xs met (omega arith) (rw q at (stands_back s (p + 1) (item_of x) (joined item_of xs) h)) rs in
    let i = item_read s p x (stands_front s (p + 1) (item_of x) (joined item_of xs) h) r in
    let not_end : byte_at s (p + 5) ≡ 0 → ⊥ = λ z. omega (arith, i.0, r.tag) in
    let back : p + 5 - 5 ≡ p = omega arith in
    let next = list_next s (p + 5) (xs ++ met) not_end (omega arith) in
    rw (e, rest, next, i.0, i.1, back)

-- ---- the items of rising tags, those with a value of 0 left out

module _ (v : ℕ → ℕ) where
  -- the item of a tag with the value v tag
  unfoldable pub chosen : ℕ → List Item
  chosen tag = if eqb (v tag) 0 then [] else record { tag = tag; value = v tag } ∷ []

  -- they are what is written
  pub chosen_bytes : (tags : List ℕ) → joined (λ tag. item_bytes tag (v tag)) tags ≡ joined item_of (joined chosen tags)
  unfolding joined chosen item_bytes
  chosen_bytes [] = refl
  chosen_bytes (tag ∷ tags) =
      let rest = chosen_bytes tags in
      on_test (eqb (v tag) 0) (λ e. rw (e, rest)) (λ e. rw (e, rest))

  -- they can be read
  pub chosen_readable : (i k : ℕ) → 0 < i → ((tag : ℕ) → v tag < 4294967296) → Each Readable (joined chosen (range i k))
  chosen_readable i k l b = each_joined chosen (each_range i k (λ tag a c. one tag (omega arith)))
    where
      one : (tag : ℕ) → 0 < tag → Each Readable (chosen tag)
      one tag h = unfold chosen in on_test (eqb (v tag) 0) (λ e. rw e Each.none) (λ e. rw e (Each.both (record { tag = h; value = b tag }) Each.none))

  -- a tag of another number is not found in front
  skipped : (tag other : ℕ) (items : List Item) → (other ≡ tag → ⊥) → value_in tag (chosen other ++ items) ≡ value_in tag items
  unfolding chosen value_in
  skipped tag other items n = on_test (eqb (v other) 0) (λ e. rw e) (λ e. rw e (simp (ne_eqb other tag n)))

  -- a tag that is not in the range has no value
  pub chosen_none : (tag i k : ℕ) → ((j : ℕ) → i ≤ j → j < i + k → j ≡ tag → ⊥) → value_in tag (joined chosen (range i k)) ≡ 0
  unfolding joined range value_in
  chosen_none tag i zero n = refl
  chosen_none tag i (suc k) n =
      skipped tag i (joined chosen (range (suc i) k)) (n i (omega arith) (omega arith))
      ∙ chosen_none tag (suc i) k (λ j a b. n j (omega arith) (omega arith))

  -- the tag in front has its value, where what follows has none of that tag
  in_front : (tag : ℕ) (items : List Item) → value_in tag items ≡ 0 → value_in tag (chosen tag ++ items) ≡ v tag
  unfolding chosen value_in
  in_front tag items h = on_test (eqb (v tag) 0) (λ e. rw e (h ∙ sym (eqb-true (v tag) 0 e))) (λ e. rw e (simp (eq-eqb tag tag refl)))

  -- a tag of the range has its value
  pub chosen_value : (tag i k : ℕ) → i ≤ tag → tag < i + k → value_in tag (joined chosen (range i k)) ≡ v tag
  unfolding joined range
  chosen_value tag i zero a b = absurd (omega arith)
  chosen_value tag i (suc k) a b =
      let rest : suc i ≤ tag → value_in tag (joined chosen (range (suc i) k)) ≡ v tag = λ c. chosen_value tag (suc i) k c (omega arith) in
      elim (ℕ_discrete i tag) [
        | yes e ↦ rw e (in_front tag _ (chosen_none tag (suc tag) k (λ j c d q. omega arith)))
        | no n ↦ skipped tag i (joined chosen (range (suc i) k)) n ∙ rest (omega arith)
      ]
