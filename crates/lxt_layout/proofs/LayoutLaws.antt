-- A law for each way out of the functions that put the parts of a written file into the lent buffer.
use Rattle.std.specs.Prelude.{if◌then◌else◌}
use Prim.Native.Nat.{ℕ, suc, ◌+◌, ◌*◌, ◌≤◌, ◌<◌}
use native.Mathlib.Nat.{add-zero}
use native.Mathlib.Numerals.{add-one}
use native.Mathlib.Omega.{arith}
use mathlib.Core.Path.{◌≡◌, refl, sym, ap, ◌∙◌}
use mathlib.Core.Bool.{Bool, true, false, ◌&&◌}
use mathlib.Core.List.{List, [], ◌∷◌, ◌++◌}
use lib.ListN.{length, get_or, set, take, drop, drop_of_length-le}
use lib.Seq.{drop-cons, length-take-le}
use lib.IntN.{ℤ, pos, negsuc}
use lib.Signed.{le_z}
use lib.Dec.{leb}
use borrow.Author.Tests.{leb-true, leb-false, le-leb, lt-leb}
use mir.Syntax.{w8}
use mir.Val.{SFits, of_z, to_z}
use mir.ValLaws.{to_z-of_z}
use Rattle.lxt_format.specs.Basics.{joined}
use Rattle.lxt_format.specs.BasicsLaws.{on_test}
use Rattle.lxt_format.specs.Buffers.{placed, length_placed, placed_none, placed_more}
use Rattle.lxt_format.specs.Reals.{test_pattern}
use Rattle.lxt_format.specs.Sections.{timescale_allowed}
use Rattle.lxt_written.specs.Stands.{length_big_endian}
use Rattle.lxt_written.specs.WrittenChanges.{big_endian}
use Rattle.lxt_written.specs.WrittenFile.{header, words, signed_byte}
use Rattle.lxt_pack.proofs.ChangeLaws.{one_byte}
use Rattle.lxt_pack.proofs.PutLaws.{stored_two}
use Rattle.lxt_layout.specs.declared.Places.{Places}
use Rattle.lxt_layout.specs.Layout.{values_section, items_from, item_values, tail_of}

-- ---- text after text

-- text at a place, and more behind it
put_then : (b c d : List ℕ) (at k : ℕ) (t u : List ℕ) → length t ≡ k → at + k ≤ length b
    → c ≡ placed b at t → d ≡ placed c (at + k) u → d ≡ placed b at (t ++ u)
put_then b c d at k t u e h first second = second ∙ rw (first, ← e) (placed_more b at t u (omega arith))

-- ---- the header, and the heads of the names and of the times

-- the header is one word
pub header_put : (b c : List ℕ) → c ≡ placed b 0 (big_endian 4 0x01380004) → c ≡ placed b 0 header
unfolding big_endian
header_put b c h = h

module _ (b c d : List ℕ) (at x y : ℕ) (first : c ≡ placed b at (big_endian 4 x)) (second : d ≡ placed c (at + 4) (big_endian 4 y)) where
  -- two words, and three
  pub two_put : at + 8 ≤ length b → d ≡ placed b at (words (x ∷ y ∷ []))
  unfolding joined big_endian
  two_put h = put_then b c d at 4 (big_endian 4 x) (big_endian 4 y) refl (omega arith) first second

  pub three_put : (e : List ℕ) (z : ℕ) → at + 12 ≤ length b → e ≡ placed d (at + 8) (big_endian 4 z) → e ≡ placed b at (words (x ∷ y ∷ z ∷ []))
  unfolding joined big_endian
  three_put e z h third = put_then b d e at 8 (words (x ∷ y ∷ [])) (big_endian 4 z) refl (omega arith) (two_put (omega arith)) third

-- ---- the timescale

-- "outside -21 to 2"
within_scale : (z : ℤ) → (le_z (negsuc 20) z && le_z z (pos 2)) ≡ timescale_allowed z
unfolding timescale_allowed
within_scale (pos k) = refl
within_scale (negsuc k) =
    on_test (leb k 20) (λ e. (let h = leb-true k 20 e in simp (e, le-leb (k + 1) 21 (omega arith))))
    (λ e. (let h = leb-false k 20 e in simp (e, lt-leb (k + 1) 21 (omega arith))))

-- of a number that fits a byte, as the code has it
pub scale_allowed : (z : ℤ) → SFits w8 z → (le_z (negsuc 20) (to_z w8 (of_z w8 z)) && le_z (to_z w8 (of_z w8 z)) (pos 2)) ≡ timescale_allowed z
scale_allowed z f = rw (to_z-of_z w8 z f) (within_scale z)

-- its byte
byte_is : (z : ℤ) → SFits w8 z → of_z w8 z ≡ signed_byte z
unfolding signed_byte
byte_is (pos k) f = refl
byte_is (negsuc k) f = omega arith

-- ---- the sections of one value

-- the real test, of two words
pub test_put : (b c d : List ℕ) (at : ℕ) → at + 8 ≤ length b
    → c ≡ placed b at (big_endian 4 0x6E861BF0) → d ≡ placed c (at + 4) (big_endian 4 0xF9210940) → d ≡ placed b at test_pattern
unfolding big_endian
test_put b c d at h first second = put_then b c d at 4 (big_endian 4 0x6E861BF0) (big_endian 4 0xF9210940) refl (omega arith) first second

module _ (z : ℤ) (f : SFits w8 z) where
  -- timescale and initial symbol
  pub pair_put : (b : List ℕ) (at x y : ℕ) → at + 2 ≤ length b → x ≡ of_z w8 (to_z w8 (of_z w8 z)) → set (set b at x) (at + 1) y ≡ placed b at (signed_byte z ∷ y ∷ [])
  pair_put b at x y h e = stored_two b at x y h ∙ rw (e, to_z-of_z w8 z f, byte_is z f)

  module _ (b c : List ℕ) (at initial : ℕ) (real : Bool) (first : c ≡ placed b at (signed_byte (to_z w8 (of_z w8 z)) ∷ initial ∷ [])) where
    pair_is : c ≡ placed b at (signed_byte z ∷ initial ∷ [])
    pair_is = first ∙ ap (λ n. placed b at (signed_byte n ∷ initial ∷ [])) (to_z-of_z w8 z f)

    -- with the real test behind them, and without
    pub values_test : (d : List ℕ) → at + 2 + (if real then 8 else 0) ≤ length b → real ≡ true → d ≡ placed c (at + 2) test_pattern
        → d ≡ placed b at (values_section z initial real)
    unfolding values_section
    values_test d h e second = rw e (put_then b c d at 2 (signed_byte z ∷ initial ∷ []) test_pattern refl (omega arith) pair_is second)

    pub values_plain : real ≡ false → c ≡ placed b at (values_section z initial real)
    unfolding values_section
    values_plain e = rw e pair_is

-- ---- the section list

-- one item: its value and its tag
pub item_put : (b c d : List ℕ) (at v tag : ℕ) → at + 5 ≤ length b → tag < 256
    → c ≡ placed b at (big_endian 4 v) → d ≡ placed c (at + 4) (big_endian 1 tag) → d ≡ placed b at (items_from tag (v ∷ []))
unfolding items_from
item_put b c d at v tag h l first second =
    put_then b c d at 4 (big_endian 4 v) (tag ∷ []) (length_big_endian 4 v) (omega arith) first (second ∙ rw (one_byte tag l))

-- the first item, and the others
items_first : (tag v : ℕ) (vs : List ℕ) → items_from tag (v ∷ vs) ≡ items_from tag (v ∷ []) ++ items_from (suc tag) vs
unfolding items_from big_endian
items_first tag v vs = refl

-- an item is 5 bytes long
pub length_items : (tag : ℕ) (vs : List ℕ) → length (items_from tag vs) ≡ 5 * length vs
unfolding items_from big_endian
length_items tag [] = refl
length_items tag (v ∷ vs) = omega (arith, length_items (suc tag) vs)

-- i items are put; those that are left, put behind them, give all
pub record Listing (b : List ℕ) (at : ℕ) (vs b' : List ℕ) (i : ℕ) : Type 0 where
  pub left : placed b' (at + 5 * i) (items_from (i + 1) (drop i vs)) ≡ placed b at (items_from 1 vs)
  pub upto : i ≤ length vs
  pub few : length vs ≤ 8
  pub room : at + 5 * length vs ≤ length b
  pub long : length b' ≡ length b

-- none is put yet
pub list_begun : (b : List ℕ) (at : ℕ) (vs : List ℕ) → at + 5 * length vs ≤ length b → length vs ≤ 8 → Listing b at vs b 0
list_begun b at vs r h = record { left = rw (add-zero at); upto = omega arith; few = h; room = r; long = refl }

module _ (b : List ℕ) (at : ℕ) (vs b' : List ℕ) (i : ℕ) (w : Listing b at vs b' i) where
  -- one more is put
  pub list_turn : (c : List ℕ) → i < length vs → c ≡ placed b' (at + 5 * i) (items_from (i + 1) (get_or vs i 0 ∷ [])) → Listing b at vs c (i + 1)
  list_turn c h e =
      let l = w.long in
      let r = w.room in
      let item : List ℕ = items_from (i + 1) (get_or vs i 0 ∷ []) in
      let rest : List ℕ = items_from (suc (i + 1)) (drop (suc i) vs) in
      let five : length item ≡ 5 = length_items (i + 1) (get_or vs i 0 ∷ []) in
      let parts : items_from (i + 1) (drop i vs) ≡ item ++ rest = ap (items_from (i + 1)) (drop-cons vs i 0 h) ∙ items_first (i + 1) (get_or vs i 0) (drop (suc i) vs) in
      let place : at + 5 * suc i ≡ at + 5 * i + length item = omega arith in
      let next : suc i + 1 ≡ suc (i + 1) = omega arith in
      let room : at + 5 * i + length item ≤ length b' = omega arith in
      record {
        left = rw (add-one i, place, next, e) (placed_more b' (at + 5 * i) item rest room ∙ ap (λ t. placed b' (at + 5 * i) t) (sym parts) ∙ w.left);
        upto = omega arith;
        few = w.few;
        room = w.room;
        long = rw e (length_placed b' (at + 5 * i) item room ∙ w.long);
      }

  -- all are put
  pub list_ended : length vs ≤ i → b' ≡ placed b at (items_from 1 vs)
  list_ended h =
      let none : items_from (i + 1) (drop i vs) ≡ [] = unfold items_from in rw (drop_of_length-le vs h) in
      sym (placed_none b' (at + 5 * i)) ∙ ap (λ t. placed b' (at + 5 * i) t) (sym none) ∙ w.left

-- ---- the values of the list

-- with the value of tag 08
abbrev eight : Places → List ℕ
eight p = 4 ∷ p.sync ∷ p.names ∷ p.geometry ∷ p.timescale ∷ p.times ∷ (p.timescale + 1) ∷ (p.timescale + 2) ∷ []

-- the bytes of n items, and with END and the last byte
pub five_each : (real : Bool) (n : ℕ) → n ≡ (if real then 8 else 7) → (5 * n ≡ (if real then 40 else 35)) × (5 * n + 2 ≡ (if real then 42 else 37))
five_each true n e = (omega arith, omega arith)
five_each false n e = (omega arith, omega arith)

module _ (p : Places) where
  -- the first n of them are those of the list
  values_taken : (real : Bool) (n : ℕ) → n ≡ (if real then 8 else 7) → take n (eight p) ≡ item_values p real
  unfolding item_values
  values_taken true n e = rw e
  values_taken false n e = rw e

  -- there are 8 or 7
  pub length_values : (real : Bool) → length (item_values p real) ≡ (if real then 8 else 7)
  unfolding item_values
  length_values true = refl
  length_values false = refl

  -- n of the 8 are n
  pub values_long : (n : ℕ) → n ≤ 8 → n ≡ length (take n (eight p))
  values_long n h = sym (length-take-le n (eight p) h)

  module _ (b : List ℕ) (at : ℕ) (real : Bool) (n : ℕ) (e : n ≡ (if real then 8 else 7)) (few : n ≤ 8) where
    -- there is room for them
    pub list_room : at + (if real then 40 else 35) ≤ length b → (at + 5 * length (take n (eight p)) ≤ length b) × (length (take n (eight p)) ≤ 8)
    list_room h =
        let l = values_long n few in
        let f = five_each real n e in
        (omega arith, omega arith)

    -- they are the list
    pub list_put : (c : List ℕ) → c ≡ placed b at (items_from 1 (take n (eight p))) → c ≡ placed b at (items_from 1 (item_values p real))
    list_put c h = rw (← values_taken real n e) h

  -- ---- END, the list and the last byte

  module _ (b : List ℕ) (real : Bool) (n : ℕ) (e : n ≡ (if real then 8 else 7)) (room : p.end + (if real then 42 else 37) ≤ length b) where
    -- there is room for the list and for the last byte
    pub tail_room : (p.end + 1 + (if real then 40 else 35) ≤ length b) × (p.end + 1 + 5 * n + 1 ≤ length b)
    tail_room = let f = five_each real n e in (omega arith, omega arith)

    -- they are put one after the other
    pub tail_put : (c d f : List ℕ) → c ≡ placed b p.end (big_endian 1 0) → d ≡ placed c (p.end + 1) (items_from 1 (item_values p real))
        → f ≡ placed d (p.end + 1 + 5 * n) (big_endian 1 0xB4) → f ≡ placed b p.end (tail_of p real)
    unfolding tail_of
    tail_put c d f first second third =
        let list : List ℕ = items_from 1 (item_values p real) in
        let l = length_items 1 (item_values p real) in
        let v = length_values real in
        let r = tail_room.1 in
        let place : p.end + 1 + 5 * n ≡ p.end + (1 + 5 * n) = omega arith in
        let begun : d ≡ placed b p.end (0 ∷ list) =
        put_then b c d p.end 1 (0 ∷ []) list refl (omega arith) (first ∙ rw (one_byte 0 (omega arith))) second in
        put_then b d f p.end (1 + 5 * n) (0 ∷ list) (0xB4 ∷ []) (omega arith) (omega arith) begun (third ∙ rw (one_byte 0xB4 (omega arith), place))
