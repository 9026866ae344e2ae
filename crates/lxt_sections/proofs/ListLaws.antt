-- The table of counting values while the section list is read, and a law for each way out of the loop.
use Prim.Native.Nat.{ℕ, zero, suc, ◌+◌, ◌-◌, ◌≤◌, ◌<◌}
use mathlib.Core.Path.{◌≡◌, refl, sym, ◌∙◌, ap, subst}
use mathlib.Core.Bool.{true, false}
use Rattle.std.specs.Prelude.{Some, None}
use mathlib.Core.List.{List, [], ◌∷◌, map}
use lib.ListN.{length, set, replicate}
use lib.Seq.{set_out}
use native.Mathlib.Omega.{arith}
use borrow.Author.Tests.{eq-eqb, ne_eqb}
use Rattle.lxt_format.specs.Basics.{range}
use Rattle.lxt_format.specs.Bytes.{byte_at, u32_at}
use Rattle.lxt_format.specs.Sections.{Item, unlisted, listing_of, value_in}
use Rattle.lxt_format.specs.SectionsLaws.{list_at, listing_at, list_below, list_end, list_cut, list_next}
use Rattle.lxt_sections.specs.Stage.{table_of, listed_of}

pub put_out : (t : List ℕ) (tag v n : ℕ) → length t ≡ n → n ≤ tag → t ≡ set t tag v
put_out t tag v n e h = let g : length t ≤ tag = omega arith in sym (set_out t tag v g)

abbrev item : ℕ → ℕ → Item
item tag v = record { tag = tag; value = v }

-- an item says nothing of higher tags
values_past : (i k tag v : ℕ) (met : List Item) → tag < i
    → map (λ t. value_in t (item tag v ∷ met)) (range i k) ≡ map (λ t. value_in t met) (range i k)
unfolding range value_in
values_past i zero tag v met h = refl
values_past i (suc k) tag v met h =
    let n : tag ≡ i → ⊥ = omega arith in
    simp (ne_eqb tag i n) (ap (λ (l : List ℕ). value_in i met ∷ l) (values_past (suc i) k tag v met (omega arith)))

-- a value that is met later takes the place of one met before
values_at : (i k tag j v : ℕ) (met : List Item) → j ≡ i + tag
    → set (map (λ t. value_in t met) (range i k)) tag v ≡ map (λ t. value_in t (item j v ∷ met)) (range i k)
unfolding range value_in
values_at i zero tag j v met e = refl
values_at i (suc k) zero j v met e =
    let P : ℕ → Type 0 = λ n. (v ∷ map (λ t. value_in t met) (range (suc i) k)) ≡ map (λ t. value_in t (item n v ∷ met)) (i ∷ range (suc i) k) in
    let here : i ≡ j = omega arith in
    let at_i : P i = simp (eq-eqb i i refl) (ap (λ (l : List ℕ). v ∷ l) (sym (values_past (suc i) k i v met (omega arith)))) in
    subst P here at_i
values_at i (suc k) (suc tag) j v met e =
    let n : j ≡ i → ⊥ = omega arith in
    simp (ne_eqb j i n) (ap (λ (l : List ℕ). value_in i met ∷ l) (values_at (suc i) k tag j v met (omega arith)))

values_put : (i k tag v : ℕ) (met : List Item)
    → set (map (λ t. value_in t met) (range i k)) tag v ≡ map (λ t. value_in t (item (i + tag) v ∷ met)) (range i k)
values_put i k tag v met = values_at i k tag (i + tag) v met refl

table_put : (tag v : ℕ) (met : List Item) → set (table_of met) tag v ≡ table_of (item tag v ∷ met)
unfolding table_of
table_put tag v met = values_put 0 21 tag v met ∙ (let e : 0 + tag ≡ tag = omega arith in rw e)

-- What holds at the tag at p, with the table t of the values met so far: the rest of the list gives what the whole list gives.
pub record Reading (s : List ℕ) (p : ℕ) (t : List ℕ) : Type 0 where
  pub within : p ≤ length s - 2
  pub met : List Item
  pub table : t ≡ table_of met
  pub whole : list_at s p met ≡ listing_of s

pub begun : (s : List ℕ) (p : ℕ) → p ≡ length s - 2 → Reading s p (replicate 21 0)
unfolding table_of range value_in
begun s p e = record { within = omega arith; met = []; table = refl; whole = rw e (sym (listing_at s)) }

module _ (s : List ℕ) (p : ℕ) (t : List ℕ) (w : Reading s p t) where
  none_listed : list_at s p w.met ≡ unlisted → None ≡ listed_of s
  unfolding listed_of
  none_listed e = let l : (listing_of s).listed ≡ false = rw e at (sym (ap (λ (r : Rattle.lxt_format.specs.Sections.Listing). r.listed) w.whole)) in rw l

  pub low : p < 4 → None ≡ listed_of s
  low h = none_listed (list_below s p w.met h)

  module _ (tag : ℕ) (et : tag ≡ byte_at s p) where
    not_end : (tag ≡ 0 → ⊥) → byte_at s p ≡ 0 → ⊥
    not_end n z = n (et ∙ z)

    pub cut : 4 ≤ p → (tag ≡ 0 → ⊥) → p < 8 → None ≡ listed_of s
    cut h n l = none_listed (list_cut s p w.met h (not_end n) l)

    pub ended : 4 ≤ p → tag ≡ 0 → Some (record { table = t; end = p }) ≡ listed_of s
    unfolding listed_of
    ended h e =
        let r : listing_of s ≡ record { listed = true; items = w.met; end = p } = sym w.whole ∙ list_end s p w.met h (sym et ∙ e) in
        rw (r, w.table)

    pub next : 8 ≤ p → (tag ≡ 0 → ⊥) → (v : ℕ) → v ≡ u32_at s (p - 4) → (u : List ℕ) → u ≡ set t tag v → Reading s (p - 5) u
    next h n v ev u eu =
        let l = w.within in
        record {
          within = omega arith;
          met = item (byte_at s p) v ∷ w.met;
          table = eu ∙ rw (et, w.table) (table_put (byte_at s p) v w.met);
          whole = rw ev (sym (list_next s p w.met (not_end n) h) ∙ w.whole);
        }
