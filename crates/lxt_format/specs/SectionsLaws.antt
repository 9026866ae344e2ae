-- Laws of the section list and of the bounds that refusals 1 to 9 give.
use Rattle.std.specs.Prelude.{ℕ, zero, suc, ◌+◌, ◌*◌, ◌-◌, ◌≤◌, ◌<◌, ◌≡◌, true, not, ◌&&◌, ◌||◌, List, [], ◌∷◌, length, ltb, eqb}
use Rattle.std.proofs.Math.Path.{refl}
use Rattle.std.proofs.Common.{sym, ◌∙◌}
use Rattle.std.proofs.lemmas.Bool.{false≢true}
use native.Mathlib.Omega.{arith}
use Rattle.std.proofs.Math.Decide.{dec_le}
use borrow.Author.Tests.{eq-eqb, ne_eqb, lt-ltb, le-ltb, leb-true}
use Rattle.lxt_format.specs.Limits.{shortest_file}
use Rattle.lxt_format.specs.Basics.{range, all}
use Rattle.lxt_format.specs.BasicsLaws.{and_both, all_range, or_either, on_test}
use Rattle.lxt_format.specs.Bytes.{byte_at, u32_at}
use Rattle.lxt_format.specs.Sections.{Item, Listing, unlisted, list_from, listing_of, section_of, present, end_of, changes_from, facility_count, wide_times, times_at, time_count, times_size, inside, sections_present, body_size, body_inside, bodies_inside}

-- ---- the section list from the tag at p on

abbrev item : List ℕ → ℕ → Item
item s p = record { tag = byte_at s p; value = u32_at s (p - 4) }

-- any bound above the offset gives the same
list_same : (j k : ℕ) (s : List ℕ) (p : ℕ) (met : List Item) → p < j → p < k → list_from j s p met ≡ list_from k s p met
unfolding list_from
list_same zero k s p met a b = absurd (omega arith)
list_same (suc j) zero s p met a b = absurd (omega arith)
list_same (suc j) (suc k) s p met a b =
    elim (dec_le 4 p) [
      | yes h ↦ rw (list_same j k s (p - 5) (item s p ∷ met) (omega arith) (omega arith))
      | no n ↦ (let l : p < 4 = omega arith in simp (lt-ltb p 4 l))
    ]

-- the list from p on, where the bound is of no matter
unfoldable pub list_at : List ℕ → ℕ → List Item → Listing
list_at s p met = list_from (suc p) s p met

pub listing_at : (s : List ℕ) → listing_of s ≡ list_at s (length s - 2) []
unfolding listing_of list_at
listing_at s =
    elim (dec_le 1 (length s)) [
      | yes h ↦ list_same (length s) (suc (length s - 2)) s (length s - 2) [] (omega arith) (omega arith)
      | no n ↦ (let e : length s ≡ 0 = omega arith in rw e (none s))
    ]
  where
    none : (s : List ℕ) → list_from 0 s (0 - 2) [] ≡ list_from (suc (0 - 2)) s (0 - 2) []
    none s = unfold list_from in refl

module _ (s : List ℕ) (p : ℕ) (met : List Item) where
  -- a tag below offset 4
  pub list_below : p < 4 → list_at s p met ≡ unlisted
  unfolding list_at list_from
  list_below h = simp (lt-ltb p 4 h)

  pub list_end : 4 ≤ p → byte_at s p ≡ 0 → list_at s p met ≡ record { listed = true; items = met; end = p }
  unfolding list_at list_from
  list_end h e = simp (le-ltb p 4 h, eq-eqb (byte_at s p) 0 e)

  -- a value below offset 4
  pub list_cut : 4 ≤ p → (byte_at s p ≡ 0 → ⊥) → p < 8 → list_at s p met ≡ unlisted
  unfolding list_at list_from
  list_cut h n l = let k : p - 4 < 4 = omega arith in simp (le-ltb p 4 h, ne_eqb (byte_at s p) 0 n, lt-ltb (p - 4) 4 k)

  pub list_next : (byte_at s p ≡ 0 → ⊥) → 8 ≤ p → list_at s p met ≡ list_at s (p - 5) (item s p ∷ met)
  unfolding list_at list_from
  list_next n l =
      let h : 4 ≤ p = omega arith in
      let k : 4 ≤ p - 4 = omega arith in
      simp (le-ltb p 4 h, ne_eqb (byte_at s p) 0 n, le-ltb (p - 4) 4 k)
      (list_same p (suc (p - 5)) s (p - 5) (item s p ∷ met) (omega arith) (omega arith))

-- ---- where END lies

end_bounds : (k : ℕ) (s : List ℕ) (p : ℕ) (met : List Item) → (list_from k s p met).listed ≡ true → (4 ≤ (list_from k s p met).end) × ((list_from k s p met).end ≤ p)
unfolding list_from
end_bounds zero s p met h = absurd (false≢true h)
end_bounds (suc k) s p met h =
    let rest : (list_from k s (p - 5) (item s p ∷ met)).listed ≡ true → (4 ≤ (list_from k s (p - 5) (item s p ∷ met)).end) × ((list_from k s (p - 5) (item s p ∷ met)).end ≤ p - 5) =
    λ g. end_bounds k s (p - 5) (item s p ∷ met) g in
    on_test (ltb p 4) (λ e. absurd (false≢true (simp e at h)))
    (λ a. on_test (eqb (byte_at s p) 0) (λ b. simp (a, b) (omega (arith, borrow.Author.Tests.ltb-false p 4 a)))
    (λ b. on_test (ltb (p - 4) 4) (λ e. absurd (false≢true (simp (a, b, e) at h)))
    (λ c. let r = rest (simp (a, b, c) at h) in simp (a, b, c) (omega arith))))

-- "T is the offset of that byte": from 4 up to the byte before the last
pub end_inside : (s : List ℕ) → (listing_of s).listed ≡ true → (4 ≤ end_of s) × (end_of s ≤ length s - 2)
unfolding listing_of end_of
end_inside s h = end_bounds (length s) s (length s - 2) [] h

-- ---- what refusals 7 and 8 give

present_all : (s : List ℕ) → sections_present s ≡ true
    → (present s 0x01 ≡ true) × ((present s 0x02 ≡ true) × ((present s 0x03 ≡ true) × ((present s 0x04 ≡ true) × ((present s 0x06 || present s 0x09) ≡ true))))
unfolding sections_present all
present_all s h =
    let e = and_both (all (present s) (0x01 ∷ 0x02 ∷ 0x03 ∷ 0x04 ∷ [])) (present s 0x06 || present s 0x09) h in
    let a = and_both _ _ e.0 in
    let b = and_both _ _ a.1 in
    let c = and_both _ _ b.1 in
    let d = and_both _ _ c.1 in
    (a.0, (b.0, (c.0, (d.0, e.1))))

-- a section that is there lies inside where its body does
is_inside : (s : List ℕ) (tag : ℕ) → body_inside s tag ≡ true → present s tag ≡ true → (4 ≤ section_of s tag) × (section_of s tag + body_size s tag ≤ end_of s)
unfolding body_inside
is_inside s tag h there =
    or_either (not (present s tag)) _ h (λ e. absurd (false≢true (rw there at e)))
    (λ e. let i = and_both _ _ e in (leb-true _ _ i.0, leb-true _ _ i.1))

-- what refusal 8 tests: the bodies of 02 to 07, that of 09, and C
bodies_parts : (s : List ℕ) → bodies_inside s ≡ true
    → (all (body_inside s) (range 0x02 6) ≡ true) × ((body_inside s 0x09 ≡ true) × (inside (end_of s) (changes_from s) 0 ≡ true))
unfolding bodies_inside
bodies_parts s h =
    let a = and_both (all (body_inside s) (range 0x02 6)) (body_inside s 0x09 && inside (end_of s) (changes_from s) 0) h in
    (a.0, and_both (body_inside s 0x09) (inside (end_of s) (changes_from s) 0) a.1)

pub body_inside_lem : (s : List ℕ) (tag : ℕ) → bodies_inside s ≡ true → 0x02 ≤ tag → tag < 0x08 → present s tag ≡ true
    → (4 ≤ section_of s tag) × (section_of s tag + body_size s tag ≤ end_of s)
body_inside_lem s tag h a b there = is_inside s tag (all_range (body_inside s) 0x02 6 (bodies_parts s h).0 tag a (omega arith)) there

-- the table of times lies inside, that of 06 or that of 09
times_inside : (s : List ℕ) → bodies_inside s ≡ true → (present s 0x06 || present s 0x09) ≡ true
    → (4 ≤ times_at s) × (times_at s + times_size (wide_times s) (time_count s) ≤ end_of s)
unfolding wide_times times_at body_size
times_inside s h one =
    on_test (present s 0x09)
    (λ wide. let i = is_inside s 0x09 (bodies_parts s h).1.0 wide in rw wide (rw wide at i))
    (λ no. let six : present s 0x06 ≡ true = or_either (present s 0x06) (present s 0x09) one (λ e. e) (λ e. absurd (false≢true (sym no ∙ e))) in
    let i = body_inside_lem s 0x06 h (omega arith) (omega arith) six in rw no (rw no at i))

changes_inside : (s : List ℕ) → bodies_inside s ≡ true → (4 ≤ changes_from s) × (changes_from s + 0 ≤ end_of s)
changes_inside s h = let i = and_both _ _ (bodies_parts s h).1.1 in (leb-true _ _ i.0, leb-true _ _ i.1)

-- The bounds of a file that refusals 1 to 8 pass: C, and the bodies of 02, 03 (its head), 04 and the times
pub record Located (s : List ℕ) : Type 0 where
  pub end_low : 4 ≤ end_of s
  pub end_high : end_of s + 2 ≤ length s
  pub changes_low : 4 ≤ changes_from s
  pub changes_high : changes_from s ≤ end_of s
  pub sync_low : 4 ≤ section_of s 0x02
  pub sync_high : section_of s 0x02 + 4 * facility_count s ≤ end_of s
  pub names_low : 4 ≤ section_of s 0x03
  pub names_high : section_of s 0x03 + 8 ≤ end_of s
  pub geometry_low : 4 ≤ section_of s 0x04
  pub geometry_high : section_of s 0x04 + 16 * facility_count s ≤ end_of s
  pub times_low : 4 ≤ times_at s
  pub times_high : times_at s + times_size (wide_times s) (time_count s) ≤ end_of s

pub located : (s : List ℕ) → shortest_file ≤ length s → (listing_of s).listed ≡ true → sections_present s ≡ true → bodies_inside s ≡ true → Located s
unfolding body_size
located s long listed there h =
    let T = end_inside s listed in
    let p = present_all s there in
    let c = changes_inside s h in
    let two = body_inside_lem s 0x02 h (omega arith) (omega arith) p.1.0 in
    let three = body_inside_lem s 0x03 h (omega arith) (omega arith) p.1.1.0 in
    let four = body_inside_lem s 0x04 h (omega arith) (omega arith) p.1.1.1.0 in
    let times = times_inside s h p.1.1.1.1 in
    record {
      end_low = T.0;
      end_high = omega arith;
      changes_low = c.0;
      changes_high = omega arith;
      sync_low = two.0;
      sync_high = two.1;
      names_low = three.0;
      names_high = three.1;
      geometry_low = four.0;
      geometry_high = four.1;
      times_low = times.0;
      times_high = times.1;
    }
