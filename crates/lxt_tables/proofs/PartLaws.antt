-- Parts of a file as numbers, and a law for each way out of the functions on the bodies of sections.
use Prim.Native.Nat.{ℕ, ◌+◌, ◌*◌, ◌-◌, ◌≤◌, ◌<◌, zero-le}
use mathlib.Core.Path.{◌≡◌, refl, sym, ◌∙◌, ap}
use mathlib.Core.Bool.{Bool, true, false, ◌&&◌, ◌||◌, and-false, false≢true}
use mathlib.Core.List.{List, [], ◌∷◌}
use lib.ListN.{length}
use lib.Dec.{ltb, leb, lit<}
use native.Mathlib.Omega.{arith}
use native.Mathlib.Nat.{mul-add-div_right, mul-add-mod_self_right, div-eq_of_lt, mod-eq_of_lt, add-zero}
use native.Mathlib.Decide.{ℕ_discrete}
use borrow.Author.Tests.{ne_eqb, leb-true, le-leb, le-ltb}
use Rattle.lxt_format.specs.Basics.{any}
use Rattle.lxt_format.specs.BasicsLaws.{on_test, and_both, both_and}
use Rattle.lxt_format.specs.Bytes.{u32_at}
use Rattle.lxt_format.specs.Sections.{section_of, present, end_of, facility_count, wide_times, times_at, time_count, times_size, times_once, inside, body_size}
use Rattle.lxt_format.specs.SectionsLaws.{Located, body_inside_lem}
use Rattle.lxt_format.specs.Names.{name_table, names_allowed}
use Rattle.lxt_format.specs.Judge.{tables_refusal}
use Rattle.lxt_format.proofs.JudgeLaws.{passed, passed_located}
use Rattle.lxt_format.specs.Stray.{whole_size, in_body}
use Rattle.lxt_sections.specs.Stage.{sections_of}
use Rattle.lxt_sections.specs.declared.Sections.{Sections}
use Rattle.lxt_sections.proofs.PlaceLaws.{outside_more}
use Rattle.lxt_tables.specs.Stage.{after_names}
use Rattle.lxt_tables.specs.Asked.{Placed}
use Rattle.lxt_tables.specs.Parts.{part_of, part_start, part_end, in_part, in_parts, Bodies}
use Rattle.lxt_tables.proofs.NamesLaws.{end_within}
use Rattle.lxt_tables.proofs.WholeLaws.{times_once_lem}

-- ---- one part

module _ (T start size : ℕ) (z : Bool) (ez : z ≡ inside T start size) where
  pub part_outside : z ≡ false → 0 ≡ part_of T start size
  unfolding part_of
  part_outside h = rw (← ez, h)

  pub part_inside_lem : z ≡ true → start * 4294967296 + (start + size) ≡ part_of T start size
  unfolding part_of
  part_inside_lem h = rw (← ez, h)

  pub part_end_lem : z ≡ true → (4 ≤ start) × (start + size ≤ T)
  part_end_lem h = let i = and_both (leb 4 start) (leb (start + size) T) (sym ez ∙ h) in (leb-true _ _ i.0, leb-true _ _ i.1)

-- the excluded times: a head outside, and the count that the head has
pub head_outside : (T start k : ℕ) (z : Bool) → z ≡ inside T start 4 → z ≡ false → 0 ≡ part_of T start (4 + k)
head_outside T start k z ez h = part_outside T start (4 + k) false (sym (outside_more T start 4 k (sym ez ∙ h))) refl

pub excluded_is : (s : List ℕ) (T start k r : ℕ) → k ≡ u32_at s start → r ≡ part_of T start (4 + 16 * k) → r ≡ part_of T start (4 + 16 * u32_at s start)
excluded_is s T start k r ek er = er ∙ rw ek

-- ---- the bytes of a part

-- start and end are read back from the number
pub start_is : (a b : ℕ) → b < 4294967296 → part_start (a * 4294967296 + b) ≡ a
unfolding part_start
start_is a b h = mul-add-div_right (lit< tt) a b ∙ rw (div-eq_of_lt h) (add-zero a)

pub end_is : (a b : ℕ) → b < 4294967296 → part_end (a * 4294967296 + b) ≡ b
unfolding part_end
end_is a b h = mul-add-mod_self_right a 4294967296 b ∙ mod-eq_of_lt h

-- an empty part has none
pub none_in : (o : ℕ) → in_part o 0 ≡ false
unfolding in_part part_start part_end
none_in o = simp (le-ltb o 0 zero-le, and-false)

bytes_in : (start end o : ℕ) → end < 4294967296 → in_part o (start * 4294967296 + end) ≡ (leb start o && ltb o end)
unfolding in_part
bytes_in start end o h = rw (start_is start end h, end_is start end h)

-- one has those from its start up to its end
pub in_part_lem : (T start size o : ℕ) → T < 4294967296
    → in_part o (part_of T start size) ≡ (inside T start size && (leb start o && ltb o (start + size)))
in_part_lem T start size o t =
    on_test (inside T start size)
    (λ e. let l = (part_end_lem T start size true (sym e) refl).1 in
    rw (← part_inside_lem T start size true (sym e) refl, e) (bytes_in start (start + size) o (omega arith)))
    (λ e. rw (← part_outside T start size false (sym e) refl, e) (none_in o))

-- ---- the part of a body

abbrev body_part : List ℕ → ℕ → ℕ
body_part s tag = part_of (end_of s) (section_of s tag) (whole_size s tag)

module _ (s : List ℕ) (t : end_of s < 4294967296) (o : ℕ) where
  -- it has the bytes of the body: what lies inside is present
  of_body : (tag : ℕ) → in_part o (body_part s tag) ≡ in_body s o tag
  unfolding in_body present
  of_body tag =
      in_part_lem (end_of s) (section_of s tag) (whole_size s tag) o t
      ∙ on_test (inside (end_of s) (section_of s tag) (whole_size s tag))
      (λ e. let l = (part_end_lem (end_of s) (section_of s tag) (whole_size s tag) true (sym e) refl).0 in
      let n : section_of s tag ≡ 0 → ⊥ = omega arith in simp (e, ne_eqb (section_of s tag) 0 n))
      (λ e. simp (e, and-false))

  -- an absent section has none
  absent : (tag : ℕ) → present s tag ≡ false → in_body s o tag ≡ false
  unfolding in_body
  absent tag h = rw h

-- ---- the table of times that counts

abbrev times_part : List ℕ → ℕ
times_part s = part_of (end_of s) (times_at s) (times_size (wide_times s) (time_count s))

times_wide : (s : List ℕ) → present s 0x09 ≡ true → times_part s ≡ body_part s 0x09
unfolding times_at wide_times whole_size body_size
times_wide s h = rw h

times_narrow : (s : List ℕ) → present s 0x09 ≡ false → times_part s ≡ body_part s 0x06
unfolding times_at wide_times whole_size body_size
times_narrow s h = rw h

-- where that of 09 is there, that of 06 is not
six_absent : (s : List ℕ) → times_once s ≡ true → present s 0x09 ≡ true → present s 0x06 ≡ false
unfolding times_once
six_absent s once h = on_test (present s 0x06) (λ e. absurd (false≢true (rw (e, h) at once))) (λ e. e)

moved : (a b c r : Bool) → (c || (a || (b || r))) ≡ (a || (b || (c || r)))
moved true b true r = refl
moved true b false r = refl
moved false true true r = refl
moved false true false r = refl
moved false false c r = refl

module _ (s : List ℕ) (t : end_of s < 4294967296) (o : ℕ) where
  -- so its part stands for both
  for_both : times_once s ≡ true → (a b r : Bool)
      → (in_part o (times_part s) || (a || (b || r))) ≡ (in_body s o 0x06 || (a || (b || (in_body s o 0x09 || r))))
  for_both once a b r =
      on_test (present s 0x09)
      (λ h. rw (times_wide s h, of_body s t o 0x09, absent s t o 0x06 (six_absent s once h)) (moved a b (in_body s o 0x09) r))
      (λ h. rw (times_narrow s h, of_body s t o 0x06, absent s t o 0x09 h))

-- ---- all bodies

-- the parts of all bodies, in the order of their tags
abbrev all_parts : List ℕ → List ℕ
all_parts s =
    body_part s 0x02 ∷ body_part s 0x03 ∷ body_part s 0x04 ∷ body_part s 0x05 ∷ times_part s
    ∷ body_part s 0x07 ∷ body_part s 0x08 ∷ body_part s 0x13 ∷ body_part s 0x14 ∷ []

all_covered : (s : List ℕ) → end_of s < 4294967296 → times_once s ≡ true → Bodies s (all_parts s)
unfolding in_parts any
all_covered s t once =
    record {
      cover = λ o. (let r : Bool = in_body s o 0x13 || (in_body s o 0x14 || false) in
          let b : ℕ → Bool = in_body s o in
          let is : (tag : ℕ) → in_part o (body_part s tag) ≡ in_body s o tag = of_body s t o in
          rw (is 0x02, is 0x03, is 0x04, is 0x05, is 0x07, is 0x08, is 0x13, is 0x14)
          (ap (λ (x : Bool). b 0x02 || (b 0x03 || (b 0x04 || (b 0x05 || x)))) (for_both s t o once (b 0x07) (b 0x08) r)));
    }

module _ (s : List ℕ) (p : Sections) (w : Placed s p) (k : ℕ) (ek : k ≡ after_names s) where
  pub names_below : p.names ≤ k
  unfolding sections_of
  names_below = rw w.places (omega arith)

  pub covered : (a : ℕ) → a ≡ part_of p.end p.sync (4 * p.facilities) → (b : ℕ) → b ≡ part_of p.end p.names (k - p.names)
      → (c : ℕ) → c ≡ part_of p.end p.geometry (16 * p.facilities) → (d : ℕ) → d ≡ part_of p.end p.timescale 1
      → (size : ℕ) → size ≡ times_size p.wide_times p.time_count → (e : ℕ) → e ≡ part_of p.end p.times size
      → (f : ℕ) → f ≡ part_of p.end p.initial 1 → (g : ℕ) → g ≡ part_of p.end p.real_test 8
      → (h : ℕ) → h ≡ part_of p.end p.excluded (4 + 16 * u32_at s p.excluded) → (i : ℕ) → i ≡ part_of p.end p.time_zero 8
      → Bodies s (a ∷ b ∷ c ∷ d ∷ e ∷ f ∷ g ∷ h ∷ i ∷ [])
  unfolding sections_of whole_size body_size
  covered a ea b eb c ec d ed size es e ee f ef g eg h eh i ei =
      let n : k - section_of s 0x03 ≡ whole_size s 0x03 = omega arith in
      rw (ea, eb, ec, ed, ee, es, ef, eg, eh, ei, w.places, n) (all_covered s high (times_once_lem s w.passed))
    where
      high : end_of s < 4294967296
      high = let l : end_of s ≤ 16777216 = rw w.places at w.end_fits in omega arith

-- ---- the bodies that are read

-- the names end at END or below it
names_inside : (s : List ℕ) → names_allowed s ≡ true → section_of s 0x03 + 8 ≤ end_of s → end_of s ≤ length s → section_of s 0x03 + whole_size s 0x03 ≤ end_of s
unfolding names_allowed name_table whole_size
names_inside s h a b = omega (arith, end_within s (section_of s 0x03 + 8) (end_of s) (facility_count s) (u32_at s (section_of s 0x03 + 4)) a b h)

-- all bytes of the others are those that refusal 8 asks
whole_is : (s : List ℕ) (tag : ℕ) → (tag ≡ 0x03 → ⊥) → (tag ≡ 0x08 → ⊥) → tag ≤ 0x09 → whole_size s tag ≡ body_size s tag
unfolding whole_size
whole_is s tag three eight most = rw (ne_eqb tag 0x03 three, ne_eqb tag 0x08 eight, ne_eqb tag 0x14 (omega arith), ne_eqb tag 0x13 (omega arith))

lies_inside : (T start size : ℕ) → (4 ≤ start) × (start + size ≤ T) → inside T start size ≡ true
lies_inside T start size (a, b) = both_and (leb 4 start) (leb (start + size) T) (le-leb 4 start a) (le-leb (start + size) T b)

-- the table of 09
wide_inside : (s : List ℕ) → Located s → present s 0x09 ≡ true → (4 ≤ section_of s 0x09) × (section_of s 0x09 + body_size s 0x09 ≤ end_of s)
unfolding times_at wide_times body_size
wide_inside s l h = ((rw h at l.times_low), rw h (rw h at l.times_high))

-- Of a file whose tables pass, the bodies of 02 to 07 and 09 that are there lie wholly inside: that Stray asks it of every body takes none of these away.
pub read_inside : (s : List ℕ) → tables_refusal s ≡ 0 → (tag : ℕ) → 0x02 ≤ tag → tag ≤ 0x09 → (tag ≡ 0x08 → ⊥) → present s tag ≡ true
    → inside (end_of s) (section_of s tag) (whole_size s tag) ≡ true
read_inside s z tag least most eight there =
    let p = passed s z in
    let l = passed_located s p in
    let high = l.end_high in
    elim (ℕ_discrete tag 0x03) [
      | yes e ↦ rw e (lies_inside (end_of s) (section_of s 0x03) (whole_size s 0x03) (l.names_low, names_inside s p.names l.names_high (omega arith)))
      | no three ↦ rw (whole_is s tag three eight most) (elim (ℕ_discrete tag 0x09) [
        | yes e ↦ rw e (lies_inside (end_of s) (section_of s 0x09) (body_size s 0x09) (wide_inside s l (rw e at there)))
        | no nine ↦ lies_inside (end_of s) (section_of s tag) (body_size s tag) (body_inside_lem s tag p.bodies least (omega arith) there)
      ])
    ]
