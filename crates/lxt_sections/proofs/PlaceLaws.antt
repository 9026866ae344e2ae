-- A law for each way out of the functions on the places of the sections.
use Prim.Native.Nat.{ℕ, zero, suc, ◌+◌, ◌*◌, ◌≤◌, ◌<◌}
use mathlib.Core.Path.{◌≡◌, refl, ap, sym, ◌∙◌}
use mathlib.Core.Bool.{Bool, true, false, not, ◌&&◌, ◌||◌, and-false, and-true, and_assoc, or-false}
use mathlib.Core.List.{List}
use lib.ListN.{length, get_or, take, drop}
use lib.Seq.{drop-cons}
use Rattle.std.specs.List.{list_any}
use lib.Dec.{leb, eqb}
use native.Mathlib.Omega.{arith}
use native.Mathlib.Decide.{dec_le}
use borrow.Author.Tests.{eq-eqb, ne_eqb, le-leb, lt-leb, leb-true, eqb-false, not-true}
use Rattle.std.specs.Prelude.{Some, None}
use Rattle.std.proofs.lemmas.Option.{none-some, same_Some}
use Rattle.lxt_format.specs.Basics.{Answer, given, refused, answer, range, all, any}
use Rattle.lxt_format.specs.BasicsLaws.{and_both, on_test, was_given}
use Rattle.lxt_format.specs.Bytes.{u32_at}
use Rattle.lxt_format.specs.Sections.{listing_of, section_of, present, end_of, changes_from, facility_count, wide_times, times_at, time_bytes, time_count, times_size, nothing_compressed, times_once, sections_present, inside, body_size, body_inside, bodies_inside, count_allowed}
use Rattle.lxt_format.specs.SectionsLaws.{end_inside}
use Rattle.lxt_sections.specs.Stage.{frame_refusal, table_of, listed_of, placed_by, places_of, wide_in, table_in, Ready, body_in, all_inside, counted_refusal, sections_refusal, sections_of, located}
use Rattle.lxt_sections.specs.declared.Listing.{Listing}
use Rattle.lxt_sections.specs.declared.Places.{Places}
use Rattle.lxt_sections.specs.declared.Sections.{Sections}

-- ---- the places

-- the frame is right where it gave no refusal
pub framed : (s : List ℕ) {u : Unit {0}} → given u ≡ answer (frame_refusal s) (tt {0}) → frame_refusal s ≡ 0
framed s {u} h = (was_given (frame_refusal s) (tt {0}) u h).0

-- those that a list says are those of the file
pub placed_is : (s : List ℕ) (l : Listing) → Some l ≡ listed_of s → ((listing_of s).listed ≡ true) × (placed_by l ≡ places_of s)
unfolding places_of listed_of table_of range any present section_of end_of changes_from
placed_is s l e = on_test (listing_of s).listed (λ h. (h, (let g : l ≡ record { table = table_of (listing_of s).items; end = (listing_of s).end } = same_Some l _ (rw h at e) in rw g))) (λ h. absurd (none-some l (sym (rw h at e))))

pub not_listed : (s : List ℕ) → None ≡ listed_of s → (listing_of s).listed ≡ false
unfolding listed_of
not_listed s e = on_test (listing_of s).listed (λ h. absurd (none-some _ (rw h at e))) (λ h. h)

-- a test holds of one of the n elements from `a` on
pub any_part : (p : ℕ → Bool) (t : List ℕ) (n a : ℕ) → a + n ≤ length t → list_any p (take n (drop a t)) ≡ any (λ i. p (get_or t i 0)) (range a n)
unfolding any range
any_part p t zero a h = refl
any_part p t (suc n) a h = let l : a < length t = omega arith in rw (drop-cons t a 0) (ap (λ b. p (get_or t a 0) || b) (any_part p t n (suc a) (omega arith)))

-- ---- refusal 8

pub body_is : (end start size : ℕ) (z : Bool) → z ≡ inside end start size → (not (not (eqb start 0)) || z) ≡ body_in end start size
body_is end start size z e = rw e

pub parts : (p : Places) (n size : ℕ) (a b c d e f g h : Bool)
    → a ≡ body_in p.end p.sync (4 * n) → b ≡ body_in p.end p.names 8 → c ≡ body_in p.end p.geometry (16 * n)
    → d ≡ body_in p.end p.timescale 1 → e ≡ body_in p.end p.times size → f ≡ body_in p.end p.initial 1
    → g ≡ body_in p.end p.wide_times size → h ≡ inside p.end p.changes 0
    → (a && b && c && d && e && f && g && h) ≡ all_inside p n size
unfolding all_inside
parts p n size a b c d e f g h ea eb ec ed ee ef eg eh = rw (ea, eb, ec, ed, ee, ef, eg, eh) (simp (and_assoc, and-true))

all_inside_is : (s : List ℕ) → all_inside (places_of s) (facility_count s) (times_size (wide_times s) (time_count s)) ≡ bodies_inside s
unfolding all_inside places_of bodies_inside body_inside body_size all range present
all_inside_is s = refl

-- what does not lie inside does not with more bytes
pub outside_more : (T start k j : ℕ) → inside T start k ≡ false → inside T start (k + j) ≡ false
outside_more T start k j h =
    elim (dec_le (start + k) T) [
      | yes l ↦ (let q : (leb 4 start && true) ≡ false = rw (le-leb (start + k) T l) at h in
          let g : leb 4 start ≡ false = sym (and-true (leb 4 start)) ∙ q in simp g)
      | no n ↦ (let r : T < start + (k + j) = omega arith in simp (lt-leb _ _ r, and-false))
    ]

body_out : (end start size : ℕ) → (start ≡ 0 → ⊥) → inside end start size ≡ false → body_in end start size ≡ false
body_out end start size n h = simp (ne_eqb start 0 n, h)

-- the head of a table that lies inside can be read
pub readable : (end start size len : ℕ) (z : Bool) → z ≡ inside end start size → z ≡ true → 4 ≤ size → end ≤ len → start + 4 ≤ len
readable end start size len z e h four l = let i = leb-true (start + size) end (and_both (leb 4 start) (leb (start + size) end) (sym e ∙ h)).1 in omega arith

-- ---- refusals 8 and 9

-- the table of times that counts
pub table_wide : (p : Places) → (p.wide_times ≡ 0 → ⊥) → p.wide_times ≡ table_in p
table_wide p n = simp (ne_eqb p.wide_times 0 n)

pub table_narrow : (p : Places) → p.wide_times ≡ 0 → p.times ≡ table_in p
table_narrow p e = rw (eq-eqb p.wide_times 0 e)

-- the bytes of a table are at least those of its head
more_than_head : (wide : Bool) (m : ℕ) → times_size wide m ≡ times_size wide 0 + (4 * m + time_bytes wide * m)
more_than_head true m = omega arith
more_than_head false m = omega arith

pub head_is_4 : (wide : Bool) (size : ℕ) → size ≡ times_size wide 0 → 4 ≤ size
head_is_4 true size e = omega arith
head_is_4 false size e = omega arith

module _ (s : List ℕ) (p : Places) (e : p ≡ places_of s) where
  wide_is : wide_in p ≡ wide_times s
  unfolding places_of wide_times present
  wide_is = rw e

  table_is : table_in p ≡ times_at s
  unfolding places_of times_at wide_times present
  table_is = rw e

  -- where bodies do not lie inside
  passes_end : (n size : ℕ) → n ≡ facility_count s → size ≡ times_size (wide_times s) (time_count s) → all_inside p n size ≡ false
      → refused 8 ≡ answer (counted_refusal s) (sections_of s)
  unfolding counted_refusal
  passes_end n size en es h = let g : bodies_inside s ≡ false = sym (all_inside_is s) ∙ (rw (e, en, es) at h) in rw g

  pub head_out : (z : Bool) → z ≡ inside p.end p.names 8 → z ≡ false → (p.names ≡ 0 → ⊥) → refused 8 ≡ answer (counted_refusal s) (sections_of s)
  unfolding all_inside
  head_out z ez h n =
      let b = body_out p.end p.names 8 n (sym ez ∙ h) in
      passes_end (facility_count s) (times_size (wide_times s) (time_count s)) refl refl (simp (b, and-false))

  -- the table of times that counts does not lie inside
  table_out : (size : ℕ) → (table_in p ≡ 0 → ⊥) → inside p.end (table_in p) size ≡ false → (n : ℕ) → all_inside p n size ≡ false
  unfolding all_inside
  table_out size there out n =
      on_test (wide_in p)
      (λ q. let b : body_in p.end p.wide_times size ≡ false = rw (q, out' q) in simp (b, and-false))
      (λ q. let b : body_in p.end p.times size ≡ false = body_out p.end p.times size (λ z. there (rw q z)) (rw q at out) in simp (b, and-false))
    where
      out' : wide_in p ≡ true → inside p.end p.wide_times size ≡ false
      out' q = rw q at out

  pub times_out : (table : ℕ) → table ≡ table_in p → (head : ℕ) → head ≡ times_size (wide_in p) 0 → (z : Bool) → z ≡ inside p.end table head → z ≡ false
      → (table_in p ≡ 0 → ⊥) → refused 8 ≡ answer (counted_refusal s) (sections_of s)
  times_out table et head eh z ez h there =
      let size : ℕ = times_size (wide_times s) (time_count s) in
      let more : size ≡ head + (4 * time_count s + time_bytes (wide_times s) * time_count s) = more_than_head (wide_times s) (time_count s) ∙ rw (eh, wide_is) in
      let out : inside p.end (table_in p) size ≡ false = rw more (outside_more p.end (table_in p) head _ (rw et at (sym ez ∙ h))) in
      passes_end (facility_count s) size refl refl (table_out size there out (facility_count s))

  module _ (table n m size : ℕ) (et : table ≡ table_in p) (en : n ≡ u32_at s p.names) (em : m ≡ u32_at s table) (es : size ≡ times_size (wide_in p) m) where
    n_is : n ≡ facility_count s
    unfolding facility_count places_of
    n_is = en ∙ rw e

    m_is : m ≡ time_count s
    unfolding time_count
    m_is = em ∙ rw (et, table_is)

    size_is : size ≡ times_size (wide_times s) (time_count s)
    size_is = es ∙ rw (wide_is, m_is)

    pub bodies_out : (z : Bool) → z ≡ all_inside p n size → z ≡ false → refused 8 ≡ answer (counted_refusal s) (sections_of s)
    bodies_out z ez h = passes_end n size n_is size_is (sym ez ∙ h)

    module _ (z : Bool) (ez : z ≡ all_inside p n size) (hz : z ≡ true) (w : Bool) (ew : w ≡ leb n 4096) where
      all_in : bodies_inside s ≡ true
      all_in = sym (all_inside_is s) ∙ rw (← e, ← n_is, ← size_is) (sym ez ∙ hz)

      pub too_many : w ≡ false → refused 9 ≡ answer (counted_refusal s) (sections_of s)
      unfolding counted_refusal count_allowed
      too_many h = let g : leb (facility_count s) 4096 ≡ false = rw n_is at (sym ew ∙ h) in rw (all_in, g)

      pub all_found : w ≡ true → given (record {
        wide_times = wide_in p;
        facilities = n;
        time_count = m;
        end = p.end;
        changes = p.changes;
        sync = p.sync;
        names = p.names;
        geometry = p.geometry;
        timescale = p.timescale;
        times = table;
        initial = p.initial;
        real_test = p.real_test;
        excluded = p.excluded;
        time_zero = p.time_zero;
      }) ≡ answer (counted_refusal s) (sections_of s)
      unfolding counted_refusal count_allowed sections_of places_of
      all_found h =
          let g : leb (facility_count s) 4096 ≡ true = rw n_is at (sym ew ∙ h) in
          rw (et, table_is, wide_is, all_in, g, n_is, m_is, e)

-- ---- refusals 1 to 9

-- the third of four, and times
third_and_times : (u v w x y : Bool) → ((u && (v && (w && (x && true)))) && y) ≡ true → (w ≡ true) × (y ≡ true)
third_and_times u v w x y h =
    let g = and_both (u && (v && (w && (x && true)))) y h in
    let a = and_both u (v && (w && (x && true))) g.0 in
    let d = and_both v (w && (x && true)) a.1 in
    ((and_both w (x && true) d.1).0, g.1)

-- one of the two tables is there
one_there : (p : Places) → (not (eqb p.times 0) || not (eqb p.wide_times 0)) ≡ true → table_in p ≡ 0 → ⊥
one_there p h z =
    on_test (eqb p.wide_times 0)
    (λ q. let six : p.times ≡ 0 = rw q at z in eqb-false p.times 0 (not-true (eqb p.times 0) (sym (or-false (not (eqb p.times 0))) ∙ (rw q at h))) six)
    (λ q. let nine : p.wide_times ≡ 0 = rw q at z in eqb-false p.wide_times 0 q nine)

module _ (s : List ℕ) (hb : frame_refusal s ≡ 0) where
  pub four : (listing_of s).listed ≡ false → refused 4 ≡ located s
  unfolding sections_refusal
  four l = rw (hb, l)

  module _ (p : Places) (e : p ≡ places_of s) (h4 : (listing_of s).listed ≡ true) where
    pub end_in : p.end ≤ length s
    unfolding places_of
    end_in = rw e (omega (arith, end_inside s h4))

    pub five : p.compressed ≡ true → refused 5 ≡ located s
    unfolding sections_refusal places_of nothing_compressed
    five h = let g : any (present s) (range 0x0A 9) ≡ true = rw e at h in rw (hb, h4, g)

    module _ (h5 : p.compressed ≡ false) where
      abbrev both : Bool
      both = not (eqb p.times 0) && not (eqb p.wide_times 0)

      once_is : not both ≡ times_once s
      unfolding times_once present places_of
      once_is = rw e

      pub six : both ≡ true → refused 6 ≡ located s
      unfolding sections_refusal places_of nothing_compressed
      six h =
          let g : any (present s) (range 0x0A 9) ≡ false = rw e at h5 in
          let t : times_once s ≡ false = sym once_is ∙ rw h in rw (hb, h4, g, t)

      module _ (h6 : both ≡ false) (z : Bool)
          (ez : z ≡ ((not (eqb p.changes 0) && (not (eqb p.sync 0) && (not (eqb p.names 0) && (not (eqb p.geometry 0) && true)))) && (not (eqb p.times 0) || not (eqb p.wide_times 0)))) where
        z_is : z ≡ sections_present s
        unfolding sections_present all present places_of changes_from
        z_is = ez ∙ rw e

        pub seven : z ≡ false → refused 7 ≡ located s
        unfolding sections_refusal places_of nothing_compressed
        seven h =
            let g : any (present s) (range 0x0A 9) ≡ false = rw e at h5 in
            let t : times_once s ≡ true = sym once_is ∙ rw h6 in
            let y : sections_present s ≡ false = sym z_is ∙ h in rw (hb, h4, g, t, y)

        module _ (hz : z ≡ true) where
          both_there : (p.names ≡ 0 → ⊥) × (table_in p ≡ 0 → ⊥)
          both_there =
              let times : Bool = not (eqb p.times 0) || not (eqb p.wide_times 0) in
              let h = third_and_times (not (eqb p.changes 0)) (not (eqb p.sync 0)) (not (eqb p.names 0)) (not (eqb p.geometry 0)) times (sym ez ∙ hz) in
              (eqb-false _ _ (not-true _ h.0), one_there p h.1)

          pub ready : Ready s p
          ready = record { places = e; within = end_in; names_there = both_there.0; times_there = both_there.1 }

          pub rest : (r : Answer Sections) → r ≡ answer (counted_refusal s) (sections_of s) → r ≡ located s
          unfolding sections_refusal places_of nothing_compressed
          rest r q =
              q ∙ (let g : any (present s) (range 0x0A 9) ≡ false = rw e at h5 in
              let t : times_once s ≡ true = sym once_is ∙ rw h6 in
              let y : sections_present s ≡ true = sym z_is ∙ hz in rw (hb, h4, g, t, y))
