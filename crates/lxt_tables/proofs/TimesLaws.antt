-- The running sums, and a law for each way out of the functions on times. What is shared by positions and times, and by times of 4 and of 8 bytes, is
-- said once: of sums of numbers, of which the first is given.
use Prim.Native.Nat.{ℕ, suc, ◌+◌, ◌*◌, ◌-◌, ◌≤◌, ◌<◌}
use mathlib.Core.Path.{◌≡◌, refl, sym, ◌∙◌, ap}
use mathlib.Core.Bool.{Bool, true, false, ◌&&◌, and_assoc, and-false, false≢true}
use mathlib.Core.List.{List, [], ◌∷◌, map}
use lib.ListN.{length, get_or, drop, drop_of_length-le}
use lib.Seq.{drop-cons}
use lib.IntN.{ℤ, pos, negsuc, ◌+ℤ◌}
use lib.Signed.{mag, le_z, non_neg}
use lib.Dec.{ltb, leb}
use native.Mathlib.Omega.{arith}
use native.Mathlib.Numerals.{add-one}
use native.Mathlib.Decide.{dec_le}
use borrow.Author.Tests.{lt-ltb, le-ltb, le-leb, lt-leb, leb-true}
use Rattle.lxt_format.specs.Basics.{all}
use Rattle.lxt_format.specs.BasicsLaws.{and_both, on_test}
use Rattle.lxt_format.specs.Bytes.{number_at, u32_at, numbers_at, signed}
use Rattle.lxt_format.specs.BytesLaws.{length_numbers, get_d_numbers}
use Rattle.lxt_format.specs.Sections.{end_of, wide_times, times_at, time_bytes, time_count, times_size}
use Rattle.lxt_format.specs.Times.{time_of_bytes, first_time, last_time, positions_at, position_deltas, time_delta_bytes, time_deltas, sums_by, positions_of, times_of, in_range, table_allowed}
use Rattle.lxt_format.proofs.TimesLaws.{length_position_deltas, length_time_deltas}
use Rattle.lxt_format.specs.BiasedTimes.{bias, biased, biased_bytes}
use Rattle.lxt_format.proofs.BiasedTimesLaws.{biased_fits, le_z_biased, biased_sum, biased_bytes_lem, zero_plus}
use Rattle.lxt_tables.specs.Asked.{Times, Begins, rises_to}

-- ---- the pass over the deltas

-- delta i of m, of 8 or 4 bytes, lies in the file where all do
pub delta_there : (wide : Bool) (at m i len : ℕ) → at + time_bytes wide * m ≤ len → m < 4294967296 → i < m → (i < 4294967296) × (at + time_bytes wide * i + time_bytes wide ≤ len)
delta_there true at m i len h k l = (omega arith, omega arith)
delta_there false at m i len h k l = (omega arith, omega arith)

-- What holds before delta i: the rest of the sums gives what all give.
pub record Summing (s : List ℕ) (k m at high : ℕ) (w : Bool) (i sum : ℕ) : Type 0 where
  pub below : sum ≤ high
  pub rest : rises_to high sum (drop i (numbers_at k m s at)) ≡ w

module _ (s : List ℕ) (k m at high : ℕ) where
  pub sums_begun : (first : ℕ) → first ≤ high → Summing s k m at high (rises_to high first (drop 1 (numbers_at k m s at))) 1 first
  sums_begun first h = record { below = h; rest = refl }

  module _ (w : Bool) (i sum : ℕ) (v : Summing s k m at high w i sum) where
    pub sums_end : m ≤ i → true ≡ w
    unfolding rises_to
    sums_end h =
        let none : drop i (numbers_at k m s at) ≡ [] = drop_of_length-le (numbers_at k m s at) {i = i} (rw (length_numbers k m s at) h) in
        rw none at v.rest

    module _ (more : i < m) (d : ℕ) (ed : d ≡ number_at k s (at + k * i)) where
      abbrev tests : Bool
      tests = ltb d bias && leb d (high - sum)

      opened : w ≡ (tests && rises_to high (sum + d) (drop (i + 1) (numbers_at k m s at)))
      unfolding rises_to
      opened =
          let l : i < length (numbers_at k m s at) = rw (length_numbers k m s at) more in
          let here : drop i (numbers_at k m s at) ≡ d ∷ drop (i + 1) (numbers_at k m s at) = rw (add-one i, ed, ← get_d_numbers k m s at i 0 more) (drop-cons (numbers_at k m s at) i 0 l) in
          sym v.rest ∙ rw here

      pub sums_stop : tests ≡ false → false ≡ w
      sums_stop h = sym (opened ∙ rw h)

      pub no_wrap : tests ≡ true → sum + d ≤ high
      no_wrap h = let l = leb-true d (high - sum) (and_both (ltb d bias) (leb d (high - sum)) h).1 in omega (arith, v.below)

      pub sums_turn : tests ≡ true → Summing s k m at high w (i + 1) (sum + d)
      sums_turn h = record { below = no_wrap h; rest = sym (opened ∙ rw h) }

-- ---- positions

below_end : (x T : ℕ) → 0 < T → leb x (T - 1) ≡ ltb x T
below_end x T low =
    elim (dec_le T x) [
      | yes l ↦ (let g : T - 1 < x = omega arith in simp (le-ltb x T l, lt-leb x (T - 1) g))
      | no n ↦ (let l : x < T = omega arith in let g : x ≤ T - 1 = omega arith in simp (lt-ltb x T l, le-leb x (T - 1) g))
    ]

-- a sum stays below T where the delta is no further than that
step_below : (T sum d : ℕ) → 0 < T → T ≤ bias → sum ≤ T - 1 → (ltb d bias && leb d (T - 1 - sum)) ≡ ltb (sum + d) T
step_below T sum d low high h =
    elim (dec_le T (sum + d)) [
      | yes l ↦ (let g : T - 1 - sum < d = omega arith in rw (le-ltb (sum + d) T l, lt-leb d (T - 1 - sum) g) (and-false (ltb d bias)))
      | no n ↦ (let l : sum + d < T = omega arith in let b : d < bias = omega arith in let g : d ≤ T - 1 - sum = omega arith in
          rw (lt-ltb (sum + d) T l, lt-ltb d bias b, le-leb d (T - 1 - sum) g))
    ]

positions_rise : (T sum : ℕ) (ds : List ℕ) → 0 < T → T ≤ bias → sum ≤ T - 1 → rises_to (T - 1) sum ds ≡ all (λ p. ltb p T) (sums_by ◌+◌ sum ds)
unfolding rises_to all sums_by
positions_rise T sum [] low high h = refl
positions_rise T sum (d ∷ ds) low high h =
    let step = step_below T sum d low high h in
    elim (dec_le T (sum + d)) [
      | yes l ↦ rw (step, le-ltb (sum + d) T l)
      | no n ↦ (let l : sum + d < T = omega arith in rw (step, lt-ltb (sum + d) T l) (positions_rise T (sum + d) ds low high (omega arith)))
    ]

-- the first position is at least 4 and every position is below T
positions_kept : (T d : ℕ) (ds : List ℕ) → 0 < T → T ≤ bias
    → (leb 4 (get_or (sums_by ◌+◌ 0 (d ∷ ds)) 0 0) && all (λ p. ltb p T) (sums_by ◌+◌ 0 (d ∷ ds))) ≡ ((leb 4 d && leb d (T - 1)) && rises_to (T - 1) d ds)
unfolding all sums_by
positions_kept T d ds low high =
    let e : 0 + d ≡ d = omega arith in
    on_test (leb d (T - 1))
    (λ q. let below : ltb d T ≡ true = sym (below_end d T low) ∙ q in
    rw (e, q, below, positions_rise T d ds low high (leb-true d (T - 1) q)) (on_test (leb 4 d) (λ r. rw r) (λ r. rw r)))
    (λ q. let past : ltb d T ≡ false = sym (below_end d T low) ∙ q in rw (e, q, past) (on_test (leb 4 d) (λ r. rw r) (λ r. rw r)))

-- ---- times

-- a delta's bytes
positive : (d : ℕ) → d < bias → time_of_bytes d ≡ pos d
unfolding signed
positive d h = rw (lt-ltb d bias h)

negative : (d : ℕ) → bias ≤ d → non_neg (time_of_bytes d) ≡ false
unfolding signed
negative d h = rw (le-ltb d bias h)

-- a time that fits is in range
fits_range : (t : ℤ) → mag t < bias → in_range t ≡ true
fits_range (pos n) h = let l : n ≤ 9223372036854775807 = omega arith in rw (le-leb n 9223372036854775807 l)
fits_range (negsuc n) h = let l : n ≤ 9223372036854775807 = omega arith in rw (le-leb n 9223372036854775807 l)

-- a sum that does not leave the range fits
sum_fits : (t : ℤ) (d : ℕ) → mag t < bias → biased t + d < 18446744073709551616 → mag (t +ℤ pos d) < bias
sum_fits (pos n) d h l = omega arith
sum_fits (negsuc n) d h l =
    elim (dec_le (suc n) d) [
      | yes q ↦ (let e : d - suc n < bias = omega arith in rw (le-ltb d (suc n) q) e)
      | no q ↦ (let g : d < suc n = omega arith in let e : suc n - suc d < bias = omega arith in rw (lt-ltb d (suc n) g) e)
    ]

-- one that passes last is above it, in range or not
above_last : (t last : ℤ) (d : ℕ) → mag t < bias → mag last < bias → biased last < biased t + d → le_z (t +ℤ pos d) last ≡ false
above_last (pos n) (pos k) d h g l = let e : k < n + d = omega arith in lt-leb (n + d) k e
above_last (pos n) (negsuc k) d h g l = refl
above_last (negsuc n) (pos k) d h g l =
    let q : suc n ≤ d = omega arith in
    let e : k < d - suc n = omega arith in
    rw (le-ltb d (suc n) q) (lt-leb (d - suc n) k e)
above_last (negsuc n) (negsuc k) d h g l =
    elim (dec_le (suc n) d) [
      | yes q ↦ rw (le-ltb d (suc n) q)
      | no q ↦ (let f : d < suc n = omega arith in let e : suc n - suc d < k = omega arith in rw (lt-ltb d (suc n) f) (lt-leb k (suc n - suc d) e))
    ]

module _ (first last : ℤ) (fitf : mag first < bias) (fitl : mag last < bias) where
  -- what is asked of the deltas ds after the time t, and of their sums
  abbrev asked : ℤ → List ℕ → Bool
  asked t ds =
      let sums : List ℤ = sums_by ◌+ℤ◌ t (map time_of_bytes ds) in
      all non_neg (map time_of_bytes ds) && (all in_range sums && all (λ u. le_z first u && le_z u last) sums)

  -- the pass tests that, where t is from first to last
  abbrev Rises : ℤ → List ℕ → Type 0
  Rises t ds = mag t < bias → le_z first t ≡ true → le_z t last ≡ true → rises_to (biased last) (biased t) ds ≡ asked t ds

  module _ (t : ℤ) (d : ℕ) (ds : List ℕ) (f : mag t < bias) (l : d < bias) where
    -- a sum that is no higher than last
    rise_inside : le_z first t ≡ true → biased t + d ≤ biased last → Rises (t +ℤ pos d) ds → rises_to (biased last) (biased t) (d ∷ ds) ≡ asked t (d ∷ ds)
    unfolding rises_to all sums_by
    rise_inside low g ih =
        let u : ℤ = t +ℤ pos d in
        let most = biased_fits last fitl in
        let e : biased u ≡ biased t + d = biased_sum t d f in
        let fits : mag u < bias = sum_fits t d f (omega arith) in
        let reach : le_z u last ≡ true = le_z_biased u last fits fitl ∙ rw e (le-leb (biased t + d) (biased last) g) in
        let from = leb-true (biased first) (biased t) (sym (le_z_biased first t fitf f) ∙ low) in
        let near : biased first ≤ biased t + d = omega arith in
        let start : le_z first u ≡ true = le_z_biased first u fitf fits ∙ rw e (le-leb (biased first) (biased t + d) near) in
        let step : d ≤ biased last - biased t = omega arith in
        rw (lt-ltb d bias l, le-leb d (biased last - biased t) step, positive d l, fits_range u fits, start, reach, ← e) (ih fits start reach)

    -- one that is
    rise_outside : le_z t last ≡ true → biased last < biased t + d → rises_to (biased last) (biased t) (d ∷ ds) ≡ asked t (d ∷ ds)
    unfolding rises_to all sums_by
    rise_outside high g =
        let up = leb-true (biased t) (biased last) (sym (le_z_biased t last f fitl) ∙ high) in
        let far : biased last - biased t < d = omega arith in
        simp (lt-ltb d bias l, lt-leb d (biased last - biased t) far, positive d l, above_last t last d f fitl g, and-false)

  times_rise : (t : ℤ) (ds : List ℕ) → Rises t ds
  unfolding rises_to all sums_by
  times_rise t [] f low high = refl
  times_rise t (d ∷ ds) f low high =
      let ih : Rises (t +ℤ pos d) ds = times_rise (t +ℤ pos d) ds in
      elim (dec_le bias d) [
        | yes l ↦ rw (le-ltb d bias l, negative d l)
        | no l ↦ elim (dec_le (biased t + d) (biased last)) [
          | yes g ↦ rise_inside t d ds f (omega arith) low g ih
          | no g ↦ rise_outside t d ds f (omega arith) high (omega arith)
        ]
      ]

  -- the first time, which may be negative, and the others
  times_kept : (x : ℕ) (xs : List ℕ) → mag (time_of_bytes x) < bias
      → (all non_neg (map time_of_bytes xs)
      && (all in_range (sums_by ◌+ℤ◌ (pos 0) (map time_of_bytes (x ∷ xs))) && all (λ u. le_z first u && le_z u last) (sums_by ◌+ℤ◌ (pos 0) (map time_of_bytes (x ∷ xs)))))
      ≡ ((leb (biased first) (biased (time_of_bytes x)) && leb (biased (time_of_bytes x)) (biased last)) && rises_to (biased last) (biased (time_of_bytes x)) xs)
  unfolding all sums_by
  times_kept x xs f =
      let t : ℤ = time_of_bytes x in
      let z : pos 0 +ℤ t ≡ t = zero_plus t in
      let low : le_z first t ≡ leb (biased first) (biased t) = le_z_biased first t fitf f in
      let high : le_z t last ≡ leb (biased t) (biased last) = le_z_biased t last f fitl in
      rw (z, fits_range t f, ← low, ← high)
      (on_test (le_z first t)
      (λ p. on_test (le_z t last) (λ q. rw (p, q) (sym (times_rise t xs f p q))) (λ q. simp (p, q, and-false)))
      (λ p. simp (p, and-false)))

-- ---- a table with an entry

-- the first time delta of a table in a file of `len` bytes, and all deltas
pub time_there : (wide : Bool) (times m len at : ℕ) → times + times_size wide m ≤ len → 0 < m → at ≡ times + 4 + 2 * time_bytes wide + 4 * m
    → (0 < 4294967296) × (at + time_bytes wide * 0 + time_bytes wide ≤ len)
time_there true times m len at h l e = (omega arith, omega arith)
time_there false times m len at h l e = (omega arith, omega arith)

pub positions_there : (wide : Bool) (times m len at : ℕ) → times + times_size wide m ≤ len → at ≡ times + 4 + 2 * time_bytes wide → at + 4 * m ≤ len
positions_there true times m len at h e = omega arith
positions_there false times m len at h e = omega arith

pub times_there : (wide : Bool) (times m len at : ℕ) → times + times_size wide m ≤ len → at ≡ times + 4 + 2 * time_bytes wide + 4 * m → at + time_bytes wide * m ≤ len
times_there true times m len at h e = omega arith
times_there false times m len at h e = omega arith

-- the rules, of the deltas as they are read
table_of : (T : ℕ) (first last : ℤ) (ps xs : List ℕ) → 0 < length ps → 0 < length xs → 0 < T → T ≤ bias → mag first < bias → mag last < bias → mag (time_of_bytes (get_or xs 0 0)) < bias
    → (leb 4 (get_or (sums_by ◌+◌ 0 ps) 0 0)
    && (all (λ p. ltb p T) (sums_by ◌+◌ 0 ps)
    && (all non_neg (drop 1 (map time_of_bytes xs))
    && (all in_range (sums_by ◌+ℤ◌ (pos 0) (map time_of_bytes xs)) && all (λ t. le_z first t && le_z t last) (sums_by ◌+ℤ◌ (pos 0) (map time_of_bytes xs))))))
    ≡ (((leb 4 (get_or ps 0 0) && leb (get_or ps 0 0) (T - 1)) && rises_to (T - 1) (get_or ps 0 0) (drop 1 ps))
    && ((leb (biased first) (biased (time_of_bytes (get_or xs 0 0))) && leb (biased (time_of_bytes (get_or xs 0 0))) (biased last))
    && rises_to (biased last) (biased (time_of_bytes (get_or xs 0 0))) (drop 1 xs)))
table_of T first last [] xs p x low high ff fl ft = absurd (omega arith)
table_of T first last (d ∷ ds) [] p x low high ff fl ft = absurd (omega arith)
table_of T first last (d ∷ ds) (x ∷ xs) p q low high ff fl ft =
    rw (← positions_kept T d ds low high, ← times_kept first last ff fl x xs ft)
    (sym (and_assoc (leb 4 (get_or (sums_by ◌+◌ 0 (d ∷ ds)) 0 0)) (all (λ p. ltb p T) (sums_by ◌+◌ 0 (d ∷ ds))) _))

both_first : (a b c d : Bool) → (a && c) ≡ true → ((a && b) && (c && d)) ≡ (b && d)
both_first a b c d h = let e = and_both a c h in rw (e.0, e.1)

one_not : (a b c d : Bool) → (a && c) ≡ false → ((a && b) && (c && d)) ≡ false
one_not true b true d h = absurd (false≢true (sym h))
one_not true b false d h = and-false b
one_not false b c d h = refl

module _ (s : List ℕ) (times m : ℕ) (wide : Bool) (end : ℕ) (p : Times s times m wide end) (some : 0 < m) where
  none_before : (k at : ℕ) → at + k * 0 ≡ at
  none_before k at = omega arith

  -- the bytes of a time, with the bias
  biased_is : (x y : ℕ) → x < 18446744073709551616 → y ≡ biased_bytes x → (mag (time_of_bytes x) < bias) × (y ≡ biased (time_of_bytes x))
  biased_is x y h e = let b = biased_bytes_lem x h in (b.0, e ∙ sym b.1)

  pub begins : (x : ℕ) → x ≡ number_at (time_bytes wide) s (times + 4 + time_bytes wide * 0) → x < 18446744073709551616 → (low : ℕ) → low ≡ biased_bytes x
      → (last : ℕ) → last ≡ times + 4 + time_bytes wide → (y : ℕ) → y ≡ number_at (time_bytes wide) s (last + time_bytes wide * 0) → y < 18446744073709551616 → (high : ℕ) → high ≡ biased_bytes y
      → (at : ℕ) → at ≡ times + 4 + 2 * time_bytes wide → (position : ℕ) → position ≡ u32_at s at
      → (steps : ℕ) → steps ≡ times + 4 + 2 * time_bytes wide + 4 * m → (z : ℕ) → z ≡ number_at (time_bytes wide) s (steps + time_bytes wide * 0) → z < 18446744073709551616
      → (time : ℕ) → time ≡ biased_bytes z → Begins s position low high time
  unfolding u32_at first_time last_time position_deltas time_delta_bytes positions_at
  begins x ex fx low elow last elast y ey fy high ehigh at eat position ep steps est z ez fz time et =
      let k : ℕ = time_bytes wide in
      let a = biased_is x low fx elow in
      let b = biased_is y high fy ehigh in
      let c = biased_is z time fz et in
      let some' : 0 < time_count s = omega (arith, p.count) in
      let first : time_of_bytes x ≡ time_of_bytes (number_at (time_bytes (wide_times s)) s (times_at s + 4)) = ap time_of_bytes (ex ∙ rw (none_before k (times + 4), p.start, p.form)) in
      let final : time_of_bytes y ≡ time_of_bytes (number_at (time_bytes (wide_times s)) s (times_at s + 4 + time_bytes (wide_times s))) = ap time_of_bytes (ey ∙ rw (none_before k last, elast, p.start, p.form)) in
      let here : time_of_bytes z ≡ time_of_bytes (get_or (numbers_at (time_bytes (wide_times s)) (time_count s) s (times_at s + 4 + 2 * time_bytes (wide_times s) + 4 * time_count s)) 0 0) =
      ap time_of_bytes (ez ∙ rw (est, p.start, p.form, p.count) (sym (get_d_numbers (time_bytes (wide_times s)) (time_count s) s (times_at s + 4 + 2 * time_bytes (wide_times s) + 4 * time_count s) 0 0 some'))) in
      record {
        position_is = ep ∙ rw (eat, p.start, p.form) (ap (number_at 4 s) (omega arith) ∙ sym (get_d_numbers 4 (time_count s) s (times_at s + 4 + 2 * time_bytes (wide_times s)) 0 0 some'));
        low_is = a.1 ∙ ap biased first;
        high_is = b.1 ∙ ap biased final;
        time_is = c.1 ∙ ap biased here;
        first_fits = rw (← first) a.0;
        last_fits = rw (← final) b.0;
        time_fits = rw (← here) c.0;
      }

  module _ (short : end < bias) (position low high time : ℕ) (h : Begins s position low high time) where
    -- the tests of the first entry, and the passes
    abbrev position_test : Bool
    position_test = leb 4 position && leb position (end - 1)

    abbrev time_test : Bool
    time_test = leb low time && leb time high

    abbrev positions_pass : Bool
    positions_pass = rises_to (end - 1) position (drop 1 (position_deltas s))

    abbrev times_pass : Bool
    times_pass = rises_to high time (drop 1 (time_delta_bytes s))

    table_parts : table_allowed s ≡ ((position_test && positions_pass) && (time_test && times_pass))
    unfolding table_allowed positions_of times_of time_deltas
    table_parts =
        let ps = length_position_deltas s in
        let xs = length_time_deltas s in
        rw (h.position_is, h.low_is, h.high_is, h.time_is, p.limit)
        (table_of (end_of s) (first_time s) (last_time s) (position_deltas s) (time_delta_bytes s) (omega (arith, p.count)) (omega (arith, p.count)) (omega (arith, p.low, p.limit))
        (omega (arith, p.limit)) h.first_fits h.last_fits h.time_fits)

    pub table_stop : (position_test && time_test) ≡ false → false ≡ table_allowed s
    table_stop q = sym (table_parts ∙ one_not position_test positions_pass time_test times_pass q)

    module _ (go : (position_test && time_test) ≡ true) where
      pub position_low : position ≤ end - 1
      position_low = leb-true position (end - 1) (and_both (leb 4 position) (leb position (end - 1)) (and_both position_test time_test go).0).1

      pub time_low : time ≤ high
      time_low = leb-true time high (and_both (leb low time) (leb time high) (and_both position_test time_test go).1).1

      -- both passes, over the deltas that stand there
      pub table_is : (at : ℕ) → at ≡ times + 4 + 2 * time_bytes wide → (a : Bool) → a ≡ rises_to (end - 1) position (drop 1 (numbers_at 4 m s at))
          → (steps : ℕ) → steps ≡ times + 4 + 2 * time_bytes wide + 4 * m → (b : Bool) → b ≡ rises_to high time (drop 1 (numbers_at (time_bytes wide) m s steps))
          → (a && b) ≡ table_allowed s
      unfolding position_deltas time_delta_bytes positions_at
      table_is at eat a ea steps est b eb =
          rw (ea, eb, eat, est, p.start, p.count, p.form) (sym (table_parts ∙ both_first position_test positions_pass time_test times_pass go))
