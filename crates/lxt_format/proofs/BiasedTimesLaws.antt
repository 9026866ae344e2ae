-- Laws of times with their bias.
use Rattle.std.specs.Prelude.{ℕ, zero, suc, ◌+◌, ◌-◌, ◌≤◌, ◌<◌, ◌≡◌, refl, true, ◌&&◌, List, [], ◌∷◌, map, length, get_or, drop, ℤ, pos, negsuc, ◌+ℤ◌, leb}
use Rattle.std.proofs.Common.{sym, ◌∙◌, ap, arith, le-leb, lt-ltb, le-ltb, leb-true, ltb-true}
use Rattle.std.proofs.Math.Bool.{Bool}
use Rattle.std.proofs.lemmas.Bool.{false≢true, lt-leb}
use Rattle.std.specs.Int.Signed.{mag, le_z, non_neg}
use Rattle.std.proofs.Math.Dec.{ltb}
use Rattle.std.proofs.Math.Decide.{dec_le}
use Rattle.lxt_format.specs.Limits.{least_time}
use Rattle.lxt_format.specs.Basics.{all}
use Rattle.lxt_format.specs.BasicsLaws.{and_both, all_at}
use Rattle.lxt_format.specs.Bytes.{signed}
use Rattle.lxt_format.specs.Sections.{end_of, time_count}
use Rattle.lxt_format.specs.Times.{time_of_bytes, first_time, last_time, time_delta_bytes, time_deltas, sums_by, positions_of, times_of, in_range, table_allowed, time_of}
use Rattle.lxt_format.specs.BiasedTimes.{bias, biased, unbiased, biased_bytes, biased_times}
use Rattle.lxt_format.proofs.TimesLaws.{sum_first, sum_next, sums_never_fall, length_time_deltas, length_positions, length_times, Decides, decided}

-- ---- one time

pub unbiased_biased : (z : ℤ) → mag z < bias → unbiased (biased z) ≡ z
unbiased_biased (pos n) h = let l : bias ≤ bias + n = omega arith in let e : bias + n - bias ≡ n = omega arith in rw (le-ltb (bias + n) bias l, e)
unbiased_biased (negsuc n) h =
    let l : bias - suc n < bias = omega arith in
    let e : bias - suc (bias - suc n) ≡ n = omega arith in
    rw (lt-ltb (bias - suc n) bias l, e)

pub biased_unbiased : (x : ℕ) → x < 18446744073709551616 → (mag (unbiased x) < bias) × (biased (unbiased x) ≡ x)
biased_unbiased x h =
    elim (dec_le bias x) [
      | yes l ↦ rw (le-ltb x bias l) (omega arith, omega arith)
      | no l ↦ (let g : x < bias = omega arith in rw (lt-ltb x bias g) (omega arith, omega arith))
    ]

pub biased_fits : (z : ℤ) → mag z < bias → biased z < 18446744073709551616
biased_fits (pos n) h = omega arith
biased_fits (negsuc n) h = omega arith

-- the order is kept
pub le_z_biased : (a b : ℤ) → mag a < bias → mag b < bias → le_z a b ≡ leb (biased a) (biased b)
le_z_biased (pos m) (pos n) h k =
    elim (dec_le m n) [
      | yes l ↦ (let g : bias + m ≤ bias + n = omega arith in rw (le-leb m n l, le-leb (bias + m) (bias + n) g))
      | no l ↦ (let f : n < m = omega arith in let g : bias + n < bias + m = omega arith in rw (lt-leb m n f, lt-leb (bias + m) (bias + n) g))
    ]
le_z_biased (pos m) (negsuc n) h k = let g : bias - suc n < bias + m = omega arith in rw (lt-leb (bias + m) (bias - suc n) g)
le_z_biased (negsuc m) (pos n) h k = let g : bias - suc m ≤ bias + n = omega arith in rw (le-leb (bias - suc m) (bias + n) g)
le_z_biased (negsuc m) (negsuc n) h k =
    elim (dec_le n m) [
      | yes l ↦ (let g : bias - suc m ≤ bias - suc n = omega arith in rw (le-leb n m l, le-leb (bias - suc m) (bias - suc n) g))
      | no l ↦ (let f : m < n = omega arith in let g : bias - suc n < bias - suc m = omega arith in rw (lt-leb n m f, lt-leb (bias - suc m) (bias - suc n) g))
    ]

-- so are sums with what is not negative
pub biased_sum : (z : ℤ) (d : ℕ) → mag z < bias → biased (z +ℤ pos d) ≡ biased z + d
biased_sum (pos n) d h = omega arith
biased_sum (negsuc n) d h =
    elim (dec_le (suc n) d) [
      | yes l ↦ (let e : bias + (d - suc n) ≡ bias - suc n + d = omega arith in rw (le-ltb d (suc n) l) e)
      | no l ↦ (let f : d < suc n = omega arith in let e : bias - suc (suc n - suc d) ≡ bias - suc n + d = omega arith in rw (lt-ltb d (suc n) f) e)
    ]

-- the bytes of a time fit, and have their bias
pub biased_bytes_lem : (x : ℕ) → x < 18446744073709551616 → (mag (time_of_bytes x) < bias) × (biased (time_of_bytes x) ≡ biased_bytes x)
unfolding signed
biased_bytes_lem x h =
    elim (dec_le bias x) [
      | yes l ↦ rw (le-ltb x bias l) (omega arith, omega arith)
      | no l ↦ (let g : x < bias = omega arith in rw (lt-ltb x bias g) (omega arith, refl))
    ]

-- ---- the times of an allowed table

-- a time in range fits 64 bits
range_fits : (t : ℤ) → in_range t ≡ true → mag t < bias
range_fits (pos n) h = let l = leb-true n 9223372036854775807 (and_both (le_z least_time (pos n)) (leb n 9223372036854775807) h).1 in omega arith
range_fits (negsuc n) h = let l = leb-true n 9223372036854775807 (and_both (leb n 9223372036854775807) true h).0 in omega arith

-- a delta that is not negative is its bytes
delta_bytes : (d : ℕ) → non_neg (time_of_bytes d) ≡ true → time_of_bytes d ≡ pos d
unfolding signed
delta_bytes d h =
    elim (dec_le bias d) [
      | yes l ↦ absurd (false≢true (rw (le-ltb d bias l) at h))
      | no l ↦ (let g : d < bias = omega arith in rw (lt-ltb d bias g))
    ]

-- with such deltas the sums with the bias are the sums of the bytes
biased_sums : (t : ℤ) (ds : List ℕ) → mag t < bias → all non_neg (map time_of_bytes ds) ≡ true → all in_range (sums_by ◌+ℤ◌ t (map time_of_bytes ds)) ≡ true
    → map biased (sums_by ◌+ℤ◌ t (map time_of_bytes ds)) ≡ sums_by ◌+◌ (biased t) ds
unfolding sums_by all
biased_sums t [] f n r = refl
biased_sums t (d ∷ ds) f n r =
    let positive = and_both (non_neg (time_of_bytes d)) (all non_neg (map time_of_bytes ds)) n in
    let u : ℤ = t +ℤ time_of_bytes d in
    let inside = and_both (in_range u) (all in_range (sums_by ◌+ℤ◌ u (map time_of_bytes ds))) r in
    let here : biased u ≡ biased t + d = ap (λ x. biased (t +ℤ x)) (delta_bytes d positive.0) ∙ biased_sum t d f in
    let ih = biased_sums u ds (range_fits u inside.0) positive.1 inside.1 in
    rw (← here) (ap (λ l. biased u ∷ l) ih)

pub zero_plus : (z : ℤ) → pos 0 +ℤ z ≡ z
zero_plus (pos n) = let e : 0 + n ≡ n = omega arith in rw e
zero_plus (negsuc n) = let l : 0 < suc n = omega arith in let e : suc n - 1 ≡ n = omega arith in rw (lt-ltb 0 (suc n) l, e)

-- the bytes of the time deltas, the first with the bias
abbrev first_biased : List ℕ → List ℕ
first_biased raw = biased (time_of_bytes (get_or raw 0 0)) ∷ drop 1 raw

-- of a whole table the first sum is the first time, which may be negative
biased_all : (raw : List ℕ) → 0 < length raw → all non_neg (drop 1 (map time_of_bytes raw)) ≡ true → all in_range (sums_by ◌+ℤ◌ (pos 0) (map time_of_bytes raw)) ≡ true
    → map biased (sums_by ◌+ℤ◌ (pos 0) (map time_of_bytes raw)) ≡ sums_by ◌+◌ 0 (first_biased raw)
unfolding sums_by all
biased_all [] h n r = absurd (omega arith)
biased_all (x ∷ ds) h n r =
    let t : ℤ = time_of_bytes x in
    let z : pos 0 +ℤ t ≡ t = zero_plus t in
    let inside : (in_range t && all in_range (sums_by ◌+ℤ◌ t (map time_of_bytes ds))) ≡ true = rw z at r in
    let both = and_both (in_range t) (all in_range (sums_by ◌+ℤ◌ t (map time_of_bytes ds))) inside in
    let e : 0 + biased t ≡ biased t = omega arith in
    rw (z, e) (ap (λ l. biased t ∷ l) (biased_sums t ds (range_fits t both.0) n both.1))

get_d_map : {A B : Type 0} (f : A → B) (l : List A) (i : ℕ) (d : A) (e : B) → i < length l → get_or (map f l) i e ≡ f (get_or l i d)
get_d_map f [] i d e h = absurd (omega arith)
get_d_map f (x ∷ l) zero d e h = refl
get_d_map f (x ∷ l) (suc i) d e h = get_d_map f l i d e (omega arith)

-- the first, with the bias, and those after it, which have none
length_first : (raw : List ℕ) → 0 < length raw → length (first_biased raw) ≡ length raw
length_first [] h = absurd (omega arith)
length_first (x ∷ ds) h = refl

later_bytes : (raw : List ℕ) (i : ℕ) → 0 < length raw → get_or (first_biased raw) (suc i) 0 ≡ get_or raw (suc i) 0
later_bytes [] i h = absurd (omega arith)
later_bytes (x ∷ ds) i h = refl

module _ (s : List ℕ) (a : table_allowed s ≡ true) where
  abbrev between : ℤ → Bool
  between t = le_z (first_time s) t && le_z t (last_time s)

  -- what the rule of 13 says of positions and of times
  parts : (all (λ p. ltb p (end_of s)) (positions_of s) ≡ true) × ((all non_neg (drop 1 (time_deltas s)) ≡ true) × (all in_range (times_of s) ≡ true))
  unfolding table_allowed
  parts =
      let deltas : Bool = all non_neg (drop 1 (time_deltas s)) in
      let times : Bool = all in_range (times_of s) && all between (times_of s) in
      let positions : Bool = all (λ p. ltb p (end_of s)) (positions_of s) in
      let below = and_both positions (deltas && times) (and_both (leb 4 (get_or (positions_of s) 0 0)) (positions && (deltas && times)) a).1 in
      let rest = and_both deltas times below.1 in
      (below.0, (rest.0, (and_both (all in_range (times_of s)) (all between (times_of s)) rest.1).0))

  pub position_below : (i : ℕ) → i < time_count s → get_or (positions_of s) i 0 < end_of s
  position_below i h =
      let l = length_positions s in
      ltb-true (get_or (positions_of s) i 0) (end_of s) (all_at (λ p. ltb p (end_of s)) (positions_of s) i 0 parts.0 (omega arith))

  -- an entry's time fits 64 bits
  entry_mag : (i : ℕ) → i < time_count s → mag (get_or (times_of s) i (pos 0)) < bias
  entry_mag i h = let l = length_times s in range_fits (get_or (times_of s) i (pos 0)) (all_at in_range (times_of s) i (pos 0) parts.1.1 (omega arith))

  biased_at : (i : ℕ) → i < time_count s → get_or (biased_times s) i 0 ≡ biased (get_or (times_of s) i (pos 0))
  biased_at i h = let l = length_times s in get_d_map biased (times_of s) i (pos 0) 0 (omega arith)

  pub entry_fits : (i : ℕ) → i < time_count s → get_or (biased_times s) i 0 < 18446744073709551616
  entry_fits i h = rw (biased_at i h) (biased_fits (get_or (times_of s) i (pos 0)) (entry_mag i h))

  -- the time of a change is that of the entry which decides
  pub biased_time : (o i : ℕ) → Decides s o i → biased (time_of s o) ≡ get_or (biased_times s) i 0
  biased_time o i d = ap biased (decided s o i d) ∙ sym (biased_at i d.within)

  pub time_mag : (o i : ℕ) → Decides s o i → mag (time_of s o) < bias
  time_mag o i d = rw (decided s o i d) (entry_mag i d.within)

  module _ (some : 0 < time_count s) where
    long : 0 < length (time_delta_bytes s)
    long = let l = length_time_deltas s in omega arith

    count_is : length (first_biased (time_delta_bytes s)) ≡ time_count s
    count_is = length_first (time_delta_bytes s) long ∙ length_time_deltas s

    sums_are : biased_times s ≡ sums_by ◌+◌ 0 (first_biased (time_delta_bytes s))
    unfolding times_of time_deltas
    sums_are = biased_all (time_delta_bytes s) long parts.1.0 parts.1.1

    -- the time of entry 0, by its bytes
    pub biased_first : (x : ℕ) → x ≡ get_or (time_delta_bytes s) 0 0 → x < 18446744073709551616 → biased_bytes x ≡ get_or (biased_times s) 0 0
    biased_first x e h =
        let count = count_is in
        let first = sum_first 0 (first_biased (time_delta_bytes s)) (omega arith) in
        let bytes = (biased_bytes_lem x h).1 in
        rw sums_are (omega (arith, first, bytes, ap (λ y. biased (time_of_bytes y)) e))

    -- that of each other entry
    pub biased_next : (i : ℕ) → i + 1 < time_count s → get_or (biased_times s) (i + 1) 0 ≡ get_or (biased_times s) i 0 + get_or (time_delta_bytes s) (i + 1) 0
    biased_next i h =
        let count = count_is in
        let e : i + 1 ≡ suc i = omega arith in
        rw (e, sums_are, ← later_bytes (time_delta_bytes s) i long) (sum_next 0 (first_biased (time_delta_bytes s)) i (omega arith))

    pub times_never_fall : (i j : ℕ) → i < j → j < time_count s → get_or (biased_times s) i 0 ≤ get_or (biased_times s) j 0
    times_never_fall i j k l = let count = count_is in rw sums_are (sums_never_fall 0 (first_biased (time_delta_bytes s)) i j k (omega arith))
