-- Laws of the time table: running sums, and which entry gives the time of a change.
use Prim.Native.Nat.{ℕ, zero, suc, ◌+◌, ◌≤◌, ◌<◌}
use Rattle.std.specs.Prelude.{◌≡◌, true, length, drop, pos, leb}
use Rattle.std.proofs.Math.Path.{refl}
use Rattle.std.proofs.Common.{◌∙◌, ap, arith, le-leb, leb-true}
use mathlib.Core.List.{List, [], ◌∷◌}
use Rattle.std.proofs.Math.ListN.{get_or, length-map}
use Rattle.std.proofs.Math.Dec.{leb-zero}
use Rattle.std.proofs.Math.Decide.{dec_le, ℕ_discrete}
use Rattle.std.proofs.lemmas.Bool.{lt-leb}
use Rattle.lxt_format.specs.Basics.{all}
use Rattle.lxt_format.specs.BasicsLaws.{on_test, and_both}
use Rattle.lxt_format.specs.BytesLaws.{length_numbers}
use Rattle.lxt_format.specs.Sections.{wide_times, time_bytes, time_count}
use Rattle.lxt_format.specs.Times.{time_of_bytes, position_deltas, time_delta_bytes, time_deltas, sums_by, positions_of, times_of, time_from, time_of}

-- ---- running sums

length_sums : {A : Type 0} (add : A → A → A) (a : A) (ds : List A) → length (sums_by add a ds) ≡ length ds
unfolding sums_by
length_sums add a [] = refl
length_sums add a (d ∷ ds) = ap suc (length_sums add (add a d) ds)

-- the first sum, and the one after another
pub sum_first : (a : ℕ) (ds : List ℕ) → 0 < length ds → get_or (sums_by ◌+◌ a ds) 0 0 ≡ a + get_or ds 0 0
unfolding sums_by
sum_first a [] h = absurd (omega arith)
sum_first a (d ∷ ds) h = refl

pub sum_next : (a : ℕ) (ds : List ℕ) (i : ℕ) → suc i < length ds → get_or (sums_by ◌+◌ a ds) (suc i) 0 ≡ get_or (sums_by ◌+◌ a ds) i 0 + get_or ds (suc i) 0
unfolding sums_by
sum_next a [] i h = absurd (omega arith)
sum_next a (d ∷ ds) zero h = sum_first (a + d) ds (omega arith)
sum_next a (d ∷ ds) (suc i) h = sum_next (a + d) ds i (omega arith)

-- where every delta is at least `least`, so far do the sums lie above what they start from
sums_above : (least a : ℕ) (ds : List ℕ) → all (leb least) ds ≡ true → (j : ℕ) → j < length ds → a + least ≤ get_or (sums_by ◌+◌ a ds) j 0
unfolding sums_by all
sums_above least a [] h j l = absurd (omega arith)
sums_above least a (d ∷ ds) h zero l = let first = leb-true least d (and_both (leb least d) (all (leb least) ds) h).0 in omega arith
sums_above least a (d ∷ ds) h (suc j) l = let ih = sums_above least (a + d) ds (and_both (leb least d) (all (leb least) ds) h).1 j (omega arith) in omega arith

-- where every delta after the first is, so far does a later sum lie above an earlier one
pub sums_apart : (least a : ℕ) (ds : List ℕ) → all (leb least) (drop 1 ds) ≡ true → (i j : ℕ) → i < j → j < length ds
    → get_or (sums_by ◌+◌ a ds) i 0 + least ≤ get_or (sums_by ◌+◌ a ds) j 0
unfolding sums_by all
sums_apart least a [] h i j k l = absurd (omega arith)
sums_apart least a (d ∷ ds) h i zero k l = absurd (omega arith)
sums_apart least a (d ∷ ds) h zero (suc j) k l = sums_above least (a + d) ds h j (omega arith)
sums_apart least a (d ∷ []) h (suc i) (suc j) k l = absurd (omega arith)
sums_apart least a (d ∷ (e ∷ ds)) h (suc i) (suc j) k l =
    sums_apart least (a + d) (e ∷ ds) (and_both (leb least e) (all (leb least) ds) h).1 i j (omega arith) (omega arith)

-- every delta is at least 0: sums never fall
at_least_0 : (ds : List ℕ) → all (leb 0) ds ≡ true
unfolding all
at_least_0 [] = refl
at_least_0 (d ∷ ds) = rw (leb-zero d) (at_least_0 ds)

pub sums_never_fall : (a : ℕ) (ds : List ℕ) (i j : ℕ) → i < j → j < length ds → get_or (sums_by ◌+◌ a ds) i 0 ≤ get_or (sums_by ◌+◌ a ds) j 0
sums_never_fall a ds i j k l = let apart = sums_apart 0 a ds (at_least_0 (drop 1 ds)) i j k l in omega arith

-- ---- entries, and an offset

module _ {A : Type 0} where
  -- entries that lie above it do not count
  none_count : (x : A) (ps : List ℕ) (ts : List A) (o : ℕ) → ((j : ℕ) → j < length ps → o < get_or ps j 0) → time_from x ps ts o ≡ x
  unfolding time_from
  none_count x [] ts o h = refl
  none_count x (p ∷ ps) [] o h = refl
  none_count x (p ∷ ps) (t ∷ ts) o h =
      let ih : time_from x ps ts o ≡ x = none_count x ps ts o (λ j b. h (suc j) (omega arith)) in
      rw (lt-leb p o (h 0 (omega arith))) ih

  -- the last that does not gives the time
  last_counts : (x : A) (ps : List ℕ) (ts : List A) (d : A) (i o : ℕ) → i < length ps → i < length ts → get_or ps i 0 ≤ o
      → ((j : ℕ) → i < j → j < length ps → o < get_or ps j 0) → time_from x ps ts o ≡ get_or ts i d
  unfolding time_from
  last_counts x [] ts d i o a b l h = absurd (omega arith)
  last_counts x (p ∷ ps) [] d i o a b l h = absurd (omega arith)
  last_counts x (p ∷ ps) (t ∷ ts) d zero o a b l h = rw (le-leb p o l) (none_count t ps _ o (λ j c. h (suc j) (omega arith) (omega arith)))
  last_counts x (p ∷ ps) (t ∷ ts) d (suc i) o a b l h =
      let ih : (y : A) → time_from y ps ts o ≡ get_or ts i d = λ y. last_counts y ps ts d i o (omega arith) (omega arith) l (λ j c e. h (suc j) (omega arith) (omega arith)) in
      on_test (leb p o) (λ q. rw q (ih t)) (λ q. rw q (ih x))

  -- where all but the first lie above it, the first does
  first_counts : (ps : List ℕ) (ts : List A) (d : A) (o : ℕ) → ((j : ℕ) → 0 < j → j < length ps → o < get_or ps j 0)
      → time_from (get_or ts 0 d) ps ts o ≡ get_or ts 0 d
  unfolding time_from
  first_counts [] ts d o h = refl
  first_counts (p ∷ ps) [] d o h = refl
  first_counts (p ∷ ps) (t ∷ ts) d o h =
      let rest : time_from t ps ts o ≡ t = none_count t ps ts o (λ j c. h (suc j) (omega arith) (omega arith)) in
      on_test (leb p o) (λ q. rw q rest) (λ q. rw q rest)

-- ---- the table in the file

-- the entry that gives the time of a change at o: it is reached, or entry 0, and those after it lie above o
pub record Decides (s : List ℕ) (o i : ℕ) : Type 0 where
  pub within : i < time_count s
  pub reached : 0 < i → get_or (positions_of s) i 0 ≤ o
  pub later : (j : ℕ) → i < j → j < time_count s → o < get_or (positions_of s) j 0

module _ (s : List ℕ) where
  pub length_position_deltas : length (position_deltas s) ≡ time_count s
  unfolding position_deltas
  length_position_deltas = length_numbers 4 (time_count s) s _

  pub length_time_deltas : length (time_delta_bytes s) ≡ time_count s
  unfolding time_delta_bytes
  length_time_deltas = length_numbers (time_bytes (wide_times s)) (time_count s) s _

  pub length_positions : length (positions_of s) ≡ time_count s
  unfolding positions_of
  length_positions = length_sums ◌+◌ 0 (position_deltas s) ∙ length_position_deltas

  pub length_times : length (times_of s) ≡ time_count s
  unfolding times_of time_deltas
  length_times = length_sums _ (pos 0) (time_deltas s) ∙ length-map (time_delta_bytes s) time_of_bytes ∙ length_time_deltas

  pub positions_never_fall : (i j : ℕ) → i < j → j < time_count s → get_or (positions_of s) i 0 ≤ get_or (positions_of s) j 0
  unfolding positions_of
  positions_never_fall i j k l = let count = length_position_deltas in sums_never_fall 0 (position_deltas s) i j k (omega arith)

  -- "the time of the last entry with position ≤ o": the entries after it lie above o, so of several at its position it is the last
  last_decides : (o i : ℕ) → i < time_count s → get_or (positions_of s) i 0 ≤ o → ((j : ℕ) → i < j → j < time_count s → o < get_or (positions_of s) j 0)
      → time_of s o ≡ get_or (times_of s) i (pos 0)
  unfolding time_of
  last_decides o i h l later =
      let p = length_positions in
      let t = length_times in
      last_counts (get_or (times_of s) 0 (pos 0)) (positions_of s) (times_of s) (pos 0) i o (omega arith) (omega arith) l (λ j a b. later j a (omega arith))

  -- "or of entry 0 where none is": the entries after entry 0 lie above o, and entry 0 does or does not
  pub entry_0_decides : (o : ℕ) → ((j : ℕ) → 0 < j → j < time_count s → o < get_or (positions_of s) j 0) → time_of s o ≡ get_or (times_of s) 0 (pos 0)
  unfolding time_of
  entry_0_decides o later =
      let p = length_positions in
      first_counts (positions_of s) (times_of s) (pos 0) o (λ j a b. later j a (omega arith))

  pub decided : (o i : ℕ) → Decides s o i → time_of s o ≡ get_or (times_of s) i (pos 0)
  decided o zero d = entry_0_decides o d.later
  decided o (suc i) d = last_decides o (suc i) d.within (d.reached (omega arith)) d.later

  -- there is one in a table with an entry: looked for below k, where those from k on lie above o
  decider_below : (o k : ℕ) → 0 < k → k ≤ time_count s → ((j : ℕ) → k ≤ j → j < time_count s → o < get_or (positions_of s) j 0) → (i : ℕ) × Decides s o i
  decider_below o zero p l above = absurd (omega arith)
  decider_below o (suc zero) p l above = (0, record { within = l; reached = λ h. absurd (omega arith); later = λ j a b. above j (omega arith) b })
  decider_below o (suc (suc k)) p l above =
      elim (dec_le (get_or (positions_of s) (suc k) 0) o) [
        | yes q ↦ (suc k, record { within = l; reached = λ h. q; later = λ j a b. above j (omega arith) b })
        | no q ↦ decider_below o (suc k) (omega arith) (omega arith) (further q)
      ]
    where
      further : (get_or (positions_of s) (suc k) 0 ≤ o → ⊥) → (j : ℕ) → suc k ≤ j → j < time_count s → o < get_or (positions_of s) j 0
      further q j a b = elim (ℕ_discrete j (suc k)) [ yes e ↦ rw e (omega arith) | no n ↦ above j (omega arith) b ]

  pub decider : (o : ℕ) → 0 < time_count s → (i : ℕ) × Decides s o i
  decider o h = decider_below o (time_count s) h (omega arith) (λ j a b. absurd (omega arith))
