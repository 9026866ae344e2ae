-- A law for each way out of the functions on symbols.
use Prim.Native.Nat.{ℕ, max, min, ◌+◌, ◌*◌, ◌-◌, ◌≤◌, ◌<◌, ◌/◌, ◌%◌}
use mathlib.Core.Path.{◌≡◌, refl, sym, ◌∙◌}
use mathlib.Core.Logic.{◌⊎◌, inl, inr, ⊎_elim}
use mathlib.Core.Bool.{Bool, true, false, ◌&&◌, ◌||◌, and-true, or_assoc, false≢true}
use mathlib.Core.List.{List}
use lib.ListN.{length}
use lib.Dec.{ltb, leb, eqb}
use native.Mathlib.Omega.{arith}
use native.Mathlib.Nat.{mul-le-mul}
use Rattle.std.proofs.Math.Nat.{max-eq_left, max-eq_right, min-eq_left, min-eq_right}
use native.Mathlib.Decide.{ℕ_discrete, dec_le}
use borrow.Author.Tests.{ne_eqb, le-leb, lt-leb}
use Rattle.lxt_format.specs.Limits.{widest_facility}
use Rattle.lxt_format.specs.Basics.{range, all}
use Rattle.lxt_format.specs.BasicsLaws.{range_all, all_range, on_test}
use Rattle.lxt_format.specs.Bytes.{byte_at}
use Rattle.lxt_format.specs.Changes.{command_allowed, symbol_size, packed_size}
use Rattle.std.specs.Prelude.{Some, None}
use Rattle.std.proofs.lemmas.Option.{none-some, same_Some}
use Rattle.lxt_changes.specs.Windows.{good_byte, all_good, Good, Scanned, ScannedUp, Known, Answered}
use Rattle.lxt_changes.specs.declared.symbols.Window.{Window}
use Rattle.lxt_format.specs.declared.Kind.{Kind}
use Rattle.lxt_format.specs.declared.Kind.TheVariants.{Bits, Integer, Real, Text}

le_or_lt : (a b : ℕ) → (a ≤ b) ⊎ (b < a)
le_or_lt a b = elim (dec_le a b) [ yes h ↦ inl h | no n ↦ inr (omega arith) ]

-- ---- commands

module _ (kind : Kind) (x : ℕ) where
  pub bits_fit : kind ≡ Bits → (ltb x 0x40 && leb (x % 16) 0xB) ≡ (ltb x 0x40 && command_allowed kind (x % 16))
  unfolding command_allowed
  bits_fit e = rw e

  pub integer_fits : kind ≡ Integer → (ltb x 0x40 && (eqb (x % 16) 0 || eqb (x % 16) 3 || eqb (x % 16) 4)) ≡ (ltb x 0x40 && command_allowed kind (x % 16))
  unfolding command_allowed
  integer_fits e = rw (e, or_assoc)

  pub others_fit : (kind ≡ Real) ⊎ (kind ≡ Text) → ltb x 0x40 ≡ (ltb x 0x40 && command_allowed kind (x % 16))
  unfolding command_allowed
  others_fit (inl e) = rw (e, and-true)
  others_fit (inr e) = rw (e, and-true)

module _ (c : ℕ) where
  pub one_bit : c ≡ 0 → (1 ≡ symbol_size c) × (1 ≤ 4)
  unfolding symbol_size
  one_bit e = (rw e, omega arith)

  pub two_bits : c ≡ 1 → (2 ≡ symbol_size c) × (2 ≤ 4)
  unfolding symbol_size
  two_bits e = (rw e, omega arith)

  pub four_bits : c ≡ 2 → (4 ≡ symbol_size c) × (4 ≤ 4)
  unfolding symbol_size
  four_bits e = (rw e, omega arith)

  pub no_bits : (c ≡ 0 → ⊥) → (c ≡ 1 → ⊥) → (c ≡ 2 → ⊥) → (0 ≡ symbol_size c) × (0 ≤ 4)
  unfolding symbol_size
  no_bits a b d = (simp (ne_eqb c 0 a, ne_eqb c 1 b, ne_eqb c 2 d), omega arith)

-- ---- sizes

pub product : (b width : ℕ) → b ≤ 4 → width ≤ widest_facility → b * width ≤ 16384
product b width h k = mul-le-mul h k

pub packed_is : (b width : ℕ) → b ≤ 4 → width ≤ widest_facility → ((b * width + 7) / 8 ≡ packed_size b width) × ((b * width + 7) / 8 ≤ 2048)
unfolding packed_size
packed_is b width h k = (refl, omega (arith, product b width h k))

-- ---- scanning down

-- what holds where the bytes from p up to `to` are known to be good
pub record Down (s : List ℕ) (from to p : ℕ) : Type 0 where
  pub low : from ≤ to → from ≤ p
  pub high : p ≤ to
  pub good : Good s p to

pub begun : (s : List ℕ) (from to : ℕ) → Down s from to to
begun s from to = record { low = λ h. h; high = omega arith; good = λ i a b. absurd (omega arith) }

module _ (s : List ℕ) (from to p : ℕ) (w : Down s from to p) where
  pub stopped : from < p → (z : Bool) → z ≡ good_byte (byte_at s (p - 1)) → z ≡ false → Scanned s from to (p - 1 + 1)
  stopped l z e h =
      let q : p - 1 + 1 ≡ p = omega arith in
      rw q (record { low = w.low; high = w.high; good = w.good; stop = λ k. sym e ∙ h })

  pub ended : p ≤ from → (m : ℕ) → m ≡ min from to → Scanned s from to m
  ended h m e =
      elim (dec_le from to) [
        | yes l ↦ (let low = w.low l in let q : m ≡ p = (let k : min from to ≡ from = min-eq_left l in omega arith) in
            rw q (record { low = w.low; high = w.high; good = w.good; stop = λ k. absurd (omega arith) }))
        | no l ↦ (let r : to ≤ from = omega arith in let q : m ≡ to = (let k : min from to ≡ to = min-eq_right r in omega arith) in
            rw q (record { low = λ a. a; high = omega arith; good = λ i a b. absurd (omega arith); stop = λ k. absurd (omega arith) }))
      ]

  pub turned : from < p → (z : Bool) → z ≡ good_byte (byte_at s (p - 1)) → z ≡ true → Down s from to (p - 1)
  turned k z e h =
      let l = w.high in
      record {
        low = λ g. omega arith;
        high = omega arith;
        good = λ i a b. elim (ℕ_discrete i (p - 1)) [ yes q ↦ rw q (sym e ∙ h) | no n ↦ w.good i (omega arith) b ];
      }

-- all of them are known to be good
pub all_scanned : (s : List ℕ) (from to : ℕ) → from ≤ to → (z : Bool) → z ≡ all_good s from to → z ≡ true → Scanned s from to from
unfolding all_good
all_scanned s from to l z e h =
    let g : all_good s from to ≡ true = sym e ∙ h in
    record {
      high = l;
      good = λ i a b. all_range (λ j. good_byte (byte_at s j)) from (to - from) g i a (omega arith);
      stop = λ k. absurd (omega arith);
      low = λ k. omega arith;
    }

-- ---- scanning up

-- what holds where the bytes from `from` up to p are known to be good
pub record Up (s : List ℕ) (from to p : ℕ) : Type 0 where
  pub low : from ≤ p
  pub high : p ≤ to
  pub good : Good s from p

pub begun_up : (s : List ℕ) (from to : ℕ) → from ≤ to → Up s from to from
begun_up s from to h = record { low = omega arith; high = h; good = λ i a b. absurd (omega arith) }

module _ (s : List ℕ) (from to p : ℕ) (w : Up s from to p) where
  pub stopped_up : (z : Bool) → z ≡ good_byte (byte_at s p) → z ≡ false → ScannedUp s from to p
  stopped_up z e h = record { low = w.low; high = w.high; good = w.good; stop = λ k. sym e ∙ h }

  pub ended_up : to ≤ p → ScannedUp s from to to
  ended_up h =
      let l = w.low in
      let u = w.high in
      record { low = omega arith; high = omega arith; good = λ i a b. w.good i a (omega arith); stop = λ k. absurd (omega arith) }

  pub turned_up : p < to → (z : Bool) → z ≡ good_byte (byte_at s p) → z ≡ true → Up s from to (p + 1)
  turned_up k z e h =
      let l = w.low in
      record {
        low = omega arith;
        high = omega arith;
        good = λ i a b. elim (ℕ_discrete i p) [ yes q ↦ rw q (sym e ∙ h) | no n ↦ w.good i a (omega arith) ];
      }

-- ---- windows

module _ (s : List ℕ) (from to : ℕ) where
  -- every byte is good, one is not
  good_all : Good s from to → all_good s from to ≡ true
  unfolding all_good
  good_all g = range_all (λ i. good_byte (byte_at s i)) from (to - from) (λ j a b. g j a (omega arith))

  bad_one : (i : ℕ) → from ≤ i → i < to → good_byte (byte_at s i) ≡ false → all_good s from to ≡ false
  unfolding all_good
  bad_one i a b h =
      on_test (all (λ j. good_byte (byte_at s j)) (range from (to - from)))
      (λ e. absurd (false≢true (sym h ∙ all_range (λ j. good_byte (byte_at s j)) from (to - from) e i a (omega arith)))) (λ e. e)

  -- what is answered then
  allow : (w : Window) → all_good s from to ≡ true → Known s w → Answered s (all_good s from to) (Some w)
  allow w h k = record { answer = sym h; known = λ v e. rw (same_Some v w (sym e)) k }

  refuse : all_good s from to ≡ false → Answered s (all_good s from to) None
  refuse h = record { answer = sym h; known = λ v e. absurd (none-some v e) }

  module _ (low : ℕ) (w : Scanned s from to low) where
    pub anew_bad : from < low → Answered s (all_good s from to) None
    anew_bad l = refuse (bad_one (low - 1) (omega arith) (let g = w.high in omega arith) (w.stop l))

    pub anew : low ≤ from → to ≤ length s → Answered s (all_good s from to) (Some (record { from = low; to = to }))
    anew l k = allow _ (good_all (λ i a b. w.good i (omega arith) b)) (record { good = w.good; within = k })

  module _ (w : Window) (k : Known s w) (meets : w.from ≤ to) (touches : from ≤ w.to) (low : ℕ) (a : Scanned s from w.from low) where
    pub low_bad : from < low → Answered s (all_good s from to) None
    low_bad h = refuse (bad_one (low - 1) (omega arith) (let g = a.high in omega arith) (a.stop h))

    module _ (fine : low ≤ from) (high : ℕ) (b : Scanned s w.to to high) where
      pub high_bad : w.to < high → Answered s (all_good s from to) None
      high_bad h = refuse (bad_one (high - 1) (omega arith) (let g = b.high in omega arith) (b.stop h))

      module _ (fine' : high ≤ w.to) where
        -- the bytes from low up to the higher end
        joined_good : (i : ℕ) → low ≤ i → (i < w.to) ⊎ (i < to) → good_byte (byte_at s i) ≡ true
        joined_good i l (inl m) = ⊎_elim (λ c. k.good i c m) (λ c. a.good i l c) (le_or_lt w.from i)
        joined_good i l (inr m) = ⊎_elim (λ c. b.good i (omega arith) m) (λ c. inner c) (le_or_lt w.to i)
          where
            inner : i < w.to → good_byte (byte_at s i) ≡ true
            inner c = ⊎_elim (λ d. k.good i d c) (λ d. a.good i l d) (le_or_lt w.from i)

        all_good_lem : all_good s from to ≡ true
        all_good_lem = good_all (λ i c d. joined_good i (omega arith) (inr d))

        pub grown : to ≤ length s → (m : ℕ) → m ≡ max to w.to → Answered s (all_good s from to) (Some (record { from = low; to = m }))
        grown h m e =
            elim (dec_le to w.to) [
              | yes l ↦ (let q : m ≡ w.to = (let x : max to w.to ≡ w.to = max-eq_right l in omega arith) in
                  rw q (allow _ all_good_lem (record { good = λ i c d. joined_good i c (inl d); within = k.within })))
              | no l ↦ (let r : w.to ≤ to = omega arith in let q : m ≡ to = (let x : max to w.to ≡ to = max-eq_left r in omega arith) in
                  rw q (allow _ all_good_lem (record { good = λ i c d. joined_good i c (inr d); within = h })))
            ]

  module _ (w : Window) (k : Known s w) (low : ℕ) (a : Scanned s from to low) where
    pub below_bad : from < low → Answered s (all_good s from to) None
    below_bad h = refuse (bad_one (low - 1) (omega arith) (let g = a.high in omega arith) (a.stop h))

    module _ (fine : low ≤ from) (some : w.from < w.to) (high : ℕ) (b : ScannedUp s to w.from high) where
      below_good : all_good s from to ≡ true
      below_good = good_all (λ i c d. a.good i (omega arith) d)

      -- the bytes from low up to where the scan of the gap ended
      gap_good : Good s low high
      gap_good i c d = ⊎_elim (λ l. b.good i l d) (λ l. a.good i c l) (le_or_lt to i)

      pub below_apart : Answered s (all_good s from to) (Some (record { from = low; to = high }))
      below_apart = allow _ below_good (record { good = gap_good; within = let g = b.high in let h = k.within in omega arith })

      pub below_joined : w.from ≤ high → Answered s (all_good s from to) (Some (record { from = low; to = w.to }))
      below_joined h = allow _ below_good (record { good = λ i c d. ⊎_elim (λ l. k.good i l d) (λ l. gap_good i c (omega arith)) (le_or_lt w.from i); within = k.within })
