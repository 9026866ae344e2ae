-- The entries of the time table, one after the other.
use Prim.Native.Nat.{ℕ, suc, ◌+◌, ◌-◌, ◌*◌, ◌≤◌, ◌<◌}
use mathlib.Core.Path.{◌≡◌, refl, sym, ◌∙◌, ap}
use mathlib.Core.Bool.{Bool, true}
use mathlib.Core.List.{List}
use lib.IntN.{pos}
use lib.ListN.{get_or}
use native.Mathlib.Omega.{arith}
use native.Mathlib.Decide.{dec_le}
use borrow.Author.Tests.{ne_eqb}
use Rattle.lxt_format.specs.BasicsLaws.{on_zero}
use Rattle.lxt_format.specs.Bytes.{number_at, u32_at, numbers_at}
use Rattle.lxt_format.specs.BytesLaws.{get_d_numbers}
use Rattle.lxt_format.specs.Sections.{end_of, wide_times, times_at, time_bytes, time_count}
use Rattle.lxt_format.specs.Times.{positions_at, position_deltas, time_delta_bytes, time_deltas, sums_by, positions_of, times_of, table_allowed, times_allowed, time_from, time_of}
use Rattle.lxt_format.proofs.TimesLaws.{sum_first, sum_next, length_position_deltas, Decides}
use Rattle.lxt_format.specs.BiasedTimes.{bias, biased, unbiased, biased_bytes, biased_times}
use Rattle.lxt_format.proofs.BiasedTimesLaws.{unbiased_biased, time_mag, position_below, entry_fits, biased_first, biased_next, biased_time}
use Rattle.lxt_values.specs.Times.{Times}
use Rattle.lxt_values.specs.Entries.{EntryAt, Latest, From, Last}

-- an entry above another is not entry 0
pub above_zero : (a b : ℕ) → a < b → 0 < b
above_zero a b h = omega arith

-- where the deltas stand
abbrev pub position_at : ℕ → Bool → ℕ → ℕ
position_at times wide i = times + 4 + 2 * time_bytes wide + 4 * i

abbrev pub step_at : ℕ → ℕ → Bool → ℕ → ℕ
step_at times m wide i = times + 4 + 2 * time_bytes wide + 4 * m + time_bytes wide * i

module _ (s : List ℕ) (times m : ℕ) (wide : Bool) (k : Times s times m wide) (some : 0 < m) where
  pub table : table_allowed s ≡ true
  unfolding times_allowed
  table = let n : time_count s ≡ 0 → ⊥ = λ e. absurd (omega (arith, k.count)) in simp (ne_eqb (time_count s) 0 n) at k.allowed

  pub some_entry : 0 < time_count s
  some_entry = omega (arith, k.count)

  module _ (i : ℕ) (h : i < time_count s) where
    position_delta : get_or (position_deltas s) i 0 ≡ u32_at s (position_at times wide i)
    unfolding position_deltas positions_at u32_at
    position_delta = get_d_numbers 4 (time_count s) s (times_at s + 4 + 2 * time_bytes (wide_times s)) i 0 h ∙ rw (k.start, k.form)

    time_delta : get_or (time_delta_bytes s) i 0 ≡ number_at (time_bytes wide) s (step_at times m wide i)
    unfolding time_delta_bytes positions_at
    time_delta = get_d_numbers (time_bytes (wide_times s)) (time_count s) s (times_at s + 4 + 2 * time_bytes (wide_times s) + 4 * time_count s) i 0 h ∙ rw (k.start, k.form, k.count)

  -- entry 0
  pub entry_first : (p x : ℕ) → p ≡ u32_at s (position_at times wide 0) → x ≡ number_at (time_bytes wide) s (step_at times m wide 0) → x < 18446744073709551616
      → (t : ℕ) → t ≡ biased_bytes x → EntryAt s 0 p t
  unfolding positions_of
  entry_first p x ep ex fits t et =
      let count = length_position_deltas s in
      record {
        within = some_entry;
        position_is = omega (arith, ep, sum_first 0 (position_deltas s) (omega (arith, some_entry)), position_delta 0 some_entry);
        time_is = et ∙ biased_first s table some_entry x (ex ∙ sym (time_delta 0 some_entry)) fits;
      }

  -- the sums of two entries that follow each other
  module _ (i : ℕ) (h : i + 1 < time_count s) where
    position_next : get_or (positions_of s) (i + 1) 0 ≡ get_or (positions_of s) i 0 + u32_at s (position_at times wide (i + 1))
    unfolding positions_of
    position_next =
        let e : i + 1 ≡ suc i = omega arith in
        let l = length_position_deltas s in
        rw (← position_delta (i + 1) h, e) (sum_next 0 (position_deltas s) i (omega arith))

    time_next : get_or (biased_times s) (i + 1) 0 ≡ get_or (biased_times s) i 0 + number_at (time_bytes wide) s (step_at times m wide (i + 1))
    time_next = biased_next s table some_entry i h ∙ rw (time_delta (i + 1) h)

  -- ---- the entry after another

  module _ (number position time : ℕ) (e : EntryAt s number position time) (h : number + 1 < m) (p t : ℕ)
      (ep : p ≡ u32_at s (position_at times wide (number + 1))) (et : t ≡ number_at (time_bytes wide) s (step_at times m wide (number + 1))) where
    next_in : number + 1 < time_count s
    next_in = omega (arith, k.count)

    position_sum : get_or (positions_of s) (number + 1) 0 ≡ position + p
    position_sum = omega (arith, ep, e.position_is, position_next number next_in)

    time_sum : get_or (biased_times s) (number + 1) 0 ≡ time + t
    time_sum = omega (arith, et, e.time_is, time_next number next_in)

    pub position_fits : position + p < end_of s
    position_fits = rw (← position_sum) (position_below s table (number + 1) next_in)

    pub time_fits : time + t < 18446744073709551616
    time_fits = rw (← time_sum) (entry_fits s table (number + 1) next_in)

    pub entry_after : EntryAt s (number + 1) (position + p) (time + t)
    entry_after = record { within = next_in; position_is = sym position_sum; time_is = sym time_sum }

  -- ---- the entry before another

  module _ (number position time : ℕ) (e : EntryAt s number position time) (h : 0 < number) (p t : ℕ)
      (ep : p ≡ u32_at s (position_at times wide number)) (et : t ≡ number_at (time_bytes wide) s (step_at times m wide number)) where
    before : number - 1 + 1 ≡ number
    before = omega arith

    positions_are : get_or (positions_of s) number 0 ≡ get_or (positions_of s) (number - 1) 0 + p
    positions_are = rw (before, ← ep) at (position_next (number - 1) (omega (arith, e.within)))

    times_are : get_or (biased_times s) number 0 ≡ get_or (biased_times s) (number - 1) 0 + t
    times_are = rw (before, ← et) at (time_next (number - 1) (omega (arith, e.within)))

    pub position_above : p ≤ position
    position_above = omega (arith, positions_are, e.position_is)

    pub time_above : t ≤ time
    time_above = omega (arith, times_are, e.time_is)

    pub entry_before : EntryAt s (number - 1) (position - p) (time - t) × (number - 1 + 1 ≡ number)
    entry_before = (
      record {
        within = omega (arith, e.within);
        position_is = omega (arith, positions_are, e.position_is);
        time_is = omega (arith, times_are, e.time_is);
      },
      before,
    )

  -- ---- down to the entry that gives a time

  -- an entry that is reached, or entry 0, after which all lie above the offset
  module _ (o number position time : ℕ) (e : EntryAt s number position time) (reached : 0 < number → position ≤ o)
      (later : (j : ℕ) → number < j → j < time_count s → o < get_or (positions_of s) j 0) where
    deciding : Decides s o number
    deciding = record { within = e.within; reached = λ h. omega (arith, reached h, e.position_is); later = later }

    pub decides : time ≡ biased (time_of s o)
    decides = e.time_is ∙ sym (biased_time s table o number deciding)

    pub tells : unbiased time ≡ time_of s o
    tells = ap unbiased decides ∙ unbiased_biased (time_of s o) (time_mag s table o number deciding)

  module _ (o number position time : ℕ) (w : Latest s o number position time) where
    -- an entry at or below the offset does
    pub down_found : position ≤ o → time ≡ biased (time_of s o)
    down_found h = decides o number position time w.here (λ z. h) w.later

    -- so does entry 0, wherever it lies
    pub down_first : number ≤ 0 → time ≡ biased (time_of s o)
    down_first h = decides o number position time w.here (λ z. absurd (omega arith)) w.later

    -- else the one before is looked at
    pub down_next : o < position → (n p t : ℕ) → EntryAt s n p t → n + 1 ≡ number → Latest s o n p t
    down_next above n p t e q =
        record {
          here = e;
          later = λ j a b. elim (dec_le j number) [
            | yes r ↦ (let z : j ≡ number = omega arith in rw (z, ← w.here.position_is) above)
            | no r ↦ w.later j (omega arith) b
          ];
        }

-- ---- where the times of all changes are looked for from

-- a table without entries
module _ (s : List ℕ) (z : time_count s ≡ 0) where
  -- gives every change time 0
  pub no_time : (o : ℕ) → time_of s o ≡ pos 0
  unfolding time_of times_of time_deltas time_delta_bytes numbers_at sums_by time_from positions_of position_deltas
  no_time o = rw z

  pub no_entry : (position : ℕ) → Last s 0 position bias
  no_entry position = record { from = λ o. record { latest = λ h. absurd (omega arith); empty = λ e. (refl, refl) } }

module _ (s : List ℕ) (number position time : ℕ) where
  -- the last of some
  pub last_entry : EntryAt s number position time → number + 1 ≡ time_count s → Last s number position time
  last_entry e q = record {
    from = λ o. record {
      latest = λ h. record { here = e; later = λ j a b. absurd (omega arith) };
      empty = λ z. absurd (omega arith);
    };
  }

  -- an entry for a change is one for those below it
  pub from_lower : (o p : ℕ) → p ≤ o → From s o number position time → From s p number position time
  from_lower o p h w = record {
    latest = λ some. let l = w.latest some in record { here = l.here; later = λ j a b. omega (arith, l.later j a b) };
    empty = w.empty;
  }

  -- one that is not entry 0 is an entry of the table
  pub tabled : (o : ℕ) → From s o number position time → 0 < number → Latest s o number position time
  tabled o w h = on_zero (time_count s) (λ z. absurd (omega (arith, (w.empty z).0))) (λ some. w.latest some)

  pub from_latest : (o : ℕ) → Latest s o number position time → From s o number position time
  from_latest o l = record { latest = λ h. l; empty = λ z. absurd (omega (arith, l.here.within)) }

  -- entry 0 gives the time where the way down ends, and so does an empty table
  pub down_ended : (times m : ℕ) (wide : Bool) (k : Times s times m wide) (o : ℕ) → From s o number position time → number ≤ 0 → time ≡ biased (time_of s o)
  down_ended times m wide k o w h =
      on_zero (time_count s) (λ z. (w.empty z).1 ∙ rw (no_time s z o))
      (λ some. down_first s times m wide k (omega (arith, k.count)) o number position time (w.latest some) h)
