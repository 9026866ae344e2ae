-- The laws of times: the time of a change, the limit of a time, and the latest change, the first one below it.
use Prim.Native.Nat.{ℕ, zero, suc, ◌+◌, ◌≤◌, ◌<◌}
use mathlib.Core.Path.{◌≡◌, refl, sym, ◌∙◌, ap}
use mathlib.Core.Bool.{Bool, true, false}
use mathlib.Core.List.{List, [], ◌∷◌}
use Rattle.std.specs.Prelude.{Option, Some, None, unwrap_or}
use Rattle.std.proofs.lemmas.Option.{none-some, same_Some}
use lib.ListN.{length, get_or}
use lib.IntN.{ℤ, pos}
use lib.Signed.{mag, le_z}
use lib.Dec.{leb, ltb}
use native.Mathlib.Omega.{arith}
use native.Mathlib.Decide.{dec_le, ℕ_discrete}
use borrow.Author.Tests.{le-leb, lt-leb, lt-ltb, le-ltb, ne_eqb, eq-eqb}
use Rattle.lxt_format.specs.BasicsLaws.{on_test, on_zero}
use Rattle.lxt_format.specs.Sections.{time_count}
use Rattle.lxt_format.specs.Times.{positions_of, times_of, time_of}
use Rattle.lxt_format.proofs.TimesLaws.{positions_never_fall, Decides, entry_0_decides, length_times, decider}
use Rattle.lxt_format.specs.BiasedTimes.{bias, biased, unbiased, biased_times}
use Rattle.lxt_format.proofs.BiasedTimesLaws.{biased_unbiased, le_z_biased, biased_time, time_mag, times_never_fall}
use Rattle.lxt_format.specs.Changes.{data_at, previous_of, chain_within, chain_of}
use Rattle.lxt_format.proofs.ChangesLaws.{previous_lt, chain_none, chain_more}
use Rattle.lxt_format.specs.Values.{latest_at, visited_in}
use Rattle.lxt_format.proofs.VisitedLaws.{none_visited, visited_passed, visited_answered}
use Rattle.lxt_values.specs.Times.{Times, Limit, Readable, change, found_at, first_below, visited_to}
use Rattle.lxt_values.specs.Entries.{EntryAt}
use Rattle.lxt_values.proofs.EntryLaws.{table, some_entry, tells}

-- ---- the time of a change

empty_at : (l : List ℤ) (d : ℤ) → length l ≡ 0 → get_or l 0 d ≡ d
empty_at [] d h = refl
empty_at (x ∷ l) d h = absurd (omega arith)

module _ (s : List ℕ) (times m : ℕ) (wide : Bool) (k : Times s times m wide) where
  -- with no entry every time is 0
  pub no_entry : m ≡ 0 → (o : ℕ) → pos 0 ≡ time_of s o
  no_entry e o =
      let none : time_count s ≡ 0 = sym k.count ∙ e in
      sym (entry_0_decides s o (λ j a b. absurd (omega arith)) ∙ empty_at (times_of s) (pos 0) (length_times s ∙ none))

  module _ (some : 0 < m) (o number position time : ℕ) (e : EntryAt s number position time) (reached : 0 < number → position ≤ o) where
    -- the last entry gives its time
    pub time_of_last : m ≤ number + 1 → unbiased time ≡ time_of s o
    time_of_last h = tells s times m wide k some o number position time e reached (λ j a b. absurd (omega (arith, k.count)))

    -- so does one before an entry that lies above the change
    pub time_found : (n p t : ℕ) → EntryAt s n p t → n ≡ number + 1 → o < p → unbiased time ≡ time_of s o
    time_found n p t next q above = tells s times m wide k some o number position time e reached later
      where
        later : (j : ℕ) → number < j → j < time_count s → o < get_or (positions_of s) j 0
        later j a b =
            let here = next.position_is in
            elim (ℕ_discrete j n) [
              | yes z ↦ rw (z, ← here) above
              | no z ↦ (let up = positions_never_fall s n j (omega arith) b in omega arith)
            ]

-- every time fits 64 bits
pub any_time_fits : (s : List ℕ) (times m : ℕ) (wide : Bool) → Times s times m wide → (o : ℕ) → mag (time_of s o) < bias
any_time_fits s times m wide k o =
    elim (ℕ_discrete m 0) [
      | yes e ↦ rw (← no_entry s times m wide k e o) (omega arith)
      | no n ↦ (let some : 0 < m = omega arith in
          let d = decider s o (some_entry s times m wide k some) in
          time_mag s (table s times m wide k some) o d.0 d.1)
    ]

-- ---- the limit of a time

module _ (s : List ℕ) (times m : ℕ) (wide : Bool) (k : Times s times m wide) (t : ℕ) (fits : t < 18446744073709551616) where
  -- a time compared with t, with the bias
  compared : (z : ℤ) → mag z < bias → le_z z (unbiased t) ≡ leb (biased z) t
  compared z f = let b = biased_unbiased t fits in le_z_biased z (unbiased t) f b.0 ∙ rw b.1

  -- no entry: every time is 0
  module _ (none : m ≡ 0) where
    zero_compared : (o : ℕ) → le_z (time_of s o) (unbiased t) ≡ leb bias t
    zero_compared o = rw (← no_entry s times m wide k none o) (compared (pos 0) (omega arith))

    pub zero_later : t < bias → Limit s (unbiased t) 0
    zero_later h = record { below = λ o g. zero_compared o ∙ lt-leb bias t h ∙ sym (le-ltb o 0 (omega arith)) }

    pub zero_reached : bias ≤ t → Limit s (unbiased t) (length s)
    zero_reached h = record { below = λ o g. zero_compared o ∙ le-leb bias t h ∙ sym (lt-ltb o (length s) g) }

  module _ (some : 0 < m) where
    -- the time of a change is that of an entry
    entry_compared : (o i : ℕ) → Decides s o i → le_z (time_of s o) (unbiased t) ≡ leb (get_or (biased_times s) i 0) t
    entry_compared o i d =
        let a = table s times m wide k some in
        compared (time_of s o) (time_mag s a o i d) ∙ rw (biased_time s a o i d)

    times_rise : (i j : ℕ) → i ≤ j → j < time_count s → get_or (biased_times s) i 0 ≤ get_or (biased_times s) j 0
    times_rise i j l h =
        elim (ℕ_discrete i j) [
          | yes e ↦ rw e (omega arith)
          | no n ↦ times_never_fall s (table s times m wide k some) (some_entry s times m wide k some) i j (omega arith) h
        ]

    positions_rise : (i j : ℕ) → i ≤ j → j < time_count s → get_or (positions_of s) i 0 ≤ get_or (positions_of s) j 0
    positions_rise i j l h = elim (ℕ_discrete i j) [ yes e ↦ rw e (omega arith) | no n ↦ positions_never_fall s i j (omega arith) h ]

    some_decider : (o : ℕ) → (i : ℕ) × Decides s o i
    some_decider o = decider s o (some_entry s times m wide k some)

    -- entry 0 is later: so is every change
    pub first_later : (number position x : ℕ) → EntryAt s number position x → number ≡ 0 → t < x → Limit s (unbiased t) 0
    first_later number position x e z h = record { below = λ o g. later o (some_decider o).0 (some_decider o).1 ∙ sym (le-ltb o 0 (omega arith)) }
      where
        later : (o i : ℕ) → Decides s o i → le_z (time_of s o) (unbiased t) ≡ false
        later o i d =
            let up = times_rise number i (omega arith) d.within in
            entry_compared o i d ∙ lt-leb (get_or (biased_times s) i 0) t (omega (arith, e.time_is))

    module _ (number position x : ℕ) (e : EntryAt s number position x) (h : x ≤ t) where
      -- an entry up to this one is not later
      reached : (o i : ℕ) → Decides s o i → i ≤ number → le_z (time_of s o) (unbiased t) ≡ true
      reached o i d l =
          let up = times_rise i number l e.within in
          entry_compared o i d ∙ le-leb (get_or (biased_times s) i 0) t (omega (arith, e.time_is))

      -- it is the last
      pub no_limit : m ≤ number + 1 → Limit s (unbiased t) (length s)
      no_limit last = record { below = λ o g. low o (some_decider o).0 (some_decider o).1 ∙ sym (lt-ltb o (length s) g) }
        where
          low : (o i : ℕ) → Decides s o i → le_z (time_of s o) (unbiased t) ≡ true
          low o i d = reached o i d (omega (arith, d.within, k.count))

      -- the one after it is later: its position is the limit
      pub limit_found : (n p y : ℕ) → EntryAt s n p y → n ≡ number + 1 → t < y → Limit s (unbiased t) p
      limit_found n p y next q later = record { below = λ o g. side o (some_decider o).0 (some_decider o).1 }
        where
          side : (o i : ℕ) → Decides s o i → le_z (time_of s o) (unbiased t) ≡ ltb o p
          side o i d =
              elim (dec_le i number) [
                | yes l ↦ (let under : o < p = rw (← next.position_is) at (d.later n (omega arith) next.within) in
                    reached o i d l ∙ sym (lt-ltb o p under))
                | no l ↦ (let over = positions_rise n i (omega arith) d.within in
                    let at = d.reached (omega arith) in
                    let up = times_rise n i (omega arith) d.within in
                    let above : p ≤ o = omega (arith, next.position_is) in
                    entry_compared o i d ∙ lt-leb (get_or (biased_times s) i 0) t (omega (arith, next.time_is)) ∙ sym (le-ltb o p above))
              ]

-- ---- the way down a chain

-- the delta of a readable change lies in the file
head_readable : {s : List ℕ} {o : ℕ} {os : List ℕ} → Readable s (o ∷ os) → (o < length s) × (data_at s o ≤ length s)
head_readable (change a b r) = (a, b)

-- the changes after a readable one
tail_readable : {s : List ℕ} {o : ℕ} {os : List ℕ} → Readable s (o ∷ os) → Readable s os
tail_readable (change a b r) = r

-- the latest change of a chain is no higher than its start
latest_within : (k : ℕ) (s : List ℕ) (t : ℤ) (o : ℕ) → latest_at s t (chain_within k s o) ≤ o
unfolding latest_at chain_within
latest_within zero s t o = omega arith
latest_within (suc k) s t o =
    let ih : latest_at s t (chain_within k s (previous_of s o)) ≤ previous_of s o = latest_within k s t (previous_of s o) in
    elim (ℕ_discrete o 0) [
      | yes e ↦ rw (eq-eqb o 0 e) (omega arith)
      | no n ↦ (let l : previous_of s o < o = previous_lt s o (omega arith) in
          simp (ne_eqb o 0 n) (on_test (le_z (time_of s o) t) (λ q. rw q (omega arith)) (λ q. rw q (omega arith))))
    ]

-- the same of a whole chain
latest_le : (s : List ℕ) (t : ℤ) (o : ℕ) → latest_at s t (chain_of s o) ≤ o
unfolding chain_of
latest_le s t o = latest_within o s t o

-- a change with a time of at most t, above the others, is the latest
latest_taken : (s : List ℕ) (t : ℤ) (o : ℕ) (os : List ℕ) → le_z (time_of s o) t ≡ true → latest_at s t os ≤ o → o ≡ latest_at s t (o ∷ os)
unfolding latest_at
latest_taken s t o os e h = rw e (omega arith)

-- a change with a later time does not count
latest_passed : (s : List ℕ) (t : ℤ) (o : ℕ) (os : List ℕ) → le_z (time_of s o) t ≡ false → latest_at s t os ≡ latest_at s t (o ∷ os)
unfolding latest_at
latest_passed s t o os e = rw e

-- ---- an offset that was looked for

-- of none
pub found_none : {n : ℕ} → 0 ≡ n → None ≡ found_at n
unfolding found_at
found_none e = rw (← e)

-- of a change
pub found_some : {o n : ℕ} → (o ≡ 0 → ⊥) → o ≡ n → Some o ≡ found_at n
unfolding found_at
found_some {o} n e = rw (← e) (simp (ne_eqb o 0 n))

-- one that was found is that of a change
pub found_is : {n o : ℕ} → found_at n ≡ Some o → (o ≡ n) × (n ≡ 0 → ⊥)
unfolding found_at
found_is {n} {o} e =
    on_zero n (λ z. absurd (none-some o (simp (eq-eqb n 0 z) at e)))
    (λ p. let some : n ≡ 0 → ⊥ = omega arith in (sym (same_Some n o (simp (ne_eqb n 0 some) at e)), some))

-- as a number again
pub found_number : {o : Option ℕ} {n : ℕ} → o ≡ found_at n → unwrap_or o 0 ≡ n
unfolding found_at
found_number {o} {n} e = on_zero n (λ z. rw e (simp (eq-eqb n 0 z) (sym z))) (λ p. let some : n ≡ 0 → ⊥ = omega arith in rw e (simp (ne_eqb n 0 some)))

-- where none was found it is 0
pub none_found : {n : ℕ} → found_at n ≡ None → n ≡ 0
unfolding found_at
none_found {n} e = on_zero n (λ z. z) (λ p. let some : n ≡ 0 → ⊥ = omega arith in absurd (none-some n (sym (simp (ne_eqb n 0 some) at e))))

-- ---- the first change below a limit

-- the first change below the limit P from o on is the first from `from` on; `visited` changes lie above o, and with those that are visited from o on they are all
pub record Falling (s : List ℕ) (P from o visited : ℕ) : Type 0 where
  pub readable : Readable s (chain_of s o)
  pub left : first_below P (chain_of s o) ≡ first_below P (chain_of s from)
  pub counted : visited + visited_to P (chain_of s o) ≡ visited_to P (chain_of s from)
  pub above : visited + o ≤ from

-- at the start of the chain
pub falling_begun : (s : List ℕ) (P from : ℕ) → Readable s (chain_of s from) → Falling s P from from 0
falling_begun s P from r = record { readable = r; left = refl; counted = omega arith; above = omega arith }

module _ (s : List ℕ) (P from o visited : ℕ) (w : Falling s P from o visited) where
  -- the chain ends
  pub chain_ended : o ≡ 0 → (None ≡ found_at (first_below P (chain_of s from))) × (visited ≡ visited_to P (chain_of s from))
  unfolding first_below visited_to
  chain_ended e =
      let counted : visited + 0 ≡ visited_to P (chain_of s from) = rw (e, chain_none s) at w.counted in
      (found_none (rw (e, chain_none s) at w.left), omega (arith, counted))

  module _ (n : o ≡ 0 → ⊥) where
    -- the change at o, and those before it
    more : chain_of s o ≡ o ∷ chain_of s (previous_of s o)
    more = chain_more s o (omega arith)

    -- its delta can be read
    pub change_readable : (o < length s) × (data_at s o ≤ length s)
    change_readable = head_readable (rw more at w.readable)

    -- a change below the limit
    pub first_below_lem : o < P → (Some o ≡ found_at (first_below P (chain_of s from))) × (visited + 1 ≡ visited_to P (chain_of s from))
    unfolding first_below visited_to
    first_below_lem h = (found_some n (simp (more, lt-ltb o P h) at w.left), simp (more, lt-ltb o P h) at w.counted)

    -- a change that is not below it
    pub falling_turn : P ≤ o → (p : ℕ) → p ≡ previous_of s o → Falling s P from p (visited + 1)
    unfolding first_below visited_to
    falling_turn h p e =
        let counted : visited + suc (visited_to P (chain_of s (previous_of s o))) ≡ visited_to P (chain_of s from) = simp (more, le-ltb o P h) at w.counted in
        let lt = previous_lt s o (omega arith) in
        record {
          readable = rw e (tail_readable (rw more at w.readable));
          left = rw e (simp (more, le-ltb o P h) at w.left);
          counted = rw e (omega (arith, counted));
          above = omega (arith, w.above);
        }

-- ---- the latest change at a time is the first below its limit

module _ (s : List ℕ) (t : ℤ) (P : ℕ) (limit : Limit s t P) where
  -- what is found on the chain from o on
  abbrev Latest : ℕ → Type 0
  Latest o = (first_below P (chain_of s o) ≡ latest_at s t (chain_of s o)) × (visited_to P (chain_of s o) ≡ visited_in s t (chain_of s o))

  none : (o : ℕ) → o ≡ 0 → Latest o
  unfolding first_below visited_to latest_at
  none o e = rw (e, chain_none s) (refl, sym (none_visited s t))

  module _ (o : ℕ) (some : 0 < o) (inside : o < length s) where
    -- a change below the limit, and so are all that follow
    low_found : o < P → Latest o
    unfolding first_below visited_to
    low_found h = (first ∙ found, counted ∙ sym (visited_answered s t o some found low))
      where
        low : (p : ℕ) → p ≤ o → le_z (time_of s p) t ≡ true
        low p l = limit.below p (omega arith) ∙ lt-ltb p P (omega arith)

        found : o ≡ latest_at s t (chain_of s o)
        found =
            let le = latest_le s t (previous_of s o) in
            let lt = previous_lt s o some in
            rw (chain_more s o some) (latest_taken s t o (chain_of s (previous_of s o)) (low o (omega arith)) (omega arith))

        first : first_below P (chain_of s o) ≡ o
        first = rw (chain_more s o some) (simp (lt-ltb o P h))

        counted : visited_to P (chain_of s o) ≡ 1
        counted = rw (chain_more s o some) (simp (lt-ltb o P h))

    -- a change that is not below it
    high_passed : P ≤ o → Latest (previous_of s o) → Latest o
    unfolding first_below visited_to
    high_passed h l =
        let late : le_z (time_of s o) t ≡ false = limit.below o inside ∙ le-ltb o P h in
        let passed = latest_passed s t o (chain_of s (previous_of s o)) late in
        let count = visited_passed s t o (chain_of s (previous_of s o)) late in
        rw (chain_more s o some) (simp (le-ltb o P h) (l.0 ∙ passed, ap suc l.1 ∙ sym count))

  pub latest_below : (k o : ℕ) → o ≤ k → Readable s (chain_of s o) → Latest o
  latest_below zero o h r = none o (omega arith)
  latest_below (suc k) o h r =
      on_zero o (none o)
      (λ some. let parts : Readable s (o ∷ chain_of s (previous_of s o)) = rw (chain_more s o some) at r in
      let inside = (head_readable parts).0 in
      let lt = previous_lt s o some in
      elim (dec_le P o) [
        | yes l ↦ high_passed o some inside l (latest_below k (previous_of s o) (omega arith) (tail_readable parts))
        | no l ↦ low_found o some inside (omega arith)
      ])

-- by one whose limit was found
pub latest_found : (s : List ℕ) (t : ℤ) (P from : ℕ) (offset : Option ℕ) (visited : ℕ) → Limit s t P → Readable s (chain_of s from)
    → (offset ≡ found_at (first_below P (chain_of s from))) × (visited ≡ visited_to P (chain_of s from))
    → (offset ≡ found_at (latest_at s t (chain_of s from))) × (visited ≡ visited_in s t (chain_of s from))
latest_found s t P from offset visited limit r found =
    let l = latest_below s t P limit from from (omega arith) r in
    (found.0 ∙ ap found_at l.0, found.1 ∙ l.1)
