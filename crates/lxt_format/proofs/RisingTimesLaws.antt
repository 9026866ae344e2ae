-- What a file keeps that the rule of 13 before paper 02, Ask 2, accepts: the proofs of the claims of RisingTimes.
use Rattle.std.specs.Prelude.{ℕ, ◌≤◌, ◌<◌, ◌≡◌, refl, Bool, true, false, ◌&&◌, List, get_or, drop, pos, leb, eqb}
use Rattle.std.proofs.Common.{sym, ◌∙◌, arith, ne_eqb}
use Rattle.std.proofs.Math.Path.{fun_ext}
use Rattle.std.specs.Int.Signed.{le_z}
use Rattle.std.proofs.Math.Decide.{dec_le, ℕ_discrete}
use Rattle.lxt_format.specs.Basics.{◌unless◌, ◌or_else◌, all}
use Rattle.lxt_format.specs.BasicsLaws.{on_test, and_both, neither}
use Rattle.lxt_format.specs.Sections.{length_allowed, starts_right, ends_right, listing_of, nothing_compressed, times_once, sections_present, bodies_inside, count_allowed, facility_count, time_count}
use Rattle.lxt_format.specs.Names.{names_allowed}
use Rattle.lxt_format.specs.Geometry.{geometries_allowed, aliases_allowed}
use Rattle.lxt_format.specs.Times.{position_deltas, time_deltas, positions_of, table_allowed, times_allowed, time_of}
use Rattle.lxt_format.proofs.TimesLaws.{sums_apart, positions_never_fall, length_position_deltas, Decides, entry_0_decides, decided, decider}
use Rattle.lxt_format.specs.Reals.{real_test_allowed}
use Rattle.lxt_format.specs.Judge.{tables_refusal_by, tables_refusal, file_refusal}
use Rattle.lxt_format.specs.RisingTimes.{rising_table_allowed, rising_times_allowed, rising_tables_refusal, rising_refusal, Gives, reached, before_all, KeepsRefusals, KeepsTimes, ReadsTimes, KeepsAnswers}

-- ---- refusals

-- a table that the old rule allows is allowed
table_stays : (s : List ℕ) → rising_table_allowed s ≡ true → table_allowed s ≡ true
unfolding rising_table_allowed
table_stays s h =
    let positions : Bool = all (leb 1) (drop 1 (position_deltas s)) in
    let times : Bool = all (le_z (pos 1)) (drop 1 (time_deltas s)) in
    (and_both times (table_allowed s) (and_both positions (times && table_allowed s) h).1).1

times_stay : (s : List ℕ) → rising_times_allowed s ≡ true → times_allowed s ≡ true
unfolding rising_times_allowed times_allowed
times_stay s = on_test (eqb (time_count s) 0) (λ e. rw e (λ h. h)) (λ e. rw e (table_stays s))

-- a refusal by the old rule and by the new one: the same unless it was 13; and where it was 0, the old rule held
record Keeps (rule : Bool) (old new : ℕ) : Type 0 where
  same : (old ≡ 13 → ⊥) → new ≡ old
  held : old ≡ 0 → rule ≡ true

-- 13 and what follows, where the new rule holds wherever the old one does
loosened : (old new : Bool) (rest : ℕ) → (old ≡ true → new ≡ true) → Keeps old (13 unless old or_else rest) (13 unless new or_else rest)
loosened true new rest h = record { same = λ n. rw (h refl); held = λ z. refl }
loosened false new rest h = record { same = λ n. absurd (n refl); held = λ z. absurd (omega arith) }

-- a check that both make before it
after : (a : ℕ) {rule : Bool} {old new : ℕ} → Keeps rule old new → Keeps rule (a or_else old) (a or_else new)
after a {old = old} k =
    record {
      same = λ n. on_test (eqb a 0) (λ q. rw q (k.same (rw q at n))) (λ q. rw q);
      held = λ z. k.held (neither a old z).1;
    }

tables_keep : (s : List ℕ) → Keeps (rising_times_allowed s) (rising_tables_refusal s) (tables_refusal s)
unfolding tables_refusal_by tables_refusal rising_tables_refusal
tables_keep s =
    let from13 = loosened (rising_times_allowed s) (times_allowed s) (14 unless real_test_allowed s) (times_stay s) in
    let from10 = after (10 unless names_allowed s) (after (11 unless geometries_allowed s) (after (12 unless aliases_allowed s) from13)) in
    let from7 = after (7 unless sections_present s) (after (8 unless bodies_inside s) (after (9 unless count_allowed (facility_count s)) from10)) in
    let from4 = after (4 unless (listing_of s).listed) (after (5 unless nothing_compressed s) (after (6 unless times_once s) from7)) in
    after (1 unless length_allowed s) (after (2 unless starts_right s) (after (3 unless ends_right s) from4))

pub keeps_refusals : KeepsRefusals
unfolding file_refusal rising_refusal
keeps_refusals s n =
    let e : tables_refusal s ≡ rising_tables_refusal s = (tables_keep s).same (λ z. n (rw z)) in
    (rw e, e)

-- ---- times

-- positions rise, so that no two entries share one
rising : (s : List ℕ) → rising_table_allowed s ≡ true → (i j : ℕ) → i < j → j < time_count s → get_or (positions_of s) i 0 < get_or (positions_of s) j 0
unfolding rising_table_allowed positions_of
rising s h i j k l =
    let count = length_position_deltas s in
    let apart = sums_apart 1 0 (position_deltas s) (and_both (all (leb 1) (drop 1 (position_deltas s))) _ h).0 i j k (omega arith) in
    omega arith

pub keeps_times : KeepsTimes
unfolding rising_times_allowed
keeps_times s h o i (before_all e above) = rw e (entry_0_decides s o (λ j a b. above j b))
keeps_times s h o i (reached k l highest) = decided s o i (record { within = k; reached = λ q. l; later = later })
  where
    table : rising_table_allowed s ≡ true
    table = let n : time_count s ≡ 0 → ⊥ = λ e. absurd (omega arith) in simp (ne_eqb (time_count s) 0 n) at h

    later : (j : ℕ) → i < j → j < time_count s → o < get_or (positions_of s) j 0
    later j a b =
        let up = rising s table i j a b in
        elim (dec_le (get_or (positions_of s) j 0) o) [
          | yes q ↦ (let down = highest j b q in absurd (omega arith))
          | no q ↦ omega arith
        ]

-- the entry that gives a time may give it by paper 01's words
gives : (s : List ℕ) (o i : ℕ) → Decides s o i → Gives s o i
gives s o i d =
    elim (dec_le (get_or (positions_of s) i 0) o) [
      | yes q ↦ reached d.within q highest
      | no q ↦ before_all (first q) (above q)
    ]
  where
    highest : (j : ℕ) → j < time_count s → get_or (positions_of s) j 0 ≤ o → get_or (positions_of s) j 0 ≤ get_or (positions_of s) i 0
    highest j b r =
        elim (dec_le j i) [
          | yes q ↦ elim (ℕ_discrete j i) [ yes e ↦ rw e (omega arith) | no n ↦ positions_never_fall s j i (omega arith) d.within ]
          | no q ↦ (let up = d.later j (omega arith) b in absurd (omega arith))
        ]

    first : (get_or (positions_of s) i 0 ≤ o → ⊥) → i ≡ 0
    first q = elim (dec_le i 0) [ yes z ↦ omega arith | no z ↦ (let r = d.reached (omega arith) in absurd (omega arith)) ]

    above : (get_or (positions_of s) i 0 ≤ o → ⊥) → (j : ℕ) → j < time_count s → o < get_or (positions_of s) j 0
    above q j b = elim (ℕ_discrete j i) [ yes e ↦ rw e (omega arith) | no n ↦ d.later j (omega (arith, first q)) b ]

pub reads_times : ReadsTimes
reads_times s o =
    elim (ℕ_discrete (time_count s) 0) [
      | yes e ↦ (0, (before_all refl (λ j b. absurd (omega arith)), entry_0_decides s o (λ j a b. absurd (omega arith))))
      | no n ↦ (let d = decider s o (omega arith) in (d.0, (gives s o d.0 d.1, decided s o d.0 d.1)))
    ]

-- ---- answers

pub keeps_answers : KeepsAnswers
unfolding rising_refusal
keeps_answers s h time found A answer =
    let both = keeps_refusals s (λ e. omega arith) in
    let allowed = (tables_keep s).held (neither _ _ h).0 in
    let times : time_of s ≡ time = fun_ext (λ o. keeps_times s allowed o (found o).0 (found o).1.0 ∙ sym (found o).1.1) in
    rw (both.0, both.1, times)
