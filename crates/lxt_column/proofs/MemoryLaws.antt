-- The laws of what is remembered of roots.
use Prim.Native.Nat.{ℕ, zero, suc, ◌+◌, ◌*◌, ◌/◌, ◌%◌, ◌≤◌, ◌<◌}
use mathlib.Core.Path.{◌≡◌, ◌∙◌, ap}
use mathlib.Core.List.{List}
use lib.ListN.{length, get_or, set, replicate, length-set, length-replicate, get_or-replicate}
use lib.Seq.{get_or-set_same, get_or-set_other}
use lib.Dec.{eqb, lit≤}
use native.Mathlib.Omega.{arith}
use native.Mathlib.Decide.{ℕ_discrete, dec_le}
use borrow.Author.Tests.{lt-ltb, le-ltb, eq-eqb, ne_eqb}
use Rattle.lxt_format.specs.BasicsLaws.{on_zero}
use Rattle.lxt_format.specs.Geometry.{sync_of}
use Rattle.lxt_format.specs.Changes.{previous_of, chain_of}
use Rattle.lxt_format.proofs.ChangesLaws.{previous_lt, chain_none, chain_more}
use Rattle.std.specs.Prelude.{Option, not, unwrap_or}
use Rattle.std.specs.Bool.{then_some}
use Rattle.lxt_values.specs.Times.{found_at, first_below, visited_to}
use Rattle.lxt_values.proofs.TimeLaws.{found_number}
use Rattle.lxt_column.specs.Listing.{unknown, Forgotten, Remembered}

-- ---- what is found on a chain that starts at o, and how many changes are visited, is at most o

module _ (s : List ℕ) (end : ℕ) where
  abbrev Most : ℕ → Type 0
  Most o = (first_below end (chain_of s o) ≤ o) × (visited_to end (chain_of s o) ≤ o)

  most_none : (o : ℕ) → o ≡ 0 → Most o
  unfolding first_below visited_to
  most_none o e = rw (e, chain_none s) (omega arith, omega arith)

  most_turn : (o : ℕ) → 0 < o → Most (previous_of s o) → Most o
  unfolding first_below visited_to
  most_turn o some rest =
      let lower = previous_lt s o some in
      rw (chain_more s o some)
      (elim (dec_le end o) [
        | yes h ↦ simp (le-ltb o end h) (omega (arith, rest.0), omega (arith, rest.1))
        | no h ↦ (let low : o < end = omega arith in
            simp (lt-ltb o end low) (omega arith, omega arith))
      ])

  most_within : (k o : ℕ) → o ≤ k → Most o
  most_within zero o h = most_none o (omega arith)
  most_within (suc k) o h =
      on_zero o (most_none o)
      (λ some. let lower = previous_lt s o some in
      most_turn o some (most_within k (previous_of s o) (omega arith)))

  pub found_most : (o : ℕ) → (first_below end (chain_of s o) ≤ o) × (visited_to end (chain_of s o) ≤ o)
  found_most o = most_within o o (omega arith)

-- ---- the table

pub forgotten : Forgotten (replicate 4096 unknown)
forgotten =
    let long = length-replicate {A = ℕ} 4096 unknown in
    record { room = rw long (lit≤ tt); none = λ r below. get_or-replicate {A = ℕ} 4096 r unknown 0 (rw long at below) }

pub nothing_known : (s : List ℕ) (end : ℕ) (known : List ℕ) → Forgotten known → Remembered s end known
nothing_known s end known w = record { room = w.room; right = λ r below n. absurd (n (w.none r below)) }

-- the offset and the number of changes in one number, apart again
apart : (o v : ℕ) → v < 0x1_0000_0000 → ((o * 0x1_0000_0000 + v) / 0x1_0000_0000 ≡ o) × ((o * 0x1_0000_0000 + v) % 0x1_0000_0000 ≡ v)
apart o v h = (omega arith, omega arith)

pub remember : (s : List ℕ) (end : ℕ) (known : List ℕ) → Remembered s end known → (root : ℕ) → root < length known
    → (o v : ℕ) → o ≡ first_below end (chain_of s (sync_of s root)) → v ≡ visited_to end (chain_of s (sync_of s root)) → v < 0x1_0000_0000
    → Remembered s end (set known root (o * 0x1_0000_0000 + v))
remember s end known w root below o v eo ev small =
    let word : ℕ = o * 0x1_0000_0000 + v in
    let long = length-set known root word in
    record {
      room = rw long w.room;
      right = λ r inside n.
          elim (ℕ_discrete r root) [
            | yes e ↦ rw (e, get_or-set_same known root word 0 below) ((apart o v small).0 ∙ eo, (apart o v small).1 ∙ ev)
            | no other ↦ rw (get_or-set_other known root r word 0 other)
                (w.right r (rw long at inside) (rw (get_or-set_other known root r word 0 other) at n))
          ];
    }

-- an offset that is kept as a number
offset_again : (n : ℕ) → then_some (not (eqb n 0)) n ≡ found_at n
unfolding found_at
offset_again n = on_zero n (λ z. simp (eq-eqb n 0 z)) (λ p. let some : n ≡ 0 → ⊥ = omega arith in simp (ne_eqb n 0 some))

-- what is remembered is answered
pub remembered : {s : List ℕ} {end : ℕ} {known : List ℕ} → Remembered s end known → {root : ℕ} → root < length known → (get_or known root 0 ≡ unknown → ⊥)
    → ((then_some (not (eqb (get_or known root 0 / 0x1_0000_0000) 0)) (get_or known root 0 / 0x1_0000_0000) ≡ found_at (first_below end (chain_of s (sync_of s root))))
    × (get_or known root 0 % 0x1_0000_0000 ≡ visited_to end (chain_of s (sync_of s root))))
    × Remembered s end known
remembered {known = known} w {root} below n =
    let all = w.right root below n in
    ((offset_again (get_or known root 0 / 0x1_0000_0000) ∙ ap found_at all.0, all.1), w)

-- a chain that starts at a number of 32 bits
module _ (s : List ℕ) (end from : ℕ) (small : from < 0x1_0000_0000) (offset : Option ℕ) (v : ℕ) (found : (offset ≡ found_at (first_below end (chain_of s from))) × (v ≡ visited_to end (chain_of s from)))
    (o : ℕ) (number : o ≡ unwrap_or offset 0) where
  offset_is : o ≡ first_below end (chain_of s from)
  offset_is = number ∙ found_number found.0

  pub visited_small : v < 0x1_0000_0000
  visited_small = omega (arith, found.1, (found_most s end from).1)

  pub offset_fits : o * 0x1_0000_0000 < 0x1_0000_0000_0000_0000
  offset_fits = omega (arith, offset_is, (found_most s end from).0)

  pub word_fits : o * 0x1_0000_0000 + v < 0x1_0000_0000_0000_0000
  word_fits = omega (arith, offset_is, (found_most s end from).0, visited_small)

-- what was found is answered, and remembered
pub followed : {s : List ℕ} {end : ℕ} {known : List ℕ} → Remembered s end known → {root : ℕ} → root < length known → {from : ℕ} → from ≡ sync_of s root → from < 0x1_0000_0000
    → {offset : Option ℕ} {v : ℕ} → (offset ≡ found_at (first_below end (chain_of s from))) × (v ≡ visited_to end (chain_of s from)) → {o : ℕ} → o ≡ unwrap_or offset 0
    → ((offset ≡ found_at (first_below end (chain_of s (sync_of s root)))) × (v ≡ visited_to end (chain_of s (sync_of s root)))) × Remembered s end (set known root (o * 0x1_0000_0000 + v))
followed {s} {end} {known} w {root} below {from} e small {offset} {v} found {o} number =
    let here : (offset ≡ found_at (first_below end (chain_of s (sync_of s root)))) × (v ≡ visited_to end (chain_of s (sync_of s root))) = rw e at found in
    (here, remember s end known w root below o v (number ∙ found_number here.0) here.1 (visited_small s end from small offset v found o number))
