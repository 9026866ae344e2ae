-- Laws of changes and chains.
use Rattle.std.specs.Prelude.{ℕ, zero, suc, ◌+◌, ◌≤◌, ◌<◌, ◌≡◌, refl, true, ◌&&◌, List, [], ◌∷◌}
use Rattle.std.proofs.Common.{ap, lit<, arith}
use Rattle.std.proofs.Math.Decide.{ℕ_discrete}
use borrow.Author.Tests.{eq-eqb, ne_eqb, leb-true, ltb-true}
use Rattle.lxt_format.specs.Basics.{all, first_fault}
use Rattle.lxt_format.specs.BasicsLaws.{and_both, kept, neither, fault_next, fault_here}
use Rattle.lxt_format.specs.Changes.{Signal, delta_size, data_at, previous_of, clean_at, change_end, fault_at, chain_within, chain_of, chain_fault, chain_clean, Sound}

-- ---- the previous change

-- in every file, accepted or not
pub previous_le : (s : List ℕ) (o : ℕ) → previous_of s (suc o) ≤ o
unfolding previous_of
previous_le s o = omega arith

pub previous_lt : (s : List ℕ) (o : ℕ) → 0 < o → previous_of s o < o
unfolding previous_of
previous_lt s o h = omega arith

-- ---- chains

chain_empty : (k : ℕ) (s : List ℕ) → chain_within k s 0 ≡ []
unfolding chain_within
chain_empty zero s = refl
chain_empty (suc k) s = refl

-- any bound that is large enough gives the same
chain_same : (j k : ℕ) (s : List ℕ) (o : ℕ) → o ≤ j → o ≤ k → chain_within j s o ≡ chain_within k s o
unfolding chain_within
chain_same zero k s o a b = let e : o ≡ 0 = omega arith in rw (e, chain_empty k s)
chain_same (suc j) zero s o a b = let e : o ≡ 0 = omega arith in rw e
chain_same (suc j) (suc k) s o a b =
    elim (ℕ_discrete o 0) [
      | yes e ↦ rw (eq-eqb o 0 e)
      | no n ↦ (let p = previous_lt s o (omega arith) in
          simp (ne_eqb o 0 n) (ap (λ (l : List ℕ). o ∷ l) (chain_same j k s (previous_of s o) (omega arith) (omega arith))))
    ]

pub chain_none : (s : List ℕ) → chain_of s 0 ≡ []
unfolding chain_of chain_within
chain_none s = refl

pub chain_more : (s : List ℕ) (o : ℕ) → 0 < o → chain_of s o ≡ o ∷ chain_of s (previous_of s o)
unfolding chain_of chain_within
chain_more s zero h = absurd (omega arith)
chain_more s (suc o) h =
    let n : suc o ≡ 0 → ⊥ = omega arith in
    simp (ne_eqb (suc o) 0 n)
    (ap (λ (l : List ℕ). suc o ∷ l) (chain_same o (previous_of s (suc o)) s (previous_of s (suc o)) (previous_le s o) (omega arith)))

-- ---- faults and padding of a chain: those of its newest change, then those of the rest

module _ (s : List ℕ) (g : Signal) where
  pub faults_none : chain_fault s g 0 ≡ 0
  unfolding chain_fault first_fault
  faults_none = rw (chain_none s)

  pub faults_next : (o : ℕ) → 0 < o → fault_at s g o ≡ 0 → chain_fault s g o ≡ chain_fault s g (previous_of s o)
  unfolding chain_fault
  faults_next o h e = rw (chain_more s o h) (fault_next _ _ e)

  pub faults_here : (o : ℕ) → 0 < o → (fault_at s g o ≡ 0 → ⊥) → chain_fault s g o ≡ fault_at s g o
  unfolding chain_fault
  faults_here o h n = rw (chain_more s o h) (fault_here _ _ n)

  pub clean_none : chain_clean s g 0 ≡ true
  unfolding chain_clean all
  clean_none = rw (chain_none s)

  pub clean_next : (o : ℕ) → 0 < o → chain_clean s g o ≡ (clean_at s g o && chain_clean s g (previous_of s o))
  unfolding chain_clean all
  clean_next o h = rw (chain_more s o h)

  pub sound : (o : ℕ) → fault_at s g o ≡ 0 → Sound s g o
  unfolding fault_at
  sound o h =
      let a = neither _ _ h in
      let b = neither _ _ a.1 in
      let c = neither _ _ b.1 in
      let d = neither _ _ c.1 in
      let start = and_both _ _ (kept 15 _ (lit< tt) a.0) in
      let byte = and_both _ _ (kept 16 _ (lit< tt) b.0) in
      record {
        starts = leb-true g.from o start.0;
        before = ltb-true o g.end start.1;
        top = ltb-true _ _ byte.0;
        command = byte.1;
        ends = leb-true _ _ (kept 15 _ (lit< tt) c.0);
        data' = kept 16 _ (lit< tt) d.0;
        previous = kept 15 _ (lit< tt) d.1;
      }

-- a change takes its command byte and a delta byte at least
pub data_after : (s : List ℕ) (o : ℕ) → o + 2 ≤ data_at s o
unfolding data_at delta_size
data_after s o = omega arith

pub end_after : (s : List ℕ) (g : Signal) (o : ℕ) → o + 2 ≤ change_end s g o
unfolding change_end
end_after s g o = omega (arith, data_after s o)
