-- The changes of a chain without a fault: each is sound, and so is the latest at a time. The chain of a facility that is not refused is one.
use Prim.Native.Nat.{ℕ, max}
use Rattle.std.specs.Prelude.{◌≡◌, refl, ℤ, ltb, eqb}
use Rattle.std.proofs.Common.{◌∙◌, lit<, eqb-true, ltb-true}
use Rattle.std.proofs.Math.Bool.{true}
use Rattle.std.proofs.lemmas.Bool.{false≢true}
use mathlib.Core.List.{List, [], ◌∷◌, map}
use Rattle.std.specs.Int.Signed.{le_z}
use native.Mathlib.Omega.{arith}
use Rattle.std.proofs.Math.Decide.{dec_le}
use Rattle.lxt_format.specs.Basics.{◌unless◌, any, first_fault}
use Rattle.lxt_format.specs.BasicsLaws.{on_test, or_either, neither, kept}
use Rattle.lxt_format.specs.Sections.{facility_count}
use Rattle.lxt_format.specs.Geometry.{root_of, sync_of}
use Rattle.lxt_format.proofs.GeometryLaws.{root_below, root_no_alias}
use Rattle.lxt_format.specs.Times.{time_of}
use Rattle.lxt_format.specs.Changes.{Signal, fault_at, chain_of, chain_fault, Sound}
use Rattle.lxt_format.proofs.ChangesLaws.{sound}
use Rattle.lxt_format.specs.Values.{latest_at}
use Rattle.lxt_format.specs.Judge.{file_refusal, fault_from}
use Rattle.lxt_format.proofs.JudgeLaws.{passed, accepted, root_sound}
use Rattle.lxt_format.specs.Questions.{facility_refusal}

module _ (s : List ℕ) (g : Signal) where
  -- each change has no fault
  member_sound : (os : List ℕ) (o : ℕ) → first_fault (map (fault_at s g) os) ≡ 0 → any (eqb o) os ≡ true → fault_at s g o ≡ 0
  unfolding first_fault any
  member_sound [] o h e = absurd (false≢true e)
  member_sound (x ∷ os) o h e =
      let both = neither (fault_at s g x) (first_fault (map (fault_at s g) os)) h in
      let rest : any (eqb o) os ≡ true → fault_at s g o ≡ 0 = λ k. member_sound os o both.1 k in
      or_either (eqb o x) (any (eqb o) os) e (λ q. rw (eqb-true o x q) both.0) rest

  -- and so has the latest of them
  latest_sound : (t : ℤ) (os : List ℕ) → first_fault (map (fault_at s g) os) ≡ 0 → (latest_at s t os ≡ 0 → ⊥) → fault_at s g (latest_at s t os) ≡ 0
  unfolding first_fault latest_at
  latest_sound t [] h n = absurd (n refl)
  latest_sound t (o ∷ os) h n =
      let both = neither (fault_at s g o) (first_fault (map (fault_at s g) os)) h in
      let rest : (latest_at s t os ≡ 0 → ⊥) → fault_at s g (latest_at s t os) ≡ 0 = λ k. latest_sound t os both.1 k in
      on_test (le_z (time_of s o) t)
      (λ q. elim (dec_le o (latest_at s t os)) [
        | yes l ↦ (let e : max o (latest_at s t os) ≡ latest_at s t os = omega arith in
            let m : max o (latest_at s t os) ≡ 0 → ⊥ = rw q at n in
            rw (q, e) (rest (λ z. m (e ∙ z))))
        | no l ↦ (let e : max o (latest_at s t os) ≡ o = omega arith in rw (q, e) both.0)
      ])
      (λ q. rw q (rest (rw q at n)))

  module _ (from : ℕ) (h : chain_fault s g from ≡ 0) where
    -- a change on a chain without a fault is sound
    pub change_sound : (o : ℕ) → any (eqb o) (chain_of s from) ≡ true → Sound s g o
    unfolding chain_fault
    change_sound o e = sound s g o (member_sound (chain_of s from) o h e)

    -- and so is its latest at a time, where there is one
    pub latest_change_sound : (t : ℤ) → (latest_at s t (chain_of s from) ≡ 0 → ⊥) → Sound s g (latest_at s t (chain_of s from))
    unfolding chain_fault
    latest_change_sound t n = sound s g (latest_at s t (chain_of s from)) (latest_sound t (chain_of s from) h n)

-- the chain of a facility of an accepted file has no fault
pub facility_sound : (s : List ℕ) (f : ℕ) → facility_refusal s f ≡ 0 → fault_from s (root_of s f) (sync_of s (root_of s f)) ≡ 0
unfolding facility_refusal
facility_sound s f h =
    let asked = neither (file_refusal s) (18 unless ltb f (facility_count s)) h in
    let file = accepted s asked.0 in
    let below = ltb-true f (facility_count s) (kept 18 _ (lit< tt) asked.1) in
    let r = root_below s (passed s file.tables).aliases f below in
    root_sound s file.chains (root_of s f) r (root_no_alias s f r)
