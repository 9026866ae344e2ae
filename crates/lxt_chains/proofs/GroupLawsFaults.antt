-- The faults of groups: of a change and of a chain, and of two groups that become one.
use Prim.Native.Nat.{ℕ, zero, suc, ◌+◌, ◌*◌, ◌-◌, ◌/◌, ◌%◌, ◌≤◌, ◌<◌, max}
use native.Mathlib.Omega.{arith}
use native.Mathlib.Nat.{le_refl}
use native.Mathlib.Decide.{dec_le, ℕ_discrete}
use mathlib.Core.Path.{◌≡◌, sym, ap, ◌∙◌}
use mathlib.Core.Logic.{◌⊎◌, inl, inr, ⊎_elim}
use mathlib.Core.Bool.{true, not, false≢true}
use mathlib.Core.List.{List}
use lib.ListN.{length}
use lib.Dec.{eqb}
use borrow.Author.Tests.{eqb-true, eq-eqb, ne_eqb}
use Rattle.lxt_format.specs.BasicsLaws.{on_zero}
use Rattle.lxt_format.specs.Sections.{changes_from, end_of}
use Rattle.lxt_format.specs.Changes.{signal, previous_of, fault_at, chain_fault}
use Rattle.lxt_format.proofs.ChangesLaws.{previous_lt, faults_none, faults_next, faults_here, sound}
use Rattle.lxt_format.specs.declared.Kind.{Kind}
use Rattle.lxt_format.specs.declared.Kind.TheVariants.{Bits, Integer, Real, Text}
use Rattle.lxt_changes.proofs.Narrower.{narrower}
use Rattle.lxt_chains.specs.Groups.{has, width_as, group_signal, both_kinds, FaultyAt, GroupFault, Member}

-- ---- a chain of bits that has no fault at one width has none at a smaller one

narrow_within : (k : ℕ) (s : List ℕ) (C T width more o : ℕ) → T ≤ length s → o ≤ k → chain_fault s (signal C T Bits (width + more)) o ≡ 0
    → chain_fault s (signal C T Bits width) o ≡ 0
narrow_within zero s C T width more o within b h = let e : o ≡ 0 = omega arith in rw e (faults_none s (signal C T Bits width))
narrow_within (suc k) s C T width more o within b h =
    on_zero o (λ e. rw e (faults_none s (signal C T Bits width)))
    (λ q.
    (let here : fault_at s (signal C T Bits (width + more)) o ≡ 0 =
    elim (ℕ_discrete (fault_at s (signal C T Bits (width + more)) o) 0) [
      | yes e ↦ e
      | no n ↦ absurd (n (sym (faults_here s (signal C T Bits (width + more)) o q n) ∙ h))
    ] in
    let rest = narrow_within k s C T width more (previous_of s o) within (omega (arith, previous_lt s o q)) (sym (faults_next s (signal C T Bits (width + more)) o q here) ∙ h) in
    faults_next s (signal C T Bits width) o q (narrower s C T width more o within here) ∙ rest))

chain_wider : (s : List ℕ) (C T width wide o : ℕ) → T ≤ length s → width ≤ wide → (chain_fault s (signal C T Bits width) o ≡ 0 → ⊥)
    → chain_fault s (signal C T Bits wide) o ≡ 0 → ⊥
chain_wider s C T width wide o within h n z =
    let e : width + (wide - width) ≡ wide = omega arith in
    n (narrow_within o s C T width (wide - width) o within (le_refl o) (rw e z))

-- ---- the kinds of two groups

first_bit : (x y z : ℕ) → x < 2 → (x + (2 * y + 4 * z)) % 2 ≡ x
first_bit x y z a = omega arith

second_bit : (x y z : ℕ) → x < 2 → y < 2 → (x + (2 * y + 4 * z)) / 2 % 2 ≡ y
second_bit x y z a b = omega arith

third_bit : (x y z : ℕ) → x < 2 → y < 2 → z < 2 → (x + (2 * y + 4 * z)) / 4 % 2 ≡ z
third_bit x y z a b c = omega arith

-- of two bits the greater is 1 where one of them is
either_one : (x y : ℕ) → eqb (max x y) 1 ≡ true → (eqb x 1 ≡ true) ⊎ (eqb y 1 ≡ true)
either_one x y h =
    let e = eqb-true (max x y) 1 h in
    elim (dec_le x y) [ yes q ↦ inr (eq-eqb y 1 (omega arith)) | no q ↦ inl (eq-eqb x 1 (omega arith)) ]

one_left : (x y : ℕ) → y < 2 → eqb x 1 ≡ true → eqb (max x y) 1 ≡ true
one_left x y b h = let e = eqb-true x 1 h in eq-eqb (max x y) 1 (omega arith)

one_right : (x y : ℕ) → x < 2 → eqb y 1 ≡ true → eqb (max x y) 1 ≡ true
one_right x y b h = let e = eqb-true y 1 h in eq-eqb (max x y) 1 (omega arith)

some_width : (w : ℕ) → not (eqb w 0) ≡ true → 0 < w
some_width w h =
    on_zero w (λ e. absurd (false≢true (sym (ap not (eq-eqb w 0 e)) ∙ h))) (λ q. q)

pub width_some : (w : ℕ) → 0 < w → not (eqb w 0) ≡ true
width_some w h = rw (ne_eqb w 0 (omega arith))

module _ (a b : ℕ) where
  integers : both_kinds a b % 2 ≡ max (a % 2) (b % 2)
  unfolding both_kinds
  integers = first_bit (max (a % 2) (b % 2)) (max (a / 2 % 2) (b / 2 % 2)) (max (a / 4 % 2) (b / 4 % 2)) (omega arith)

  reals : both_kinds a b / 2 % 2 ≡ max (a / 2 % 2) (b / 2 % 2)
  unfolding both_kinds
  reals = second_bit (max (a % 2) (b % 2)) (max (a / 2 % 2) (b / 2 % 2)) (max (a / 4 % 2) (b / 4 % 2)) (omega arith) (omega arith)

  texts : both_kinds a b / 4 % 2 ≡ max (a / 4 % 2) (b / 4 % 2)
  unfolding both_kinds
  texts = third_bit (max (a % 2) (b % 2)) (max (a / 2 % 2) (b / 2 % 2)) (max (a / 4 % 2) (b / 4 % 2)) (omega arith) (omega arith) (omega arith)

module _ (w v a b : ℕ) where
  pub has_left : (kind : Kind) → has w a kind ≡ true → has (max w v) (both_kinds a b) kind ≡ true
  unfolding has
  has_left Bits h = let p = some_width w h in width_some (max w v) (omega arith)
  has_left Integer h = rw (integers a b) (one_left (a % 2) (b % 2) (omega arith) h)
  has_left Real h = rw (reals a b) (one_left (a / 2 % 2) (b / 2 % 2) (omega arith) h)
  has_left Text h = rw (texts a b) (one_left (a / 4 % 2) (b / 4 % 2) (omega arith) h)

  pub has_right : (kind : Kind) → has v b kind ≡ true → has (max w v) (both_kinds a b) kind ≡ true
  unfolding has
  has_right Bits h = let p = some_width v h in width_some (max w v) (omega arith)
  has_right Integer h = rw (integers a b) (one_right (a % 2) (b % 2) (omega arith) h)
  has_right Real h = rw (reals a b) (one_right (a / 2 % 2) (b / 2 % 2) (omega arith) h)
  has_right Text h = rw (texts a b) (one_right (a / 4 % 2) (b / 4 % 2) (omega arith) h)

  -- a fault of the chain of one of two groups is one of both together
  module _ (s : List ℕ) (within : end_of s ≤ length s) (o : ℕ) where
    left_fault : (kind : Kind) → (chain_fault s (group_signal s w kind) o ≡ 0 → ⊥) → chain_fault s (group_signal s (max w v) kind) o ≡ 0 → ⊥
    unfolding width_as
    left_fault Bits n = chain_wider s (changes_from s) (end_of s) w (max w v) o within (omega arith) n
    left_fault Integer n = n
    left_fault Real n = n
    left_fault Text n = n

    right_fault : (kind : Kind) → (chain_fault s (group_signal s v kind) o ≡ 0 → ⊥) → chain_fault s (group_signal s (max w v) kind) o ≡ 0 → ⊥
    unfolding width_as
    right_fault Bits n = chain_wider s (changes_from s) (end_of s) v (max w v) o within (omega arith) n
    right_fault Integer n = n
    right_fault Real n = n
    right_fault Text n = n

    pub fault_left : GroupFault s w a o → GroupFault s (max w v) (both_kinds a b) o
    fault_left r = record { kind = r.kind; member = has_left r.kind r.member; fault = left_fault r.kind r.fault }

    pub fault_right : GroupFault s v b o → GroupFault s (max w v) (both_kinds a b) o
    fault_right r = record { kind = r.kind; member = has_right r.kind r.member; fault = right_fault r.kind r.fault }

  -- and one of both is one of either
  module _ (s : List ℕ) (o : ℕ) where
    by_kind : (kind : Kind) → has (max w v) (both_kinds a b) kind ≡ true → (chain_fault s (group_signal s (max w v) kind) o ≡ 0 → ⊥) → GroupFault s w a o ⊎ GroupFault s v b o
    unfolding has width_as
    by_kind Bits m n =
        elim (dec_le w v) [
          | yes q ↦ (let e : max w v ≡ v = omega arith in inr (record { kind = Bits; member = (rw e at m); fault = (rw e at n) }))
          | no q ↦ (let e : max w v ≡ w = omega arith in inl (record { kind = Bits; member = (rw e at m); fault = (rw e at n) }))
        ]
    by_kind Integer m n =
        ⊎_elim (λ h. inl (record { kind = Integer; member = h; fault = n })) (λ h. inr (record { kind = Integer; member = h; fault = n }))
        (either_one (a % 2) (b % 2) (rw (integers a b) at m))
    by_kind Real m n =
        ⊎_elim (λ h. inl (record { kind = Real; member = h; fault = n })) (λ h. inr (record { kind = Real; member = h; fault = n }))
        (either_one (a / 2 % 2) (b / 2 % 2) (rw (reals a b) at m))
    by_kind Text m n =
        ⊎_elim (λ h. inl (record { kind = Text; member = h; fault = n })) (λ h. inr (record { kind = Text; member = h; fault = n }))
        (either_one (a / 4 % 2) (b / 4 % 2) (rw (texts a b) at m))

    pub fault_either : GroupFault s (max w v) (both_kinds a b) o → GroupFault s w a o ⊎ GroupFault s v b o
    fault_either r = by_kind r.kind r.member r.fault

-- ---- a change of a group

pub none_faulty : (s : List ℕ) (width kinds : ℕ) → GroupFault s width kinds 0 → ⊥
none_faulty s width kinds r = r.fault (faults_none s (group_signal s width r.kind))

module _ (s : List ℕ) (width kinds o : ℕ) where
  pub fault_now : 0 < o → FaultyAt s width kinds o → GroupFault s width kinds o
  fault_now q r =
      let n = r.faulty.fault in
      record {
        kind = r.kind;
        member = r.faulty.for;
        fault = λ z. n (sym (faults_here s (group_signal s width r.kind) o q n) ∙ z);
      }

  pub no_fault_now : (FaultyAt s width kinds o → ⊥) → (kind : Kind) → has width kinds kind ≡ true → fault_at s (group_signal s width kind) o ≡ 0
  no_fault_now n kind m =
      elim (ℕ_discrete (fault_at s (group_signal s width kind) o) 0) [
        | yes e ↦ e
        | no k ↦ absurd (n (record { kind = kind; faulty = record { for = m; fault = k } }))
      ]

  module _ (q : 0 < o) (n : FaultyAt s width kinds o → ⊥) where
    pub fault_then : GroupFault s width kinds o → GroupFault s width kinds (previous_of s o)
    fault_then r = record {
      kind = r.kind;
      member = r.member;
      fault = λ z. r.fault (faults_next s (group_signal s width r.kind) o q (no_fault_now n r.kind r.member) ∙ z);
    }

    pub fault_since : GroupFault s width kinds (previous_of s o) → GroupFault s width kinds o
    fault_since r = record {
      kind = r.kind;
      member = r.member;
      fault = λ z. r.fault (sym (faults_next s (group_signal s width r.kind) o q (no_fault_now n r.kind r.member)) ∙ z);
    }

  -- a change at or above T is a fault
  pub fault_late : 0 < o → end_of s ≤ o → Member width kinds → GroupFault s width kinds o
  fault_late q h m =
      fault_now q
      (record { kind = m.kind; faulty = record { for = m.is; fault = λ z. (let a = (sound s (group_signal s width m.kind) o z).before in omega arith) } })
