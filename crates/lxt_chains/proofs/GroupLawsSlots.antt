-- Groups after one of them was put into its slot or added to another, and after all were.
use Prim.Native.Nat.{ℕ, suc, ◌+◌, ◌-◌, ◌≤◌, ◌<◌, max}
use native.Mathlib.Omega.{arith}
use native.Mathlib.Decide.{ℕ_discrete}
use mathlib.Core.Path.{◌≡◌, refl, sym, ap, ◌∙◌}
use mathlib.Core.Logic.{⊎_elim}
use mathlib.Core.List.{List}
use lib.ListN.{length, get_or, set, length-set}
use lib.Seq.{get_or-set_same, get_or-set_other}
use Rattle.lxt_format.specs.Sections.{end_of}
use Rattle.lxt_chains.specs.Windows.{window, Inside, Holds, Vacant, Upto}
use Rattle.lxt_chains.specs.Groups.{both_kinds, GroupFault, Faulty, Member, Groups, Alike, Settles, Settling, Entered}
use Rattle.lxt_chains.proofs.GroupLawsFaults.{has_left, fault_left, fault_right, fault_either, none_faulty}

-- ---- groups that are alike

pub same_alike : (s os widths kinds : List ℕ) → Alike s os widths kinds os widths kinds
same_alike s os widths kinds = record { long = refl; forth = λ r. r; back = λ r. r }

pub then_alike : {s os₀ widths₀ kinds₀ os₁ widths₁ kinds₁ os₂ widths₂ kinds₂ : List ℕ} → Alike s os₀ widths₀ kinds₀ os₁ widths₁ kinds₁
    → Alike s os₁ widths₁ kinds₁ os₂ widths₂ kinds₂ → Alike s os₀ widths₀ kinds₀ os₂ widths₂ kinds₂
then_alike a b = record { long = b.long ∙ a.long; forth = λ r. b.forth (a.forth r); back = λ r. a.back (b.back r) }

-- ---- one group

-- the slots hold the pending offsets of the groups below n but f
pub record Without (base n f : ℕ) (os slots : List ℕ) : Type 0 where
  pub long : length slots ≡ window
  pub held : (i g : ℕ) → get_or slots i 0 ≡ suc g → ((g < n) × (g ≡ f → ⊥)) × ((0 < base + i) × (get_or os g 0 ≡ base + i))
  pub placed : (g : ℕ) → g < n → (g ≡ f → ⊥) → Inside base (get_or os g 0) → get_or slots (get_or os g 0 - base) 0 ≡ suc g

-- what is so after group f has come there
pub record After (base n : ℕ) (os widths kinds os' slots' widths' kinds' : List ℕ) : Type 0 where
  pub holds : Holds base n os' slots'
  pub groups : Groups os' widths' kinds'
  pub alike : (s : List ℕ) → end_of s ≤ length s → Alike s os widths kinds os' widths' kinds'
  pub long : length os' ≡ length os
  pub lower : (b : ℕ) → Upto os b → Upto os' b

module _ (base n f : ℕ) (os slots widths kinds : List ℕ) (w : Without base n f os slots) (below-n : f < n) (room : n ≤ length os)
    (groups : Groups os widths kinds) (upto : get_or os f 0 < base + window) where
  abbrev o : ℕ
  o = get_or os f 0

  pub settles : Settles base f os slots widths kinds
  settles = record {
    number = omega arith;
    few = groups.few;
    widths_long = groups.widths_long;
    kinds_long = groups.kinds_long;
    long = w.long;
    upto = upto;
    numbers = λ i g h. (let a = (w.held i g h).0.0 in omega arith);
  }

  holds_outside : (Inside base o → ⊥) → Holds base n os slots
  holds_outside q = record {
    long = w.long;
    held = λ i g h. (let a = w.held i g h in (a.0.0, a.1.0, a.1.1));
    placed = λ g b k. elim (ℕ_discrete g f) [
      | yes e ↦ absurd (q (rw e at k))
      | no e ↦ w.placed g b e k
    ];
  }

  holds_put : Inside base o → get_or slots (o - base) 0 ≡ 0 → Holds base n os (set slots (o - base) (suc f))
  holds_put k free =
      let low = k.low in
      let some = k.some in
      let long = w.long in
      let there : o - base < length slots = omega arith in
      record {
        long = length-set slots (o - base) (suc f) ∙ w.long;
        held = λ i g h. elim (ℕ_discrete i (o - base)) [
          | yes e ↦ (let v : suc f ≡ suc g = sym (get_or-set_same slots (o - base) (suc f) 0 there) ∙ (rw e at h) in
              let m : g ≡ f = omega arith in
              rw m (below-n, omega arith, omega arith))
          | no e ↦ (let a = w.held i g (sym (get_or-set_other slots (o - base) i (suc f) 0 e) ∙ h) in (a.0.0, a.1.0, a.1.1))
        ];
        placed = λ g b j. elim (ℕ_discrete g f) [
          | yes e ↦ rw e (get_or-set_same slots (o - base) (suc f) 0 there)
          | no e ↦ (let a = w.placed g b e j in
              let other : (get_or os g 0 - base ≡ o - base) → ⊥ = λ m. (let x : suc g ≡ 0 = sym a ∙ ap (λ y. get_or slots y 0) m ∙ free in omega arith) in
              get_or-set_other slots (o - base) (get_or os g 0 - base) (suc f) 0 other ∙ a)
        ];
      }

  -- group g holds its slot
  module _ (g : ℕ) (k : Inside base o) (q : get_or slots (o - base) 0 ≡ suc g) where
    abbrev v : ℕ
    v = max (get_or widths g 0) (get_or widths f 0)

    abbrev both : ℕ
    both = both_kinds (get_or kinds g 0) (get_or kinds f 0)

    holder : ((g < n) × (g ≡ f → ⊥)) × ((0 < base + (o - base)) × (get_or os g 0 ≡ base + (o - base)))
    holder = w.held (o - base) g q

    same_offset : get_or os g 0 ≡ o
    same_offset = let low = k.low in let a = holder.1.1 in omega arith

    gone : get_or (set os f 0) f 0 ≡ 0
    gone = get_or-set_same os f 0 0 (omega arith)

    stays : (h : ℕ) → (h ≡ f → ⊥) → get_or (set os f 0) h 0 ≡ get_or os h 0
    stays h m = get_or-set_other os f h 0 0 m

    -- one that is still pending is not f
    other : (h : ℕ) → 0 < get_or (set os f 0) h 0 → h ≡ f → ⊥
    other h p e = let a : get_or (set os f 0) h 0 ≡ get_or (set os f 0) f 0 = ap (λ x. get_or (set os f 0) x 0) e in let b = gone in omega arith

    width_there : get_or (set widths g v) g 0 ≡ v
    width_there = let a = holder.0.0 in get_or-set_same widths g v 0 (omega (arith, groups.widths_long))

    kinds_there : get_or (set kinds g both) g 0 ≡ both
    kinds_there = let a = holder.0.0 in get_or-set_same kinds g both 0 (omega (arith, groups.kinds_long))

    width_other : (h : ℕ) → (h ≡ g → ⊥) → get_or (set widths g v) h 0 ≡ get_or widths h 0
    width_other h m = get_or-set_other widths g h v 0 m

    kinds_other : (h : ℕ) → (h ≡ g → ⊥) → get_or (set kinds g both) h 0 ≡ get_or kinds h 0
    kinds_other h m = get_or-set_other kinds g h both 0 m

    holds_added : Holds base n (set os f 0) slots
    holds_added = record {
      long = w.long;
      held = λ i h e. (let a = w.held i h e in (a.0.0, a.1.0, stays h a.0.1 ∙ a.1.1));
      placed = λ h b j.
          (let m = other h j.some in
          let same = stays h m in
          rw same (w.placed h b m (rw same at j)));
    }

    groups_added : Groups (set os f 0) (set widths g v) (set kinds g both)
    groups_added =
        let long = length-set os f 0 in
        let some = k.some in
        let at = same_offset in
        record {
          few = omega (arith, groups.few);
          widths_long = length-set widths g v ∙ groups.widths_long ∙ sym long;
          kinds_long = length-set kinds g both ∙ groups.kinds_long ∙ sym long;
          narrow = λ h p. elim (ℕ_discrete h g) [
            | yes e ↦ (let a = groups.narrow g (omega arith) in let b = groups.narrow f some in rw (e, width_there) (omega arith))
            | no m ↦ rw (width_other h m) (groups.narrow h (rw (stays h (other h p)) at p))
          ];
          members = λ h p. elim (ℕ_discrete h g) [
            | yes e ↦ (let a = groups.members g (omega arith) in
                let r : Member v both = record { kind = a.kind; is = has_left (get_or widths g 0) (get_or widths f 0) (get_or kinds g 0) (get_or kinds f 0) a.kind a.is } in
                rw (e, width_there, kinds_there) r)
            | no m ↦ rw (width_other h m, kinds_other h m) (groups.members h (rw (stays h (other h p)) at p))
          ];
        }

    module _ (s : List ℕ) (within : end_of s ≤ length s) where
      -- the fault of a group of both
      at_g : GroupFault s v both (get_or os g 0) → Faulty s (set os f 0) (set widths g v) (set kinds g both)
      at_g r = record { group = g; faulty = rw (width_there, kinds_there, stays g holder.0.1) r }

      alike_added : Alike s os widths kinds (set os f 0) (set widths g v) (set kinds g both)
      alike_added = record {
        long = length-set os f 0;
        forth = λ r.
            elim (ℕ_discrete r.group f) [
              | yes e ↦ (let a : GroupFault s (get_or widths f 0) (get_or kinds f 0) (get_or os f 0) = (rw e at r.faulty) in
                  at_g (fault_right (get_or widths g 0) (get_or widths f 0) (get_or kinds g 0) (get_or kinds f 0) s within (get_or os g 0) (rw same_offset a)))
              | no m ↦ elim (ℕ_discrete r.group g) [
                | yes e ↦ (let a : GroupFault s (get_or widths g 0) (get_or kinds g 0) (get_or os g 0) = (rw e at r.faulty) in
                    at_g (fault_left (get_or widths g 0) (get_or widths f 0) (get_or kinds g 0) (get_or kinds f 0) s within (get_or os g 0) a))
                | no l ↦ record { group = r.group; faulty = rw (width_other r.group l, kinds_other r.group l, stays r.group m) r.faulty }
              ]
            ];
        back = λ r.
            elim (ℕ_discrete r.group f) [
              | yes e ↦ absurd (none_faulty s _ _ (rw (e, gone) at r.faulty))
              | no m ↦ elim (ℕ_discrete r.group g) [
                | yes e ↦ (let a : GroupFault s v both (get_or os g 0) = (rw (e, width_there, kinds_there, stays g holder.0.1) at r.faulty) in
                    ⊎_elim (λ x. record { group = g; faulty = x }) (λ x. record { group = f; faulty = (rw same_offset at x) })
                    (fault_either (get_or widths g 0) (get_or widths f 0) (get_or kinds g 0) (get_or kinds f 0) s (get_or os g 0) a))
                | no l ↦ record { group = r.group; faulty = (rw (width_other r.group l, kinds_other r.group l, stays r.group m) at r.faulty) }
              ]
            ];
      }

    lower_added : (b : ℕ) → Upto os b → Upto (set os f 0) b
    lower_added b u h = elim (ℕ_discrete h f) [
      | yes e ↦ rw (e, gone) (omega arith)
      | no m ↦ rw (stays h m) (u h)
    ]

  pub settled : (os' slots' widths' kinds' : List ℕ) → Settling base f os slots widths kinds os' slots' widths' kinds'
      → After base n os widths kinds os' slots' widths' kinds'
  settled os' slots' widths' kinds' (Settling.outside q eo es ew ek) =
      rw (eo, es, ew, ek)
      (record { holds = holds_outside q; groups = groups; alike = λ s _. same_alike s os widths kinds; long = refl; lower = λ b u. u })
  settled os' slots' widths' kinds' (Settling.put k free eo es ew ek) =
      rw (eo, es, ew, ek)
      (record { holds = holds_put k free; groups = groups; alike = λ s _. same_alike s os widths kinds; long = refl; lower = λ b u. u })
  settled os' slots' widths' kinds' (Settling.added g k q eo es ew ek) =
      rw (eo, es, ew, ek)
      (record { holds = holds_added g k q; groups = groups_added g k q; alike = alike_added g k q; long = length-set os f 0; lower = lower_added g k q })

-- ---- all groups

pub entered_begun : (base : ℕ) (os slots widths kinds : List ℕ) → Groups os widths kinds → Vacant slots → Upto os (base + window - 1) → Entered base 0 os widths kinds os slots widths kinds
entered_begun base os slots widths kinds w v u = record {
  groups = w;
  holds = record { long = v.long; held = λ i f h. absurd (omega (arith, v.none i)); placed = λ f h i. absurd (omega arith) };
  upto = u;
  long = refl;
  alike = λ s _. same_alike s os widths kinds;
}

module _ (base f : ℕ) (os₀ widths₀ kinds₀ os slots widths kinds : List ℕ) (w : Entered base f os₀ widths₀ kinds₀ os slots widths kinds) where
  module _ (h : f < length os) where
    without : Without base (f + 1) f os slots
    without = record {
      long = w.holds.long;
      held = λ i g e. (let a = w.holds.held i g e in let b = a.0 in ((omega arith, λ m. (omega arith)), (a.1, a.2)));
      placed = λ g b m k. w.holds.placed g (omega arith) k;
    }

    in_window : get_or os f 0 < base + window
    in_window = let u = w.upto f in omega arith

    pub enter_asks : Settles base f os slots widths kinds
    enter_asks = settles base (f + 1) f os slots widths kinds without (omega arith) (omega arith) w.groups in_window

    pub entered_next : (os' slots' widths' kinds' : List ℕ) → Settling base f os slots widths kinds os' slots' widths' kinds'
        → Entered base (f + 1) os₀ widths₀ kinds₀ os' slots' widths' kinds'
    entered_next os' slots' widths' kinds' e =
        let a = settled base (f + 1) f os slots widths kinds without (omega arith) (omega arith) w.groups in_window os' slots' widths' kinds' e in
        record {
          groups = a.groups;
          holds = a.holds;
          upto = a.lower (base + window - 1) w.upto;
          long = a.long ∙ w.long;
          alike = λ s i. then_alike (w.alike s i) (a.alike s i);
        }

  pub entered_ended : f ≤ length os → length os ≤ f → Entered base (length os) os₀ widths₀ kinds₀ os slots widths kinds
  entered_ended a b = let e : f ≡ length os = omega arith in (rw e at w)
