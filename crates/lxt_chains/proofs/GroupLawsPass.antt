-- The pass over the changes of groups by falling offset, one window after the other.
use Prim.Native.Nat.{ℕ, suc, ◌+◌, ◌-◌, ◌%◌, ◌≤◌, ◌<◌, zero-le}
use native.Mathlib.Omega.{arith}
use native.Mathlib.Decide.{dec_le, ℕ_discrete}
use mathlib.Core.Path.{◌≡◌, sym, ap, ◌∙◌}
use mathlib.Core.Bool.{true, false, true≢false, false≢true}
use mathlib.Core.List.{List}
use lib.ListN.{length, get_or, set, length-set, get_or-eq_default}
use lib.Seq.{get_or-set_same, get_or-set_other}
use Rattle.lxt_format.specs.Limits.{widest_facility}
use Rattle.lxt_format.specs.Changes.{data_at, previous_of, change_end}
use Rattle.lxt_format.proofs.ChangesLaws.{previous_lt, sound}
use Rattle.lxt_format.specs.Changes.{Sound}
use Rattle.lxt_format.specs.Walk.{top, high}
use Rattle.lxt_changes.specs.Windows.{Known}
use Rattle.lxt_changes.specs.declared.symbols.Window.{Window}
use Rattle.lxt_chains.specs.Reading.{Ready}
use Rattle.lxt_chains.specs.Windows.{window, Inside, Vacant, Highest, Occupied, Upto}
use Rattle.lxt_chains.specs.Groups.{group_signal, FaultyAt, Faulty, Decides, Judges, Member, Groups, Grouped, Alike, Settles, Settling, Entered, Reached, Passes}
use Rattle.lxt_chains.proofs.WindowLaws.{high_upto, upto_high}
use Rattle.lxt_chains.proofs.GroupLawsFaults.{none_faulty, fault_now, no_fault_now, fault_then, fault_since, fault_late}
use Rattle.lxt_chains.proofs.GroupLawsSlots.{same_alike, then_alike, Without, After, settles, settled}
use Rattle.lxt_chains.specs.declared.chains.Chains.{Chains}
use Rattle.lxt_chains.proofs.PassLaws.{known_same}
use Rattle.std.proofs.Common.{Option, Some, None}

-- ---- a visit

module _ (s : List ℕ) (c : Chains) (ready : Ready s c) (base i : ℕ) (os slots widths kinds : List ℕ) (w : Grouped c base (i + 1) os slots widths kinds)
    (inside : i < window) (some : get_or slots i 0 ≡ 0 → ⊥) where
  abbrev f : ℕ
  f = get_or slots i 0 - 1

  here : (f < length os) × (0 < base + i) × (get_or os f 0 ≡ base + i)
  here = w.holds.held i f (omega arith)

  pending : 0 < get_or os f 0
  pending = let a = here.1 in let b = here.2 in omega arith

  pub visit_number : f < length os
  visit_number = here.0

  pub visit_widths : f < length widths
  visit_widths = let a = here.0 in omega (arith, w.groups.widths_long)

  pub visit_kinds : f < length kinds
  visit_kinds = let a = here.0 in omega (arith, w.groups.kinds_long)

  pub visit_few : f < 4096
  visit_few = let a = here.0 in omega (arith, w.groups.few)

  pub visit_narrow : get_or widths f 0 ≤ widest_facility
  visit_narrow = w.groups.narrow f pending

  -- no other group's offset is there
  alone : (g : ℕ) → get_or os g 0 ≡ base + i → g ≡ f
  alone g e =
      let a = here.1 in
      let p = w.holds.placed g (number_of (omega arith)) (record { low = omega arith; some = omega arith }) in
      let k : get_or os g 0 - base ≡ i = omega arith in
      let q : get_or slots i 0 ≡ suc g = sym (ap (λ j. get_or slots j 0) k) ∙ p in
      omega arith
    where
      number_of : 0 < get_or os g 0 → g < length os
      number_of h = elim (dec_le (length os) g) [
        | yes q ↦ absurd (let z = get_or-eq_default os 0 {n = g} q in omega arith)
        | no q ↦ omega arith
      ]

  module _ (r : Option Window) (t : Judges s (FaultyAt s (get_or widths f 0) (get_or kinds f 0) (base + i)) r) where
    pub visit_fails : r ≡ None → (u : Option Window) → u ≡ None → Passes s c base i os widths kinds os slots widths kinds u
    visit_fails h u e = record {
      reached = λ v z. absurd (cc);
      failed = λ z. record { group = f; faulty = rw here.2 (fault_now s (get_or widths f 0) (get_or kinds f 0) (base + i) here.1 (t.failed h)) };
      known = λ v z. absurd (cc);
    }

    module _ (v : Window) (passed : r ≡ Some v) where
      no_fault : FaultyAt s (get_or widths f 0) (get_or kinds f 0) (base + i) → ⊥
      no_fault = t.passed v passed

      member : Member (get_or widths f 0) (get_or kinds f 0)
      member = w.groups.members f pending

      sound_here : Sound s (group_signal s (get_or widths f 0) member.kind) (base + i)
      sound_here = sound s (group_signal s (get_or widths f 0) member.kind) (base + i) (no_fault_now s (get_or widths f 0) (get_or kinds f 0) (base + i) no_fault member.kind member.is)

      pub visit_reads : (base + i < length s) × (data_at s (base + i) ≤ length s)
      visit_reads =
          let a = sound_here.before in
          let b = sound_here.ends in
          let d : data_at s (base + i) ≤ change_end s (group_signal s (get_or widths f 0) member.kind) (base + i) = (unfold change_end in omega arith) in
          let e = ready.end in
          let l = ready.within in
          (omega arith, omega arith)

      module _ (p : ℕ) (ep : p ≡ previous_of s (base + i)) where
        lower : p < base + i
        lower = let a = previous_lt s (base + i) here.1 in omega arith

        pub visit_small : p < 4294967296
        visit_small = let a = lower in let b = visit_reads.0 in omega (arith, ready.short)

        abbrev os₁ : List ℕ
        os₁ = set os f p

        abbrev slots₁ : List ℕ
        slots₁ = set slots i 0

        offset_here : get_or os₁ f 0 ≡ p
        offset_here = get_or-set_same os f p 0 here.0

        offset_other : (g : ℕ) → (g ≡ f → ⊥) → get_or os₁ g 0 ≡ get_or os g 0
        offset_other g n = get_or-set_other os f g p 0 n

        long : length os₁ ≡ length os
        long = length-set os f p

        slot_here : get_or slots₁ i 0 ≡ 0
        slot_here = get_or-set_same slots i 0 0 (omega (arith, w.holds.long))

        slot_other : (j : ℕ) → (j ≡ i → ⊥) → get_or slots₁ j 0 ≡ get_or slots j 0
        slot_other j n = get_or-set_other slots i j 0 0 n

        without : Without base (length os) f os₁ slots₁
        without = record {
          long = length-set slots i 0 ∙ w.holds.long;
          held = λ j g h. elim (ℕ_discrete j i) [
            | yes q ↦ absurd (let a = slot_here in let b = (rw q at h) in omega arith)
            | no q ↦ (let a = w.holds.held j g (sym (slot_other j q) ∙ h) in
                let n : g ≡ f → ⊥ = (λ m. (let b : get_or os g 0 ≡ get_or os f 0 = ap (λ x. get_or os x 0) m in let d = here.2 in let k = a.2 in q (omega arith))) in
                ((a.0, n), (a.1, offset_other g n ∙ a.2)))
          ];
          placed = λ g b n k.
              (let same = offset_other g n in
              let k' : Inside base (get_or os g 0) = (rw same at k) in
              let low = k'.low in
              let other : get_or os g 0 - base ≡ i → ⊥ = (λ m. n (alone g (omega arith))) in
              rw same (slot_other (get_or os g 0 - base) other ∙ w.holds.placed g b k'));
        }

        was_pending : (g : ℕ) → 0 < get_or os₁ g 0 → 0 < get_or os g 0
        was_pending g h = elim (ℕ_discrete g f) [
          | yes m ↦ rw m pending
          | no m ↦ (rw (offset_other g m) at h)
        ]

        groups_on : Groups os₁ widths kinds
        groups_on = record {
          few = (let a = long in omega (arith, w.groups.few));
          widths_long = w.groups.widths_long ∙ sym long;
          kinds_long = w.groups.kinds_long ∙ sym long;
          narrow = λ g h. w.groups.narrow g (was_pending g h);
          members = λ g h. w.groups.members g (was_pending g h);
        }

        alike_on : Alike s os widths kinds os₁ widths kinds
        alike_on = record {
          long = long;
          forth = λ q. elim (ℕ_discrete q.group f) [
            | yes m ↦ record { group = f; faulty = rw (offset_here, ep) (fault_then s (get_or widths f 0) (get_or kinds f 0) (base + i) here.1 no_fault (rw (m, here.2) at q.faulty)) }
            | no m ↦ record { group = q.group; faulty = rw (offset_other q.group m) q.faulty }
          ];
          back = λ q. elim (ℕ_discrete q.group f) [
            | yes m ↦ record { group = f; faulty = rw here.2 (fault_since s (get_or widths f 0) (get_or kinds f 0) (base + i) here.1 no_fault (rw (m, offset_here, ep) at q.faulty)) }
            | no m ↦ record { group = q.group; faulty = (rw (offset_other q.group m) at q.faulty) }
          ];
        }

        upto_on : Upto os₁ (base + i - 1)
        upto_on g =
            elim (ℕ_discrete g f) [
              | yes m ↦ (let a = offset_here in let b = lower in rw m (omega arith))
              | no m ↦ (let a = offset_other g m in
                  let u = w.upto g in
                  let pos = here.1 in
                  elim (ℕ_discrete (get_or os g 0) (base + i)) [
                    | yes q ↦ absurd (m (alone g q))
                    | no q ↦ omega arith
                  ])
            ]

        in_window : get_or os₁ f 0 < base + window
        in_window = let a = offset_here in let b = lower in omega arith

        pub visit_settles : Settles base f os₁ slots₁ widths kinds
        visit_settles = let l = long in settles base (length os) f os₁ slots₁ widths kinds without here.0 (omega arith) groups_on in_window

        module _ (os' slots' widths' kinds' : List ℕ) (e : Settling base f os₁ slots₁ widths kinds os' slots' widths' kinds') where
          after : After base (length os) os₁ widths kinds os' slots' widths' kinds'
          after = let l = long in settled base (length os) f os₁ slots₁ widths kinds without here.0 (omega arith) groups_on in_window os' slots' widths' kinds' e

          pub same_long : length os' ≡ length os
          same_long = after.long ∙ long

          pub same_slots : length slots' ≡ length slots
          same_slots = after.holds.long ∙ sym w.holds.long

          pub visited : Passes s c base i os widths kinds os' slots' widths' kinds' (Some v)
          visited = record {
            reached = λ u z. record {
              state = record { groups = after.groups; holds = rw same_long after.holds; upto = after.lower (base + i - 1) upto_on; low = w.low };
              alike = then_alike alike_on (after.alike s (omega (arith, ready.end, ready.within)));
            };
            failed = λ z. absurd (cc);
            known = λ u z. known_same z (t.known v passed);
          }

-- ---- a window

-- the groups at i in a window
pub record Going (s : List ℕ) (c : Chains) (base i : ℕ) (os₀ widths₀ kinds₀ os slots widths kinds : List ℕ) (known_now : Window) : Type 0 where
  pub reached : Reached s c base i os₀ widths₀ kinds₀ os slots widths kinds
  pub low : i ≤ window
  pub known : Known s known_now

pub going_begun : (s : List ℕ) (c : Chains) (base : ℕ) (os slots widths kinds : List ℕ) (w : Window) → Grouped c base window os slots widths kinds → Known s w
    → Going s c base window os widths kinds os slots widths kinds w
going_begun s c base os slots widths kinds w g k = record {
  reached = record { state = g; alike = same_alike s os widths kinds };
  low = omega arith;
  known = k;
}

module _ (s : List ℕ) (c : Chains) (base i : ℕ) (os₀ widths₀ kinds₀ os slots widths kinds : List ℕ) (known_now : Window) (w : Going s c base i os₀ widths₀ kinds₀ os slots widths kinds known_now) where
  pub down_asks : Occupied base i os slots
  down_asks = let a = w.reached.state in record { within = w.low; holds = a.holds; upto = a.upto }

  module _ (at : ℕ) (h : Highest slots i at) where
    -- nothing is pending from the slot `at` on
    upto_at : Upto os (base + at - 1)
    upto_at g = elim (dec_le (get_or os g 0) (base + at - 1)) [
      | yes q ↦ q
      | no q ↦ absurd
          (let u = w.reached.state.upto g in
          let k : Inside base (get_or os g 0) = record { low = omega arith; some = omega arith } in
          let p = w.reached.state.holds.placed g (number_of g (omega arith)) k in
          let n = h.none (get_or os g 0 - base) (omega arith) (omega arith) in
          omega arith)
    ]
      where
        number_of : (g : ℕ) → 0 < get_or os g 0 → g < length os
        number_of g h = elim (dec_le (length os) g) [
          | yes q ↦ absurd (let z = get_or-eq_default os 0 {n = g} q in omega arith)
          | no q ↦ omega arith
        ]

    grouped_at : Grouped c base at os slots widths kinds
    grouped_at = let g = w.reached.state in record { groups = g.groups; holds = g.holds; upto = upto_at; low = g.low }

    pub going_ended : at ≡ 0 → Passes s c base 0 os₀ widths₀ kinds₀ os slots widths kinds (Some known_now)
    going_ended e = record {
      reached = λ _ _. record { state = (rw e at grouped_at); alike = w.reached.alike };
      failed = λ z. absurd (cc);
      known = λ u z. known_same z w.known;
    }

    module _ (j : ℕ) (ej : at ≡ suc j) where
      pub visit_asks : Grouped c base (j + 1) os slots widths kinds × (((j < window) × (get_or slots (j) 0 ≡ 0 → ⊥)) × Known s known_now)
      visit_asks =
          let e : j + 1 ≡ at = omega arith in
          let down : at - 1 ≡ j = omega arith in
          let u = h.upto in
          let l = w.low in
          (rw e grouped_at, ((omega arith, (rw down at (h.some (omega arith)))), w.known))

      pub going_less : j < i
      going_less = let u = h.upto in omega arith

      module _ (os' slots' widths' kinds' : List ℕ) (r' : Option Window) (p : Passes s c base (j) os widths kinds os' slots' widths' kinds' r') where
        pub going_fails : r' ≡ None → (u : Option Window) → u ≡ None → Passes s c base 0 os₀ widths₀ kinds₀ os' slots' widths' kinds' u
        going_fails h u e = record {
          reached = λ v z. absurd (cc);
          failed = λ z. w.reached.alike.back (p.failed h);
          known = λ v z. absurd (cc);
        }

        pub going_next : (v : Window) → r' ≡ Some v → Going s c base (j) os₀ widths₀ kinds₀ os' slots' widths' kinds' v
        going_next v q = record {
          reached = record { state = (p.reached v q).state; alike = then_alike w.reached.alike (p.reached v q).alike };
          low = (let u = h.upto in let l = w.low in omega arith);
          known = p.known v q;
        }

-- ---- all windows

-- the groups between two windows
pub record Deciding (s os₀ widths₀ kinds₀ os slots widths kinds : List ℕ) (w : Window) : Type 0 where
  pub groups : Groups os widths kinds
  pub vacant : Vacant slots
  pub alike : Alike s os₀ widths₀ kinds₀ os widths kinds
  pub known : Known s w

pub deciding_begun : (s os slots widths kinds : List ℕ) → Groups os widths kinds → Vacant slots → Deciding s os widths kinds os slots widths kinds (record { from = 0; to = 0 })
deciding_begun s os slots widths kinds g v = record {
  groups = g;
  vacant = v;
  alike = same_alike s os widths kinds;
  known = record { good = λ i a b. absurd (omega arith); within = zero-le };
}

module _ (s : List ℕ) (c : Chains) (ready : Ready s c) (os₀ widths₀ kinds₀ os slots widths kinds : List ℕ) (w : Window)
    (d : Deciding s os₀ widths₀ kinds₀ os slots widths kinds w) (h : ℕ) (e : h ≡ high os) where
  -- nothing is pending
  pub decide_none : h ≡ 0 → Decides (Faulty s os₀ widths₀ kinds₀) false
  decide_none z = record { yes = λ q. absurd (false≢true q); no = λ _ r. none (d.alike.forth r) }
    where
      none : Faulty s os widths kinds → ⊥
      none r =
          let a = high_upto os 0 (omega arith) r.group in
          let b : get_or os r.group 0 ≡ 0 = omega arith in
          none_faulty s (get_or widths r.group 0) (get_or kinds r.group 0) (rw b at r.faulty)

  module _ (n : h ≡ 0 → ⊥) where
    -- a change at or above T
    pub decide_late : c.end ≤ h → Decides (Faulty s os₀ widths₀ kinds₀) true
    decide_late l = record {
      yes = λ _. d.alike.back (record { group = top os; faulty = fault_late s (get_or widths (top os) 0) (get_or kinds (top os) 0) (get_or os (top os) 0) (omega arith) (omega (arith, ready.end)) (d.groups.members (top os) (omega arith)) });
      no = λ q. absurd (true≢false q);
    }

    module _ (l : h < c.end) where
      abbrev base : ℕ
      base = h - h % 8192

      pub enter_all_asks : Groups os widths kinds × (Vacant slots × Upto os (base + window - 1))
      enter_all_asks = (d.groups, (d.vacant, high_upto os (base + window - 1) (omega arith)))

      module _ (os' slots' widths' kinds' : List ℕ) (a : Entered base (length os') os widths kinds os' slots' widths' kinds') where
        pub window_asks : Grouped c base window os' slots' widths' kinds' × Known s w
        window_asks = (record { groups = a.groups; holds = a.holds; upto = a.upto; low = omega arith }, d.known)

        alike_entered : Alike s os₀ widths₀ kinds₀ os' widths' kinds'
        alike_entered = then_alike d.alike (a.alike s (omega (arith, ready.end, ready.within)))

        module _ (os'' slots'' widths'' kinds'' : List ℕ) (r : Option Window) (p : Passes s c base 0 os' widths' kinds' os'' slots'' widths'' kinds'' r) where
          pub decide_fails : r ≡ None → Decides (Faulty s os₀ widths₀ kinds₀) true
          decide_fails z = record { yes = λ _. alike_entered.back (p.failed z); no = λ q. absurd (true≢false q) }

          module _ (v : Window) (z : r ≡ Some v) where
            state : Grouped c base 0 os'' slots'' widths'' kinds''
            state = (p.reached v z).state

            pub decide_less : high os'' < high os
            decide_less = let u = upto_high os'' (base + 0 - 1) state.upto in omega arith

            vacant : Vacant slots''
            vacant = record {
              long = state.holds.long;
              none = λ j. elim (ℕ_discrete (get_or slots'' j 0) 0) [
                | yes q ↦ q
                | no q ↦ absurd
                    (let g : ℕ = get_or slots'' j 0 - 1 in
                    let b = state.holds.held j g (omega arith) in
                    let u = state.upto g in
                    let x = b.1 in
                    let y = b.2 in
                    omega arith)
              ];
            }

            pub decide_next : Deciding s os₀ widths₀ kinds₀ os'' slots'' widths'' kinds'' v
            decide_next = record {
              groups = state.groups;
              vacant = vacant;
              alike = then_alike alike_entered (p.reached v z).alike;
              known = p.known v z;
            }
