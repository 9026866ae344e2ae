-- The groups at the start: each pending facility is one of its own.
use Prim.Native.Nat.{ℕ, ◌+◌, ◌≤◌, ◌<◌}
use native.Mathlib.Omega.{arith}
use native.Mathlib.Decide.{dec_le, ℕ_discrete}
use mathlib.Core.Path.{◌≡◌, refl, ◌∙◌}
use mathlib.Core.Bool.{Bool, true, false, false≢true}
use mathlib.Core.List.{List}
use lib.ListN.{length, get_or, set, take, replicate, length-set, length-replicate, get_or-replicate, get_or-eq_default}
use lib.Seq.{get_or-set_same, get_or-set_other, length-take-le}
use Rattle.lxt_format.specs.Limits.{widest_facility}
use Rattle.lxt_format.specs.BasicsLaws.{on_zero}
use Rattle.lxt_format.specs.Geometry.{is_alias, msb_of, lsb_of, flags_of, kind_of_flags, width_between, facts_by, own_facts}
use Rattle.lxt_format.specs.Judge.{signal_of, fault_from}
use Rattle.lxt_format.proofs.ChangesLaws.{faults_none}
use Rattle.lxt_format.specs.declared.Kind.{Kind}
use Rattle.lxt_format.specs.declared.Kind.TheVariants.{Bits, Integer, Real, Text}
use Rattle.lxt_format.specs.declared.Facts.{Facts}
use Rattle.lxt_chains.specs.Reading.{Ready}
use Rattle.lxt_chains.specs.Windows.{Vacant}
use Rattle.lxt_chains.specs.Groups.{has, width_as, group_signal, bits_width, kind_number, GroupFault, Faulty, Decides, Member, Groups, Room, Alone, Single, Roots, ChainFault}
use Rattle.lxt_chains.proofs.ChainLaws.{narrow}
use Rattle.lxt_chains.proofs.GroupLawsFaults.{width_some, none_faulty}
use Rattle.lxt_chains.specs.declared.chains.Chains.{Chains}

-- ---- one root

-- the group has the root's kind
own_kind : (kind : Kind) (msb lsb : ℕ)
    → has (bits_width (facts_by kind msb lsb).kind (facts_by kind msb lsb).width) (kind_number (facts_by kind msb lsb).kind) (facts_by kind msb lsb).kind ≡ true
unfolding facts_by has bits_width kind_number
own_kind Bits msb lsb = width_some (width_between msb lsb) (unfold width_between in omega arith)
own_kind Integer msb lsb = refl
own_kind Real msb lsb = refl
own_kind Text msb lsb = refl

-- and its width
own_width : (kind : Kind) (msb lsb : ℕ)
    → width_as (bits_width (facts_by kind msb lsb).kind (facts_by kind msb lsb).width) (facts_by kind msb lsb).kind ≡ (facts_by kind msb lsb).width
unfolding facts_by width_as bits_width
own_width Bits msb lsb = refl
own_width Integer msb lsb = refl
own_width Real msb lsb = refl
own_width Text msb lsb = refl

-- and no other kind
only_kind : (own : Kind) (width : ℕ) (kind : Kind) → has (bits_width own width) (kind_number own) kind ≡ true → kind ≡ own
unfolding has bits_width kind_number
only_kind Bits width Bits h = refl
only_kind Bits width Integer h = absurd (false≢true h)
only_kind Bits width Real h = absurd (false≢true h)
only_kind Bits width Text h = absurd (false≢true h)
only_kind Integer width Bits h = absurd (false≢true h)
only_kind Integer width Integer h = refl
only_kind Integer width Real h = absurd (false≢true h)
only_kind Integer width Text h = absurd (false≢true h)
only_kind Real width Bits h = absurd (false≢true h)
only_kind Real width Integer h = absurd (false≢true h)
only_kind Real width Real h = refl
only_kind Real width Text h = absurd (false≢true h)
only_kind Text width Bits h = absurd (false≢true h)
only_kind Text width Integer h = absurd (false≢true h)
only_kind Text width Real h = absurd (false≢true h)
only_kind Text width Text h = refl

module _ (s : List ℕ) (f : ℕ) where
  abbrev kind : Kind
  kind = (own_facts s f).kind

  abbrev wide : ℕ
  wide = bits_width (own_facts s f).kind (own_facts s f).width

  own_member : has wide (kind_number kind) kind ≡ true
  unfolding own_facts
  own_member = own_kind (kind_of_flags (flags_of s f)) (msb_of s f) (lsb_of s f)

  own_signal : group_signal s wide kind ≡ signal_of s f
  unfolding own_facts
  own_signal = rw (own_width (kind_of_flags (flags_of s f)) (msb_of s f) (lsb_of s f))

  -- its chain has a fault exactly where the group's has one
  own_fault : (o : ℕ) → (fault_from s f o ≡ 0 → ⊥) → GroupFault s wide (kind_number kind) o
  unfolding fault_from
  own_fault o n = record { kind = kind; member = own_member; fault = λ z. n (rw own_signal at z) }

  fault_own : (o : ℕ) → GroupFault s wide (kind_number kind) o → fault_from s f o ≡ 0 → ⊥
  unfolding fault_from
  fault_own o r z =
      let e : r.kind ≡ kind = only_kind kind (own_facts s f).width r.kind r.member in
      r.fault (rw (e, own_signal) z)

  none_own : fault_from s f 0 ≡ 0
  unfolding fault_from
  none_own = faults_none s (signal_of s f)

-- ---- the group's width and kinds, by the root's kind

-- ---- putting a root

pub alone_none : (s : List ℕ) (f o : ℕ) (widths kinds : List ℕ) → o ≡ 0 → Alone s f o widths kinds widths kinds
alone_none s f o widths kinds z = record {
  widths_long = refl;
  kinds_long = refl;
  width_is = λ q. absurd (omega arith);
  kinds_are = λ q. absurd (omega arith);
  narrow = λ q. absurd (omega arith);
  other_widths = λ g _. refl;
  other_kinds = λ g _. refl;
}

module _ (s : List ℕ) (c : Chains) (w : Ready s c) (f : ℕ) (below-n : f < c.facilities) (o : ℕ) (some : o ≡ 0 → ⊥) (root : 0 < o → is_alias s f ≡ false) where
  plain : is_alias s f ≡ false
  plain = root (omega arith)

  module _ (facts : Facts) (e : facts ≡ own_facts s f) where
    pub alone_narrow : facts.width ≤ widest_facility
    alone_narrow = narrow s c w f below-n plain facts e

    pub alone_put : (widths kinds : List ℕ) → f < length widths → f < length kinds → (v k : ℕ) → v ≡ bits_width facts.kind facts.width → k ≡ kind_number facts.kind
        → Alone s f o widths kinds (set widths f v) (set kinds f k)
    alone_put widths kinds lw lk v k ev ek = record {
      widths_long = length-set widths f v;
      kinds_long = length-set kinds f k;
      width_is = λ _. get_or-set_same widths f v 0 lw ∙ ev ∙ rw e;
      kinds_are = λ _. get_or-set_same kinds f k 0 lk ∙ ek ∙ rw e;
      narrow = λ _. (rw e at alone_narrow);
      other_widths = λ g n. get_or-set_other widths f g v 0 n;
      other_kinds = λ g n. get_or-set_other kinds f g k 0 n;
    }

-- ---- all roots

pub single_begun : (s os widths kinds : List ℕ) → Room os widths kinds → Single s 0 os widths kinds
single_begun s os widths kinds r = record {
  room = r;
  width_is = λ f h. absurd (omega arith);
  kinds_are = λ f h. absurd (omega arith);
  narrow = λ f h. absurd (omega arith);
}

module _ (s : List ℕ) (c : Chains) (ready : Ready s c) (f : ℕ) (os widths kinds : List ℕ) (roots : Roots s c os) (w : Single s f os widths kinds) (h : f < length os) where
  pub single_asks : (f < c.facilities) × (((f < length widths) × (f < length kinds)) × (0 < get_or os f 0 → is_alias s f ≡ false))
  single_asks = (omega (arith, roots.few), ((omega (arith, w.room.widths_long), omega (arith, w.room.kinds_long)), roots.roots f))

  pub single_next : (widths' kinds' : List ℕ) → Alone s f (get_or os f 0) widths kinds widths' kinds' → Single s (f + 1) os widths' kinds'
  single_next widths' kinds' a = record {
    room = record { widths_long = a.widths_long ∙ w.room.widths_long; kinds_long = a.kinds_long ∙ w.room.kinds_long };
    width_is = λ g l p. elim (ℕ_discrete g f) [
      | yes e ↦ rw e (a.width_is (rw e at p))
      | no n ↦ a.other_widths g n ∙ w.width_is g (omega arith) p
    ];
    kinds_are = λ g l p. elim (ℕ_discrete g f) [
      | yes e ↦ rw e (a.kinds_are (rw e at p))
      | no n ↦ a.other_kinds g n ∙ w.kinds_are g (omega arith) p
    ];
    narrow = λ g l p. elim (ℕ_discrete g f) [
      | yes e ↦ rw e (a.narrow (rw e at p))
      | no n ↦ w.narrow g (omega arith) p
    ];
  }

pub single_ended : (s : List ℕ) (f : ℕ) (os widths kinds : List ℕ) → Single s f os widths kinds → length os ≤ f → Single s (length os) os widths kinds
single_ended s f os widths kinds w h = record {
  room = w.room;
  width_is = λ g l. w.width_is g (omega arith);
  kinds_are = λ g l. w.kinds_are g (omega arith);
  narrow = λ g l. w.narrow g (omega arith);
}

-- ---- these are groups, and their faults are those of the pending chains

bits_narrow : (kind : Kind) (width : ℕ) → width ≤ widest_facility → bits_width kind width ≤ widest_facility
unfolding bits_width
bits_narrow Bits width h = h
bits_narrow Integer width h = omega arith
bits_narrow Real width h = omega arith
bits_narrow Text width h = omega arith

module _ (s os widths kinds : List ℕ) (w : Single s (length os) os widths kinds) where
  number_of : (g : ℕ) → 0 < get_or os g 0 → g < length os
  number_of g h = elim (dec_le (length os) g) [
    | yes q ↦ absurd (let z = get_or-eq_default os 0 {n = g} q in omega arith)
    | no q ↦ omega arith
  ]

  width_at : (g : ℕ) → 0 < get_or os g 0 → get_or widths g 0 ≡ bits_width (own_facts s g).kind (own_facts s g).width
  width_at g p = w.width_is g (number_of g p) p

  kinds_at : (g : ℕ) → 0 < get_or os g 0 → get_or kinds g 0 ≡ kind_number (own_facts s g).kind
  kinds_at g p = w.kinds_are g (number_of g p) p

  pub single_groups : (c : Chains) → Ready s c → Roots s c os → Groups os widths kinds
  single_groups c ready roots = record {
    few = omega (arith, roots.few, ready.most);
    widths_long = w.room.widths_long;
    kinds_long = w.room.kinds_long;
    narrow = λ g p. rw (width_at g p) (bits_narrow (own_facts s g).kind (own_facts s g).width (w.narrow g (number_of g p) p));
    members = λ g p. (let r : Member (bits_width (own_facts s g).kind (own_facts s g).width) (kind_number (own_facts s g).kind) = record { kind = (own_facts s g).kind; is = own_member s g } in
        rw (width_at g p, kinds_at g p) r);
  }

  to_chain : Faulty s os widths kinds → ChainFault s os
  to_chain r =
      let g : ℕ = r.group in
      record {
        number = g;
        fault = on_zero (get_or os g 0) (λ e. absurd (none_faulty s (get_or widths g 0) (get_or kinds g 0) (rw e at r.faulty)))
            (λ p. fault_own s g (get_or os g 0) (rw (width_at g p, kinds_at g p) at r.faulty));
      }

  from_chain : ChainFault s os → Faulty s os widths kinds
  from_chain r =
      let g : ℕ = r.number in
      record {
        group = g;
        faulty = on_zero (get_or os g 0) (λ e. absurd (r.fault (rw e (none_own s g))))
            (λ p. rw (width_at g p, kinds_at g p) (own_fault s g (get_or os g 0) r.fault));
      }

  pub single_decides : (r : Bool) → Decides (Faulty s os widths kinds) r → Decides (ChainFault s os) r
  single_decides r d = record { yes = λ z. to_chain (d.yes z); no = λ z p. d.no z (from_chain p) }

-- ---- room

pub zeros_vacant : Vacant (replicate {A = ℕ} 8192 0)
zeros_vacant = record {
  long = length-replicate {A = ℕ} 8192 0;
  none = λ j. elim (dec_le 8192 j) [
    | yes q ↦ get_or-eq_default (replicate {A = ℕ} 8192 0) 0 {n = j} (rw (length-replicate {A = ℕ} 8192 0) q)
    | no q ↦ get_or-replicate 8192 j 0 0 (omega arith)
  ];
}

-- the first k of many zeros
pub zeros_part : (size k : ℕ) → k ≤ size → length (take k (replicate {A = ℕ} size 0)) ≡ k
zeros_part size k h = length-take-le k (replicate size 0) (rw (length-replicate {A = ℕ} size 0) h)
