-- A law for each way out of the functions on the geometry.
use Prim.Native.Nat.{ℕ, zero, suc, ◌+◌, ◌*◌, ◌-◌, ◌/◌, ◌%◌, ◌≤◌, ◌<◌}
use mathlib.Core.Path.{◌≡◌, refl, sym, ◌∙◌}
use mathlib.Core.Bool.{Bool, true, false, not, ◌&&◌, ◌||◌, and_assoc, false≢true}
use mathlib.Core.List.{List}
use lib.IntN.{ℤ, pos, nat_abs, ◌-ℤ◌}
use lib.Dec.{leb, eqb}
use native.Mathlib.Omega.{arith}
use native.Mathlib.Numerals.{add-one}
use borrow.Author.Tests.{leb-true, not-true, eqb-true, ne_eqb}
use mir.Syntax.{w32}
use mir.Val.{SFits, to_z, of_z}
use mir.ValLaws.{to_z-of_z}
use Rattle.lxt_format.specs.Limits.{widest_facility}
use Rattle.lxt_format.specs.Basics.{range, all}
use Rattle.lxt_format.specs.BasicsLaws.{and_both, or_either, all_turn, all_stop, all_end}
use Rattle.lxt_format.specs.Bytes.{u32_at, signed}
use Rattle.lxt_format.specs.Geometry.{rows_of, msb_of, lsb_of, flags_of, is_alias, flags_allowed, kind_of_flags, width_between, geometry_allowed, geometries_allowed, facts_by, own_facts, sync_of}
use Rattle.lxt_format.specs.declared.Kind.{Kind}
use Rattle.lxt_format.specs.declared.Kind.TheVariants.{Bits, Integer, Real, Text}
use Rattle.lxt_format.specs.declared.Facts.{Facts}
use Rattle.lxt_tables.specs.Stage.{Geometry}
use Rattle.lxt_tables.specs.Asked.{Sync}

-- ---- the four numbers of an entry

module _ (s : List ℕ) (g n f : ℕ) (p : Geometry s g n) (v : ℕ) where
  pub rows_is : v ≡ u32_at s (g + 16 * f) → v ≡ rows_of s f
  unfolding rows_of
  rows_is e = e ∙ rw p.start

  pub msb_is : v ≡ u32_at s (g + 16 * f + 4) → v ≡ msb_of s f
  unfolding msb_of
  msb_is e = e ∙ rw p.start

  pub lsb_is : v ≡ u32_at s (g + 16 * f + 8) → v ≡ lsb_of s f
  unfolding lsb_of
  lsb_is e = e ∙ rw p.start

  pub flags_is : v ≡ u32_at s (g + 16 * f + 12) → v ≡ flags_of s f
  unfolding flags_of
  flags_is e = e ∙ rw p.start

pub sync_is : (s : List ℕ) (b n f : ℕ) (p : Sync s b n) (v : ℕ) → v ≡ u32_at s (b + 4 * f) → v ≡ sync_of s f
unfolding sync_of
sync_is s b n f p v e = e ∙ rw p.start

pub alias_is : (s : List ℕ) (f v : ℕ) → v ≡ flags_of s f → eqb (v / 8 % 2) 1 ≡ is_alias s f
unfolding is_alias
alias_is s f v e = rw e

-- ---- signed numbers

-- 32 bits read as a signed number
pub signed_is : (x : ℕ) → to_z w32 x ≡ signed 32 x
unfolding signed
signed_is x = let top : 4294967296 - suc x ≡ 4294967295 - x = omega arith in simp top

pub width_is : (x y : ℕ) (a : ℤ) → SFits w32 a → a ≡ signed 32 x → (b : ℤ) → SFits w32 b → b ≡ signed 32 y
    → (d : ℕ) → d ≡ nat_abs (to_z w32 (of_z w32 a) -ℤ to_z w32 (of_z w32 b)) → d + 1 ≡ width_between x y
unfolding width_between
width_is x y a fa ea b fb eb d e = rw (e, to_z-of_z w32 a fa, to_z-of_z w32 b fb, ea, eb)

-- ---- kinds and facts

pub flags_low : (v : ℕ) → v ≤ 2 → true ≡ flags_allowed v
unfolding flags_allowed
flags_low zero h = refl
flags_low (suc zero) h = refl
flags_low (suc (suc zero)) h = refl
flags_low (suc (suc (suc v))) h = absurd (omega arith)

pub flags_4 : (v : ℕ) → v ≡ 4 → true ≡ flags_allowed v
unfolding flags_allowed
flags_4 v e = rw e

pub flags_other : (v : ℕ) → (v ≡ 0 → ⊥) → (v ≡ 1 → ⊥) → (v ≡ 2 → ⊥) → (v ≡ 4 → ⊥) → false ≡ flags_allowed v
unfolding flags_allowed
flags_other v z a b c = simp (ne_eqb v 0 z, ne_eqb v 1 a, ne_eqb v 2 b, ne_eqb v 4 c)

module _ (v : ℕ) where
  pub integer_is : v ≡ 1 → Integer ≡ kind_of_flags v
  unfolding kind_of_flags
  integer_is e = rw e

  pub real_is : v ≡ 2 → Real ≡ kind_of_flags v
  unfolding kind_of_flags
  real_is e = rw e

  pub text_is : v ≡ 4 → Text ≡ kind_of_flags v
  unfolding kind_of_flags
  text_is e = rw e

  pub bits_is : (v ≡ 1 → ⊥) → (v ≡ 2 → ⊥) → (v ≡ 4 → ⊥) → Bits ≡ kind_of_flags v
  unfolding kind_of_flags
  bits_is a b c = simp (ne_eqb v 1 a, ne_eqb v 2 b, ne_eqb v 4 c)

-- flags that refusal 11 passes and that mean bits are 0
bits_zero : (v : ℕ) → flags_allowed v ≡ true → kind_of_flags v ≡ Bits → eqb v 0 ≡ false → ⊥
unfolding flags_allowed kind_of_flags
bits_zero v h k z =
    let one : eqb v 1 ≡ true → ⊥ = λ e. let q : Integer ≡ Bits = rw e at k in let c : ◌≡◌ {A = ℕ} 0 1 = cc in omega arith in
    let two : eqb v 2 ≡ true → ⊥ = λ e. let d = eqb-true v 2 e in let q : Real ≡ Bits = rw d at k in let c : ◌≡◌ {A = ℕ} 0 1 = cc in omega arith in
    let four : eqb v 4 ≡ true → ⊥ = λ e. let d = eqb-true v 4 e in let q : Text ≡ Bits = rw d at k in let c : ◌≡◌ {A = ℕ} 0 1 = cc in omega arith in
    or_either (eqb v 0) (eqb v 1 || (eqb v 2 || eqb v 4)) h (λ e. absurd (false≢true (sym z ∙ e)))
    (λ e. or_either (eqb v 1) (eqb v 2 || eqb v 4) e one (λ e. or_either (eqb v 2) (eqb v 4) e two four))

-- msb and lsb are read back from their bits
pub bits_facts_is : (x y : ℕ) (w : ℕ) → w ≡ width_between x y → (a : ℤ) → SFits w32 a → a ≡ signed 32 x → (b : ℤ) → SFits w32 b → b ≡ signed 32 y
    → ◌≡◌ {A = Facts} (record { width = w; msb = to_z w32 (of_z w32 a); lsb = to_z w32 (of_z w32 b); kind = Bits }) (facts_by Bits x y)
unfolding facts_by
bits_facts_is x y w ew a fa ea b fb eb = rw (to_z-of_z w32 a fa, to_z-of_z w32 b fb, ew, ea, eb)

module _ (s : List ℕ) (f v : ℕ) (ev : v ≡ flags_of s f) (k : Kind) (ek : k ≡ kind_of_flags v) where
  facts_are : own_facts s f ≡ facts_by k (msb_of s f) (lsb_of s f)
  unfolding own_facts
  facts_are = rw (← ev, ← ek)

  pub integer_facts : k ≡ Integer → ◌≡◌ {A = Facts} (record { width = 32; msb = pos 31; lsb = pos 0; kind = Integer }) (own_facts s f)
  integer_facts e = sym (facts_are ∙ rw e (unfold facts_by in refl))

  pub real_facts : k ≡ Real → ◌≡◌ {A = Facts} (record { width = 0; msb = pos 0; lsb = pos 0; kind = Real }) (own_facts s f)
  real_facts e = sym (facts_are ∙ rw e (unfold facts_by in refl))

  pub text_facts : k ≡ Text → ◌≡◌ {A = Facts} (record { width = 0; msb = pos 0; lsb = pos 0; kind = Text }) (own_facts s f)
  text_facts e = sym (facts_are ∙ rw e (unfold facts_by in refl))

  module _ (e : k ≡ Bits) (x : ℕ) (ex : x ≡ msb_of s f) (y : ℕ) (ey : y ≡ lsb_of s f) where
    pub bits_facts : (r : Facts) → r ≡ facts_by Bits x y → r ≡ own_facts s f
    bits_facts r q = q ∙ rw (ex, ey, ← e) (sym facts_are)

    -- bits that refusal 11 passes are not too wide
    pub width_fits : geometry_allowed s f ≡ true → is_alias s f ≡ false → width_between x y ≤ widest_facility
    unfolding geometry_allowed
    width_fits h plain =
        let a = and_both (eqb (rows_of s f) 0) (flags_allowed (flags_of s f) && (not (eqb (flags_of s f) 0) || leb (width_between (msb_of s f) (lsb_of s f)) widest_facility)) (rw plain at h) in
        let b = and_both (flags_allowed (flags_of s f)) (not (eqb (flags_of s f) 0) || leb (width_between (msb_of s f) (lsb_of s f)) widest_facility) a.1 in
        or_either (not (eqb (flags_of s f) 0)) (leb (width_between (msb_of s f) (lsb_of s f)) widest_facility) b.1
        (λ c. absurd (bits_zero (flags_of s f) b.0 (rw (← ev) (sym ek ∙ e)) (not-true (eqb (flags_of s f) 0) c)))
        (λ c. rw (ex, ey) (leb-true _ _ c))

-- ---- refusal 11

pub entry_is : (s : List ℕ) (f : ℕ) (a : Bool) → a ≡ is_alias s f → (r : ℕ) → r ≡ rows_of s f → (v : ℕ) → v ≡ flags_of s f
    → (x : ℕ) → x ≡ msb_of s f → (y : ℕ) → y ≡ lsb_of s f → (w : ℕ) → w ≡ width_between x y → (b : Bool) → b ≡ flags_allowed v
    → (d : Bool) → d ≡ leb w widest_facility → (a || (eqb r 0 && b && (not (eqb v 0) || d))) ≡ geometry_allowed s f
unfolding geometry_allowed
entry_is s f a ea r er v ev x ex y ey w ew b eb d ed = rw (and_assoc, ea, er, eb, ed, ew, ev, ex, ey)

module _ (s : List ℕ) (g n : ℕ) (p : Geometry s g n) where
  pub entries_begun : all (geometry_allowed s) (range 0 (n - 0)) ≡ geometries_allowed s
  unfolding geometries_allowed
  entries_begun = let e : n - 0 ≡ n = omega arith in rw (e, p.count)

  module _ (f : ℕ) (inv : all (geometry_allowed s) (range f (n - f)) ≡ geometries_allowed s) where
    pub entries_end : n ≤ f → true ≡ geometries_allowed s
    entries_end h = sym (all_end (geometry_allowed s) f n h) ∙ inv

    module _ (h : f < n) (b : Bool) (eb : b ≡ geometry_allowed s f) where
      pub entries_stop : b ≡ false → false ≡ geometries_allowed s
      entries_stop z = sym (all_stop (geometry_allowed s) f n h (sym eb ∙ z)) ∙ inv

      pub entries_turn : b ≡ true → all (geometry_allowed s) (range (f + 1) (n - (f + 1))) ≡ geometries_allowed s
      entries_turn z = rw add-one (sym (all_turn (geometry_allowed s) f n h (sym eb ∙ z)) ∙ inv)
