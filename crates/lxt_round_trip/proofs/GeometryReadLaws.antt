-- The geometry of a written file: refusals 11 and 12, and the facts of each facility.
use Prim.Native.Nat.{ℕ, ◌+◌, ◌*◌, ◌/◌, ◌%◌, ◌≤◌, ◌<◌}
use mathlib.Core.Path.{◌≡◌, refl}
use mathlib.Core.Bool.{true, false, not, ◌||◌}
use mathlib.Core.List.{List, [], ◌∷◌}
use lib.ListN.{length}
use lib.Dec.{ltb, leb, eqb}
use native.Mathlib.Omega.{arith}
use native.Mathlib.Nat.{add-zero, zero-add}
use borrow.Author.Tests.{le-leb, lt-ltb}
use Rattle.lxt_format.specs.Limits.{longest_file, widest_facility}
use Rattle.lxt_format.specs.Basics.{range}
use Rattle.lxt_format.specs.BasicsLaws.{range_all}
use Rattle.lxt_format.specs.Sections.{section_of}
use Rattle.lxt_format.specs.Geometry.{rows_of, msb_of, lsb_of, flags_of, is_alias, flags_allowed, kind_of_flags, width_between}
use Rattle.lxt_format.specs.Geometry.{geometry_allowed, geometries_allowed, facts_by, own_facts, root_of, aliases_allowed, roots_of, facts_of}
use Rattle.lxt_format.proofs.GeometryLaws.{root_self}
use Rattle.lxt_format.specs.Reals.{is_real, has_real}
use Rattle.lxt_format.specs.declared.Kind.{Kind}
use Rattle.lxt_format.specs.declared.Kind.TheVariants.{Bits, Integer, Real, Text}
use Rattle.lxt_written.specs.Input.{Facility, Trace}
use Rattle.lxt_written.specs.WrittenChanges.{no_facility, numbered}
use Rattle.lxt_written.specs.WrittenFile.{flags_for, msb_for, lsb_for, geometry_bytes, geometry_body, any_real}
use Rattle.lxt_written.specs.Writing.{facts_for}
use Rattle.lxt_written.specs.Stands.{Stands}
use Rattle.lxt_round_trip.proofs.TableLaws.{stands_row, stands_word}
use Rattle.lxt_round_trip.proofs.ListLaws.{each_at, any_places, select_range}
use Rattle.lxt_round_trip.proofs.AllowedLaws.{FacilityKept, Kept}
use Rattle.lxt_round_trip.proofs.BodyLaws.{Bodies}
use Rattle.lxt_written.specs.TableSizes.{length_geometry}
use Rattle.lxt_round_trip.proofs.FrameLaws.{count_read}

-- ---- kinds

-- what is written of a kind is read as it
kind_read : (k : Kind) → kind_of_flags (flags_for k) ≡ k
unfolding kind_of_flags flags_for
kind_read Bits = refl
kind_read Integer = refl
kind_read Real = refl
kind_read Text = refl

-- it is no alias
flags_plain : (k : Kind) → eqb (flags_for k / 8 % 2) 1 ≡ false
unfolding flags_for
flags_plain Bits = refl
flags_plain Integer = refl
flags_plain Real = refl
flags_plain Text = refl

-- its flags are allowed
flags_allowed_lem : (k : Kind) → flags_allowed (flags_for k) ≡ true
unfolding flags_allowed flags_for
flags_allowed_lem Bits = refl
flags_allowed_lem Integer = refl
flags_allowed_lem Real = refl
flags_allowed_lem Text = refl

-- the facts are those of what was given
facts_same : (k : Kind) (msb lsb : ℕ) → facts_by k (msb_for k msb) (lsb_for k lsb) ≡ facts_by k msb lsb
unfolding facts_by msb_for lsb_for
facts_same Bits msb lsb = refl
facts_same Integer msb lsb = refl
facts_same Real msb lsb = refl
facts_same Text msb lsb = refl

-- the width is allowed where that of the facts is
width_allowed : (k : Kind) (msb lsb : ℕ) → (facts_by k msb lsb).width ≤ widest_facility
    → (not (eqb (flags_for k) 0) || leb (width_between (msb_for k msb) (lsb_for k lsb)) widest_facility) ≡ true
unfolding facts_by flags_for msb_for lsb_for
width_allowed Bits msb lsb h = le-leb _ _ h
width_allowed Integer msb lsb h = refl
width_allowed Real msb lsb h = refl
width_allowed Text msb lsb h = refl

-- the kind of the facts is the kind
facts_kind : (k : Kind) (msb lsb : ℕ) → (facts_by k msb lsb).kind ≡ k
unfolding facts_by
facts_kind Bits msb lsb = refl
facts_kind Integer msb lsb = refl
facts_kind Real msb lsb = refl
facts_kind Text msb lsb = refl

-- each number has 4 bytes
numbers_small : (k : Kind) (msb lsb : ℕ) → msb < 4294967296 → lsb < 4294967296
    → (msb_for k msb < 4294967296) × (lsb_for k lsb < 4294967296) × (flags_for k < 4294967296)
unfolding flags_for msb_for lsb_for
numbers_small Bits msb lsb a b = (a, b, omega arith)
numbers_small Integer msb lsb a b = omega arith
numbers_small Real msb lsb a b = omega arith
numbers_small Text msb lsb a b = omega arith

-- ---- one facility

-- what stands for a facility is read
record Entry (s : List ℕ) (f : ℕ) (g : Facility) : Type 0 where
  rows : rows_of s f ≡ 0
  msb : msb_of s f ≡ msb_for g.kind g.msb
  lsb : lsb_of s f ≡ lsb_for g.kind g.lsb
  flags : flags_of s f ≡ flags_for g.kind

-- the four numbers of a facility
entry_read : (s : List ℕ) (f : ℕ) (g : Facility) → Stands s (section_of s 0x04 + 16 * f) (geometry_bytes g) → FacilityKept g → Entry s f g
unfolding geometry_bytes rows_of msb_of lsb_of flags_of
entry_read s f g h k =
    let o : ℕ = section_of s 0x04 + 16 * f in
    let small = numbers_small g.kind g.msb g.lsb k.msb k.lsb in
    let row : List ℕ = 0 ∷ msb_for g.kind g.msb ∷ lsb_for g.kind g.lsb ∷ flags_for g.kind ∷ [] in
    record {
      rows = rw add-zero at (stands_word row s o h 0 (omega arith) (omega arith));
      msb = stands_word row s o h 1 (omega arith) small.0;
      lsb = stands_word row s o h 2 (omega arith) small.1;
      flags = stands_word row s o h 3 (omega arith) small.2;
    }

module _ (s : List ℕ) (f : ℕ) (g : Facility) (e : Entry s f g) where
  -- it is no alias
  no_alias : is_alias s f ≡ false
  unfolding is_alias
  no_alias = rw e.flags (flags_plain g.kind)

  -- its facts are those that were given
  facts_read : own_facts s f ≡ facts_for g
  unfolding own_facts facts_for
  facts_read = rw (e.flags, e.msb, e.lsb, kind_read g.kind) (facts_same g.kind g.msb g.lsb)

  -- its rows, flags and width are allowed
  geometry_allowed_lem : (facts_for g).width ≤ widest_facility → geometry_allowed s f ≡ true
  unfolding geometry_allowed facts_for
  geometry_allowed_lem w = rw (no_alias, e.rows, e.flags, e.msb, e.lsb, flags_allowed_lem g.kind) (width_allowed g.kind g.msb g.lsb w)

-- ---- all facilities

module _ (t : Trace) (s : List ℕ) (b : Bodies t s) (short : length s ≤ longest_file) (k : Kept t) where
  -- facility f may be written
  kept_at : (f : ℕ) → f < length t.facilities → FacilityKept (numbered t.facilities f)
  kept_at f h = each_at no_facility k.facilities f h

  -- what stands for facility f is read
  entry_at : (f : ℕ) → f < length t.facilities → Entry s f (numbered t.facilities f)
  unfolding geometry_body
  entry_at f h =
      entry_read s f (numbered t.facilities f)
      (stands_row 16 geometry_bytes length_geometry s (section_of s 0x04) t.facilities no_facility b.geometry f h) (kept_at f h)

  -- facility f is no alias
  plain_at : (f : ℕ) → f < length t.facilities → is_alias s f ≡ false
  plain_at f h = no_alias s f (numbered t.facilities f) (entry_at f h)

  -- 11
  pub geometries_allowed_lem : geometries_allowed s ≡ true
  unfolding geometries_allowed
  geometries_allowed_lem =
      rw (count_read t s b short k)
      (range_all (geometry_allowed s) 0 (length t.facilities) (λ f a l.
      let h : f < length t.facilities = omega arith in
      geometry_allowed_lem s f (numbered t.facilities f) (entry_at f h) (kept_at f h).width))

  -- every facility is its own root
  pub own_root : (f : ℕ) → f < length t.facilities → root_of s f ≡ f
  own_root f h = let n = count_read t s b short k in root_self s f (omega arith) (plain_at f h)

  -- 12
  pub aliases_allowed_lem : aliases_allowed s ≡ true
  unfolding aliases_allowed
  aliases_allowed_lem =
      rw (count_read t s b short k)
      (range_all (λ f. ltb (root_of s f) (length t.facilities)) 0 (length t.facilities) (λ f a l.
      let h : f < length t.facilities = omega arith in
      rw (own_root f h) (lt-ltb f (length t.facilities) h)))

  -- the roots are all facilities
  pub roots_all : roots_of s ≡ range 0 (length t.facilities)
  unfolding roots_of
  roots_all =
      rw (count_read t s b short k)
      (select_range (λ f. not (is_alias s f)) 0 (length t.facilities) (λ f a l. rw (plain_at f (omega arith))))

  -- the facts of each are those that were given
  pub own_facts_lem : (f : ℕ) → f < length t.facilities → own_facts s f ≡ facts_for (numbered t.facilities f)
  own_facts_lem f h = facts_read s f (numbered t.facilities f) (entry_at f h)

  -- by its root too
  pub facts_given : (f : ℕ) → f < length t.facilities → facts_of s f ≡ facts_for (numbered t.facilities f)
  unfolding facts_of
  facts_given f h = rw (own_root f h) (own_facts_lem f h)

  -- there is a real where one was given
  pub real_there : has_real s ≡ any_real t
  unfolding has_real any_real
  real_there =
      rw roots_all
      (any_places (λ f. is_real (own_facts s f).kind) (λ g. is_real g.kind) no_facility 0 t.facilities (λ f h.
      rw (zero-add f, own_facts_lem f h) (kind_of (numbered t.facilities f))))
    where
      kind_of : (g : Facility) → is_real (facts_for g).kind ≡ is_real g.kind
      kind_of g = unfold facts_for in (rw (facts_kind g.kind g.msb g.lsb))
