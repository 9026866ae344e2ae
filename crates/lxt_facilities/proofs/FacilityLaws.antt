-- Laws of the rows of the table of facilities: kinds and widths, and whether a row is allowed.
use Prim.Native.Nat.{ℕ, ◌+◌, ◌-◌, ◌≤◌, ◌<◌}
use native.Mathlib.Omega.{arith}
use mathlib.Core.Path.{◌≡◌, ap, ◌∙◌}
use mathlib.Core.Bool.{Bool, true, false, not, ◌&&◌}
use mathlib.Core.List.{List}
use Rattle.std.proofs.Common.{◌⊎◌, inl, inr}
use lib.ListN.{length, get_or, take, drop}
use lib.Seq.{length-slice}
use lib.Dec.{leb}
use borrow.Author.Tests.{le-leb, lt-leb, ne_eqb, not-true, not-false}
use Rattle.lxt_format.specs.Limits.{longest_name, widest_facility}
use Rattle.lxt_format.specs.Geometry.{width_between, facts_by}
use Rattle.lxt_format.specs.declared.Kind.{Kind}
use Rattle.lxt_format.specs.declared.Kind.TheVariants.{Bits, Integer, Real, Text}
use Rattle.lxt_written.specs.Input.{part, kind_of_code, facility_of, facility_row_allowed}
use Rattle.lxt_written.specs.Writing.{no_zero, name_allowed, facts_for, facility_allowed}
use Rattle.lxt_pack.proofs.PartLaws.{part_is}

-- ---- the kind of a code

module _ (code : ℕ) where
  -- 1 is an integer
  pub code_integer : code ≡ 1 → Integer ≡ kind_of_code code
  unfolding kind_of_code
  code_integer e = rw e

  -- 2 is a real
  pub code_real : code ≡ 2 → Real ≡ kind_of_code code
  unfolding kind_of_code
  code_real e = rw e

  -- 3 is a text
  pub code_text : code ≡ 3 → Text ≡ kind_of_code code
  unfolding kind_of_code
  code_text e = rw e

  -- what is none of these is bits
  pub code_bits : (code ≡ 1 → ⊥) → (code ≡ 2 → ⊥) → (code ≡ 3 → ⊥) → Bits ≡ kind_of_code code
  unfolding kind_of_code
  code_bits a b c = simp (ne_eqb code 1 a, ne_eqb code 2 b, ne_eqb code 3 c)

-- ---- the width of a kind

module _ (kind : Kind) (msb lsb : ℕ) where
  -- bits are as wide as msb and lsb say
  pub width_bits : kind ≡ Bits → (w : ℕ) → w ≡ width_between msb lsb → w ≡ (facts_by kind msb lsb).width
  unfolding facts_by
  width_bits e w ew = rw e ew

  -- an integer has 32 bits
  pub width_integer : kind ≡ Integer → 32 ≡ (facts_by kind msb lsb).width
  unfolding facts_by
  width_integer e = rw e

  -- a real has no width, nor has a text
  pub width_none : (kind ≡ Real) ⊎ (kind ≡ Text) → 0 ≡ (facts_by kind msb lsb).width
  unfolding facts_by
  width_none (inl e) = rw e
  width_none (inr e) = rw e

-- ---- a row

-- a row means a facility, and the facility is allowed
abbrev pub row_allowed : List ℕ → List ℕ → Bool
row_allowed names row = facility_row_allowed names row && facility_allowed (facility_of names row)

-- a part has its size
pub part_long : (pool : List ℕ) (start size : ℕ) → start + size ≤ length pool → length (part pool start size) ≡ size
unfolding part
part_long pool start size h = length-slice start (start + size) pool h ∙ omega arith

module _ (names row : List ℕ) where
  -- the name is not inside its pool
  pub name_outside : length names < get_or row 0 0 + get_or row 1 0 → false ≡ row_allowed names row
  unfolding facility_row_allowed
  name_outside h = rw (lt-leb (get_or row 0 0 + get_or row 1 0) (length names) h)

  module _ (inside : get_or row 0 0 + get_or row 1 0 ≤ length names) where
    -- the kind is above 3
    pub kind_above : 3 < get_or row 2 0 → false ≡ row_allowed names row
    unfolding facility_row_allowed
    kind_above h = rw (le-leb (get_or row 0 0 + get_or row 1 0) (length names) inside, lt-leb (get_or row 2 0) 3 h)

    module _ (kind : get_or row 2 0 ≤ 3) (short : Bool) (es : short ≡ leb (get_or row 1 0) longest_name) where
      -- what is left is the length, the bytes of the name and the width
      row_is : row_allowed names row ≡ ((short && no_zero (part names (get_or row 0 0) (get_or row 1 0))) && leb (facts_for (facility_of names row)).width widest_facility)
      unfolding facility_row_allowed facility_allowed name_allowed facility_of
      row_is =
          rw (le-leb (get_or row 0 0 + get_or row 1 0) (length names) inside, le-leb (get_or row 2 0) 3 kind)
          (rw (part_long names (get_or row 0 0) (get_or row 1 0) inside, ← es))

      -- the name is too long
      pub name_too_long : not short ≡ true → false ≡ row_allowed names row
      name_too_long h = rw (row_is, not-true short h)

      module _ (fits : not short ≡ false) (none : Bool) (en : none ≡ no_zero (take (get_or row 0 0 + get_or row 1 0 - get_or row 0 0) (drop (get_or row 0 0) names))) where
        -- then it is the bytes of the name and the width
        none_is : row_allowed names row ≡ (none && leb (facts_for (facility_of names row)).width widest_facility)
        unfolding part
        none_is =
            let lent = part_is names (get_or row 0 0) (get_or row 0 0 + get_or row 1 0) (omega arith) inside in
            rw (row_is, not-false short fits, en ∙ ap no_zero lent)

        -- a byte of the name is 0
        pub name_has_zero : not none ≡ true → false ≡ row_allowed names row
        name_has_zero h = rw (none_is, not-true none h)

        -- the width decides
        pub width_decides : not none ≡ false → (k : Kind) → k ≡ kind_of_code (get_or row 2 0) → (w : ℕ) → w ≡ (facts_by k (get_or row 3 0) (get_or row 4 0)).width
            → (r : Bool) → r ≡ leb w widest_facility → r ≡ row_allowed names row
        unfolding facts_for facility_of
        width_decides h k ek w ew r er = rw (none_is, not-false none h, er, ew, ek)
