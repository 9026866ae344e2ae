-- The real test of a written file: refusal 14, and the byte order of reals.
use Prim.Native.Nat.{ℕ, ◌+◌, ◌≤◌}
use mathlib.Core.Path.{◌≡◌, refl}
use mathlib.Core.Bool.{true}
use mathlib.Core.List.{List}
use lib.ListN.{length}
use native.Mathlib.Omega.{arith}
use borrow.Author.Tests.{le-leb}
use Rattle.lxt_format.specs.Limits.{longest_file}
use Rattle.lxt_format.specs.Basics.{all}
use Rattle.lxt_format.specs.BasicsLaws.{on_test, both_and}
use Rattle.lxt_format.specs.Sections.{section_of, end_of, inside}
use Rattle.lxt_format.specs.Reals.{test_pattern, place_of, test_bytes, is_reordering, byte_order, real_test_allowed}
use Rattle.lxt_written.specs.Input.{Trace}
use Rattle.lxt_written.specs.WrittenFile.{any_real}
use Rattle.lxt_round_trip.specs.Steps.{lowest_first}
use Rattle.lxt_round_trip.proofs.TableLaws.{stands_part}
use Rattle.lxt_round_trip.proofs.AllowedLaws.{Kept}
use Rattle.lxt_round_trip.proofs.BodyLaws.{Bodies}
use Rattle.lxt_round_trip.proofs.FrameLaws.{there}
use Rattle.lxt_round_trip.proofs.GeometryReadLaws.{real_there}

-- the pattern itself is a reordering of it, and is in order
pattern_allowed : is_reordering test_pattern ≡ true
unfolding is_reordering all place_of
pattern_allowed = refl

module _ (t : Trace) (s : List ℕ) (b : Bodies t s) where
  -- the test bytes are the pattern
  test_read : any_real t ≡ true → test_bytes s ≡ test_pattern
  unfolding test_bytes
  test_read r = stands_part s (section_of s 0x08) test_pattern (b.test r)

  -- the byte order of reals is lowest first
  pub order_read : any_real t ≡ true → byte_order s ≡ lowest_first
  unfolding byte_order place_of
  order_read r = rw (test_read r)

  -- the test lies between offset 4 and T
  test_inside : any_real t ≡ true → inside (end_of s) (section_of s 0x08) 8 ≡ true
  test_inside r =
      let at = b.test_at r in
      let e : end_of s ≡ section_of s 0x07 + 1 + 8 = rw r at b.end in
      both_and _ _ (le-leb 4 (section_of s 0x08) (omega arith)) (le-leb (section_of s 0x08 + 8) (end_of s) (omega arith))

  -- 14
  pub test_allowed : length s ≤ longest_file → Kept t → real_test_allowed s ≡ true
  unfolding real_test_allowed
  test_allowed short k =
      rw (real_there t s b short k)
      (on_test (any_real t)
      (λ r. rw (r, there s 0x08 (omega (arith, b.test_at r)), test_inside r, test_read r) pattern_allowed)
      (λ r. rw r))
