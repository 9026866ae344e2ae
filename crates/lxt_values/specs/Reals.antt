-- What the functions on reals ask, and that the real test of an accepted file gives it.
use Rattle.std.specs.Prelude.{ℕ, zero, suc, ◌<◌, ◌≡◌, true, ◌&&◌, List, [], ◌∷◌, map, get_or, ltb}
use Rattle.std.proofs.Common.{arith, ltb-true}
use Rattle.lxt_format.specs.Basics.{all}
use Rattle.lxt_format.specs.BasicsLaws.{and_both}
use Rattle.lxt_format.specs.Sections.{section_of, present, inside, end_of}
use Rattle.lxt_format.specs.Reals.{test_pattern, place_of, test_bytes, is_reordering, byte_order, has_real, real_test_allowed}

-- each byte of a real has a place among the 8 bytes of its data
pub record Places (order : List ℕ) : Type 0 where
  pub place : (i : ℕ) → get_or order i 0 < 8

-- places of the bytes l in the test
places_of : (test l : List ℕ) → all (λ b. ltb (place_of b test) 8) l ≡ true → (i : ℕ) → get_or (map (λ b. place_of b test) l) i 0 < 8
unfolding all
places_of test [] h i = omega arith
places_of test (b ∷ l) h zero = ltb-true _ 8 (and_both (ltb (place_of b test) 8) (all (λ b. ltb (place_of b test) 8) l) h).0
places_of test (b ∷ l) h (suc i) = places_of test l (and_both (ltb (place_of b test) 8) (all (λ b. ltb (place_of b test) 8) l) h).1 i

-- where there is a real facility and the real test is allowed, the byte order has its places
pub order_places : (s : List ℕ) → has_real s ≡ true → real_test_allowed s ≡ true → Places (byte_order s)
unfolding real_test_allowed is_reordering byte_order
order_places s r h =
    let test : (present s 0x08 && (inside (end_of s) (section_of s 0x08) 8 && is_reordering (test_bytes s))) ≡ true = simp r at h in
    let both = and_both (present s 0x08) (inside (end_of s) (section_of s 0x08) 8 && is_reordering (test_bytes s)) test in
    let order = (and_both (inside (end_of s) (section_of s 0x08) 8) (is_reordering (test_bytes s)) both.1).1 in
    record { place = places_of (test_bytes s) test_pattern order }
