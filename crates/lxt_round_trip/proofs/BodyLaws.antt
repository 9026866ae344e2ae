-- Where each section of a written file starts, and that its body stands there.
use Prim.Native.Nat.{ℕ, ◌+◌, ◌≤◌, ◌<◌}
use mathlib.Core.Path.{◌≡◌, ap, ◌∙◌}
use mathlib.Core.Bool.{true}
use mathlib.Core.List.{List, [], ◌∷◌, ◌++◌}
use lib.ListN.{length, length-append}
use native.Mathlib.Omega.{arith}
use Rattle.lxt_format.specs.Limits.{longest_file}
use Rattle.lxt_format.specs.Basics.{joined}
use Rattle.lxt_format.specs.Bytes.{byte_at}
use Rattle.lxt_format.specs.Sections.{value_in, section_of, end_of}
use Rattle.lxt_format.specs.Reals.{test_pattern}
use Rattle.lxt_written.specs.Input.{Trace}
use Rattle.lxt_written.specs.WrittenFile.{names_body, geometry_body, sync_body, times_body, signed_byte, any_real, sections_of, places_of}
use Rattle.lxt_written.specs.Stands.{Stands, stands_front, stands_back}
use Rattle.lxt_written.specs.WrittenLaws.{test_body, sections_are, starts_are}
use Rattle.lxt_round_trip.specs.Steps.{changes_end}
use Rattle.lxt_round_trip.proofs.SectionLaws.{Shape, stands_byte, list_ends, section_placed, section_absent}

-- each section starts where the one before it ends, and its body stands there
pub record Bodies (t : Trace) (s : List ℕ) : Type 0 where
  pub changes_at : section_of s 0x01 ≡ 4
  pub names_at : section_of s 0x03 ≡ changes_end t
  pub geometry_at : section_of s 0x04 ≡ section_of s 0x03 + length (names_body t)
  pub sync_at : section_of s 0x02 ≡ section_of s 0x04 + length (geometry_body t)
  pub times_at_lem : section_of s 0x06 ≡ section_of s 0x02 + length (sync_body t)
  pub timescale_at : section_of s 0x05 ≡ section_of s 0x06 + length (times_body t)
  pub initial_at : section_of s 0x07 ≡ section_of s 0x05 + 1
  pub test_at : any_real t ≡ true → section_of s 0x08 ≡ section_of s 0x07 + 1
  pub others : (tag : ℕ) → 0x09 ≤ tag → section_of s tag ≡ 0
  pub end : end_of s ≡ section_of s 0x07 + 1 + length (test_body t)
  pub end_inside : end_of s ≤ length s
  pub names : Stands s (section_of s 0x03) (names_body t)
  pub geometry : Stands s (section_of s 0x04) (geometry_body t)
  pub sync : Stands s (section_of s 0x02) (sync_body t)
  pub times : Stands s (section_of s 0x06) (times_body t)
  pub timescale : byte_at s (section_of s 0x05) ≡ signed_byte t.timescale
  pub initial : byte_at s (section_of s 0x07) ≡ t.initial
  pub test : any_real t ≡ true → Stands s (section_of s 0x08) test_pattern

-- where there is a real, the body of 08 is the pattern
test_is : (t : Trace) → any_real t ≡ true → test_body t ≡ test_pattern
test_is t e = rw e

module _ (t : Trace) (s : List ℕ) (h : Shape t s) (short : length s ≤ longest_file) where
  -- the bodies of a file of that shape stand where they start
  pub bodies : Bodies t s
  bodies =
      let p = starts_are t in
      let at : (tag : ℕ) → 0x01 ≤ tag → tag < 0x09 → section_of s tag ≡ value_in tag (places_of t) = λ tag a b. section_placed t s h short tag a b in
      let two = at 0x02 (omega arith) (omega arith) ∙ p.sync in
      let three = at 0x03 (omega arith) (omega arith) ∙ p.names in
      let four = at 0x04 (omega arith) (omega arith) ∙ p.geometry in
      let five = at 0x05 (omega arith) (omega arith) ∙ p.timescale in
      let six = at 0x06 (omega arith) (omega arith) ∙ p.times in
      let seven = at 0x07 (omega arith) (omega arith) ∙ p.initial in
      let eight : any_real t ≡ true → section_of s 0x08 ≡ section_of s 0x07 + 1 = λ e. at 0x08 (omega arith) (omega arith) ∙ p.test e ∙ rw seven in
      let small : List ℕ = signed_byte t.timescale ∷ t.initial ∷ test_body t in
      let e = sections_are t in
      let a : Stands s (changes_end t) (names_body t ++ (geometry_body t ++ (sync_body t ++ (times_body t ++ small)))) = rw e at h.sections in
      let b = stands_back s (changes_end t) (names_body t) (geometry_body t ++ (sync_body t ++ (times_body t ++ small))) a in
      let c = stands_back s (changes_end t + length (names_body t)) (geometry_body t) (sync_body t ++ (times_body t ++ small)) b in
      let d = stands_back s (changes_end t + length (names_body t) + length (geometry_body t)) (sync_body t) (times_body t ++ small) c in
      let f = stands_back s (changes_end t + length (names_body t) + length (geometry_body t) + length (sync_body t)) (times_body t) small d in
      let g = stands_back s _ (signed_byte t.timescale ∷ []) (t.initial ∷ test_body t) f in
      let i = stands_back s _ (t.initial ∷ []) (test_body t) g in
      let total : length (joined (λ x. x.body) (sections_of t)) ≡ length (names_body t) + length (geometry_body t) + length (sync_body t) + length (times_body t) + 2 + length (test_body t) =
      ap length e ∙ lengths (names_body t) (geometry_body t) (sync_body t) (times_body t) small ∙ omega arith in
      let T = (list_ends t s h short).1 in
      record {
        changes_at = at 0x01 (omega arith) (omega arith) ∙ p.changes;
        names_at = three;
        geometry_at = omega arith;
        sync_at = omega arith;
        times_at_lem = omega arith;
        timescale_at = omega arith;
        initial_at = omega arith;
        test_at = eight;
        others = section_absent t s h short;
        end = omega arith;
        end_inside = omega (arith, h.long);
        names = rw three (stands_front s _ (names_body t) _ a);
        geometry = rw four (stands_front s _ (geometry_body t) _ b);
        sync = rw two (stands_front s _ (sync_body t) _ c);
        times = rw six (stands_front s _ (times_body t) _ d);
        timescale = rw five (stands_byte s _ (signed_byte t.timescale) _ f);
        initial = rw seven (stands_byte s _ t.initial _ g);
        test = λ r. rw (eight r, seven, ← (test_is t r)) i;
      }
    where
      lengths : (a b c d e : List ℕ) → length (a ++ (b ++ (c ++ (d ++ e)))) ≡ length a + length b + length c + length d + length e
      lengths a b c d e =
          omega (arith, length-append a (b ++ (c ++ (d ++ e))), length-append b (c ++ (d ++ e)), length-append c (d ++ e), length-append d e)
