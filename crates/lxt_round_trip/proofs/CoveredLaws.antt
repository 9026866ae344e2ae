-- Every byte of a written file from the end of the changes up to T lies in a section.
use Prim.Native.Nat.{ℕ, zero, suc, ◌+◌, ◌≤◌, ◌<◌}
use mathlib.Core.Path.{◌≡◌, refl, sym}
use mathlib.Core.Bool.{Bool, true}
use mathlib.Core.List.{List, [], ◌∷◌}
use lib.ListN.{length, get_or}
use native.Mathlib.Omega.{arith}
use native.Mathlib.Decide.{dec_le}
use borrow.Author.Tests.{le-leb, lt-ltb}
use Rattle.lxt_format.specs.Limits.{longest_file}
use Rattle.lxt_format.specs.Basics.{any}
use Rattle.lxt_format.specs.BasicsLaws.{on_test, or_true}
use Rattle.lxt_format.specs.Sections.{section_of, end_of}
use Rattle.lxt_format.specs.Stray.{body_tags, whole_size, in_body}
use Rattle.lxt_written.specs.Input.{Trace}
use Rattle.lxt_written.specs.WrittenFile.{names_body, geometry_body, sync_body, times_body, any_real}
use Rattle.lxt_round_trip.specs.Steps.{changes_end}
use Rattle.lxt_round_trip.proofs.AllowedLaws.{Kept}
use Rattle.lxt_round_trip.proofs.BodyLaws.{Bodies}
use Rattle.lxt_written.specs.WrittenLaws.{names_long}
use Rattle.lxt_round_trip.proofs.FrameLaws.{there, times_size_lem, sync_size, geometry_size, small_size}
use Rattle.lxt_round_trip.proofs.NameTableLaws.{names_bytes}

-- a test that holds at a place holds of one
any_at : {A : Type 0} (p : A → Bool) (xs : List A) (d : A) (i : ℕ) → i < length xs → p (get_or xs i d) ≡ true → any p xs ≡ true
unfolding any
any_at p [] d i l h = absurd (omega arith)
any_at p (x ∷ xs) d zero l h = rw h
any_at p (x ∷ xs) d (suc i) l h = or_true (p x) (any_at p xs d i (omega arith) h)

-- a byte of a body of this size, which lies inside
in_body_lem : (s : List ℕ) (o tag size : ℕ) → whole_size s tag ≡ size → 4 ≤ section_of s tag → section_of s tag + size ≤ end_of s
    → section_of s tag ≤ o → o < section_of s tag + size → in_body s o tag ≡ true
unfolding in_body
in_body_lem s o tag size e low high from upto =
    rw (e, there s tag (omega arith), le-leb 4 (section_of s tag) low, le-leb (section_of s tag + size) (end_of s) high, le-leb (section_of s tag) o from, lt-ltb o (section_of s tag + size) upto)

module _ (t : Trace) (s : List ℕ) (b : Bodies t s) (short : length s ≤ longest_file) (k : Kept t) where
  -- the bytes of each body are those that were written
  record Sizes : Type 0 where
    sync : whole_size s 0x02 ≡ length (sync_body t)
    names : whole_size s 0x03 ≡ length (names_body t)
    geometry : whole_size s 0x04 ≡ length (geometry_body t)
    timescale : whole_size s 0x05 ≡ 1
    times : whole_size s 0x06 ≡ length (times_body t)
    initial : whole_size s 0x07 ≡ 1
    test : whole_size s 0x08 ≡ 8

  -- what is read as the size of a body is its length
  sizes : Sizes
  unfolding whole_size
  sizes =
      let small = small_size t s b short k in
      record {
        sync = sync_size t s b short k;
        names = rw (names_bytes t s b short k) (sym (names_long t));
        geometry = geometry_size t s b short k;
        timescale = small.1;
        times = times_size_lem t s b short k;
        initial = small.2;
        test = refl;
      }

  -- every byte after the changes and below a bound lies in a body
  abbrev Upto : ℕ → Type 0
  Upto bound = (o : ℕ) → changes_end t ≤ o → o < bound → any (in_body s o) body_tags ≡ true

  -- with one more section it is so up to that section's end
  one_more : (tag size i bound : ℕ) → whole_size s tag ≡ size → i < length body_tags → get_or body_tags i 0 ≡ tag
      → 4 ≤ section_of s tag → section_of s tag + size ≡ bound → bound ≤ end_of s → Upto (section_of s tag) → Upto bound
  one_more tag size i bound e l at low end high before o from upto =
      elim (dec_le (section_of s tag) o) [
        | yes a ↦ any_at (in_body s o) body_tags 0 i l (rw at (in_body_lem s o tag size e low (omega arith) a (omega arith)))
        | no n ↦ before o from (omega arith)
      ]

  -- the sections in their order
  pub covered : Upto (end_of s)
  covered =
      let z = sizes in
      let start : Upto (section_of s 0x03) = λ o from upto. absurd (omega arith) in
      let names : Upto (section_of s 0x04) = one_more 0x03 _ 1 (section_of s 0x04) z.names (omega arith) refl (omega arith) (omega arith) (omega arith) start in
      let geometry : Upto (section_of s 0x02) = one_more 0x04 _ 2 (section_of s 0x02) z.geometry (omega arith) refl (omega arith) (omega arith) (omega arith) names in
      let sync : Upto (section_of s 0x06) = one_more 0x02 _ 0 (section_of s 0x06) z.sync (omega arith) refl (omega arith) (omega arith) (omega arith) geometry in
      let times : Upto (section_of s 0x05) = one_more 0x06 _ 4 (section_of s 0x05) z.times (omega arith) refl (omega arith) (omega arith) (omega arith) sync in
      let timescale : Upto (section_of s 0x07) = one_more 0x05 1 3 (section_of s 0x07) z.timescale (omega arith) refl (omega arith) (omega arith) (omega arith) times in
      let initial : Upto (section_of s 0x07 + 1) = one_more 0x07 1 5 (section_of s 0x07 + 1) z.initial (omega arith) refl (omega arith) refl (omega arith) timescale in
      on_test (any_real t)
      (λ r. let at : section_of s 0x08 ≡ section_of s 0x07 + 1 = b.test_at r in
      let T : end_of s ≡ section_of s 0x07 + 1 + 8 = rw r at b.end in
      one_more 0x08 8 6 (end_of s) z.test (omega arith) refl (omega arith) (omega arith) (omega arith) (rw at initial))
      (λ r. let T : end_of s ≡ section_of s 0x07 + 1 + 0 = rw r at b.end in
      λ o from upto. initial o from (omega arith))
