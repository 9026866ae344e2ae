-- A law for each way out of the functions on the frame.
use Prim.Native.Nat.{ℕ, ◌≤◌}
use mathlib.Core.Path.{◌≡◌, sym, ◌∙◌}
use mathlib.Core.Bool.{Bool, true, false, ◌&&◌, and_assoc}
use mathlib.Core.List.{List}
use lib.ListN.{length}
use lib.Dec.{leb, eqb}
use borrow.Author.Tests.{leb-true, not-true, not-false}
use Rattle.lxt_format.specs.Basics.{given, refused, answer}
use Rattle.lxt_format.specs.BasicsLaws.{and_both}
use Rattle.lxt_format.specs.Bytes.{byte_at, u16_at}
use Rattle.lxt_format.specs.Sections.{length_allowed, starts_right, ends_right}
use Rattle.lxt_sections.specs.Stage.{frame_refusal}

module _ (s : List ℕ) where
  pub starts : (v : ℕ) → v ≡ u16_at s 2 → (eqb (byte_at s 0) 0x01 && eqb (byte_at s 1) 0x38 && leb v 4) ≡ starts_right s
  unfolding starts_right
  starts v e = rw (e, and_assoc)

  module _ (a : Bool) (ea : a ≡ (leb 6 (length s) && leb (length s) 16777216)) where
    pub outside : a ≡ false → refused 1 ≡ answer (frame_refusal s) (tt {0})
    unfolding frame_refusal length_allowed
    outside h = rw (← ea, h)

    pub six : a ≡ true → 6 ≤ length s
    six h = leb-true _ _ (and_both _ _ (sym ea ∙ h)).0

    module _ (ha : a ≡ true) (b : Bool) (eb : b ≡ starts_right s) where
      pub wrong_start : b ≡ false → refused 2 ≡ answer (frame_refusal s) (tt {0})
      unfolding frame_refusal length_allowed
      wrong_start h = rw (← ea, ha, ← eb, h)

      module _ (hb : b ≡ true) (d : Bool) (ed : d ≡ ends_right s) where
        pub wrong_end : d ≡ false → refused 3 ≡ answer (frame_refusal s) (tt {0})
        unfolding frame_refusal length_allowed
        wrong_end h = rw (← ea, ha, ← eb, hb, ← ed, h)

        pub framed : d ≡ true → given (tt {0}) ≡ answer (frame_refusal s) tt
        unfolding frame_refusal length_allowed
        framed h = rw (← ea, ha, ← eb, hb, ← ed, h)

pub ruleset frame-ways = (outside, wrong_start, wrong_end, framed, not-true, not-false)
