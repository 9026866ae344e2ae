-- A law for each way out of the functions on the sections of one byte.
use Rattle.std.specs.Prelude.{if◌then◌else◌}
use Prim.Native.Nat.{ℕ, suc, ◌+◌, ◌-◌, ◌≤◌, ◌<◌}
use mathlib.Core.Path.{◌≡◌, refl, sym, ◌∙◌}
use mathlib.Core.Bool.{Bool, true, false, ◌&&◌}
use mathlib.Core.List.{List}
use lib.ListN.{length}
use lib.IntN.{ℤ, pos, negsuc}
use lib.Signed.{le_z}
use native.Mathlib.Omega.{arith}
use native.Mathlib.Decide.{dec_le}
use mir.Syntax.{w8}
use mir.Val.{SFits, to_z, of_z}
use mir.ValLaws.{to_z-of_z}
use borrow.Author.Tests.{le-leb, lt-leb, ne_eqb}
use Rattle.lxt_format.specs.Bytes.{byte_at, signed}
use Rattle.lxt_format.specs.Sections.{section_of, present, timescale_allowed, timescale_of, initial_of}
use Rattle.lxt_tables.specs.Asked.{OneByte}

pub readable : (s : List ℕ) (tag at : ℕ) → OneByte s tag at → (at ≡ 0 → ⊥) → at < length s
readable s tag at p n = p.inside n

-- ---- the timescale

-- the timescale of a byte
abbrev scaled : ℕ → ℤ
scaled b = if timescale_allowed (signed 8 b) then signed 8 b else negsuc 8

-- 8 bits read as a signed number
signed_8 : (b : ℕ) → to_z w8 b ≡ signed 8 b
unfolding signed
signed_8 b = let top : 256 - suc b ≡ 255 - b = omega arith in simp top

-- from -21 to 2
between : (z : ℤ) → (le_z (negsuc 20) z && le_z z (pos 2)) ≡ timescale_allowed z
unfolding timescale_allowed
between (pos k) = refl
between (negsuc k) =
    elim (dec_le k 20) [
      | yes h ↦ (let l : k + 1 ≤ 21 = omega arith in simp (le-leb k 20 h, le-leb (k + 1) 21 l))
      | no h ↦ (let g : 20 < k = omega arith in let l : 21 < k + 1 = omega arith in simp (lt-leb k 20 g, lt-leb (k + 1) 21 l))
    ]

module _ (s : List ℕ) (at : ℕ) (p : OneByte s 0x05 at) where
  pub scale_absent : at ≡ 0 → negsuc 8 ≡ timescale_of s
  unfolding timescale_of present
  scale_absent e = let z : section_of s 0x05 ≡ 0 = sym p.start ∙ e in rw z

  module _ (n : at ≡ 0 → ⊥) where
    scale_is : scaled (byte_at s at) ≡ timescale_of s
    unfolding timescale_of present
    scale_is = rw (← p.start) (simp (ne_eqb at 0 n))

    module _ (a : ℤ) (fits : SFits w8 a) (ea : a ≡ to_z w8 (byte_at s at)) where
      read : to_z w8 (of_z w8 a) ≡ signed 8 (byte_at s at)
      read = to_z-of_z w8 a fits ∙ (ea ∙ signed_8 (byte_at s at))

      tested : (b : Bool) → (le_z (negsuc 20) (to_z w8 (of_z w8 a)) && le_z (to_z w8 (of_z w8 a)) (pos 2)) ≡ b → timescale_allowed (signed 8 (byte_at s at)) ≡ b
      tested b h = sym (between (signed 8 (byte_at s at))) ∙ (rw read at h)

      pub scale_kept : (le_z (negsuc 20) (to_z w8 (of_z w8 a)) && le_z (to_z w8 (of_z w8 a)) (pos 2)) ≡ true → to_z w8 (of_z w8 a) ≡ timescale_of s
      scale_kept h = let k : signed 8 (byte_at s at) ≡ scaled (byte_at s at) = rw (tested true h) in read ∙ (k ∙ scale_is)

      pub scale_other : (le_z (negsuc 20) (to_z w8 (of_z w8 a)) && le_z (to_z w8 (of_z w8 a)) (pos 2)) ≡ false → negsuc 8 ≡ timescale_of s
      scale_other h = let k : negsuc 8 ≡ scaled (byte_at s at) = rw (tested false h) in k ∙ scale_is

-- ---- the initial symbol

module _ (s : List ℕ) (at : ℕ) (p : OneByte s 0x07 at) where
  pub initial_absent : at ≡ 0 → 3 ≡ initial_of s
  unfolding initial_of present
  initial_absent e = let z : section_of s 0x07 ≡ 0 = sym p.start ∙ e in rw z

  module _ (n : at ≡ 0 → ⊥) where
    pub initial_code : byte_at s at ≤ 8 → byte_at s at ≡ initial_of s
    unfolding initial_of present
    initial_code h = rw (← p.start) (simp (ne_eqb at 0 n, le-leb (byte_at s at) 8 h))

    pub initial_other : 8 < byte_at s at → 3 ≡ initial_of s
    unfolding initial_of present
    initial_other h = rw (← p.start) (simp (ne_eqb at 0 n, lt-leb (byte_at s at) 8 h))
