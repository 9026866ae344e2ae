-- The laws of writing a part of the names buffer.
use Prim.Native.Nat.{ℕ, ◌+◌, ◌-◌, ◌≤◌, ◌<◌}
use mathlib.Core.Path.{◌≡◌, refl, sym, ◌∙◌}
use mathlib.Core.List.{List}
use lib.ListN.{length, get_or, set, take, drop, replicate, length-set, length-drop, length-replicate}
use lib.Seq.{paste, paste-zero, paste-suc, get_or-drop, length-take-le}
use native.Mathlib.Numerals.{add-one}
use native.Mathlib.Omega.{arith}
use native.Mathlib.Nat.{le_refl}
use borrow.Rule.Slice.PartMut.{put_mid}
use Rattle.std.proofs.lemmas.List.{take-take}
use Rattle.std.proofs.lemmas.Slice.{put_mid-paste}

-- j of the n bytes of `new` stand in d from `at` on, which is else as d₀ was
pub record Pasted (new : List ℕ) (n at : ℕ) (d₀ d : List ℕ) (j : ℕ) : Type 0 where
  pub size : n ≤ length new
  pub room : at + n ≤ length d₀
  pub within : j ≤ n
  pub long : length d ≡ length d₀
  pub shows : d ≡ paste d₀ at new j

-- nothing is written yet
pub none_pasted : (new : List ℕ) (n at : ℕ) (d : List ℕ) → n ≤ length new → at + n ≤ length d → Pasted new n at d d 0
none_pasted new n at d h k = record { size = h; room = k; within = omega arith; long = refl; shows = paste-zero d at new }

module _ (new : List ℕ) (n at : ℕ) (d₀ d : List ℕ) (j : ℕ) (w : Pasted new n at d₀ d j) where
  -- one byte more
  pub one_pasted : j < n → (x : ℕ) → x ≡ get_or new j 0 → Pasted new n at d₀ (set d (at + j) x) (j + 1)
  one_pasted h x e =
      let size = w.size in
      let room = w.room in
      let l : at + j < length d₀ = omega arith in
      let m : j < length new = omega arith in
      record {
        size = w.size;
        room = w.room;
        within = omega arith;
        long = length-set d (at + j) x ∙ w.long;
        shows = rw (w.shows, add-one j, e) (paste-suc d₀ at new j 0 l m);
      }

  -- all are written
  pub all_pasted : n ≤ j → d ≡ paste d₀ at new n
  all_pasted h = let l = w.within in let e : j ≡ n = omega arith in rw e at w.shows

-- the bytes of a file from `from` on
pub copy_begun : (s : List ℕ) (from count : ℕ) (d : List ℕ) (at : ℕ) → from + count ≤ length s → at + count ≤ length d → Pasted (drop from s) count at d d 0
copy_begun s from count d at h k = none_pasted (drop from s) count at d (omega (arith, length-drop from s)) k

-- the next byte of the file is copied
pub copy_turn : (s : List ℕ) (from count : ℕ) (d₀ d : List ℕ) (at j : ℕ) → Pasted (drop from s) count at d₀ d j → j < count
    → Pasted (drop from s) count at d₀ (set d (at + j) (get_or s (from + j) 0)) (j + 1)
copy_turn s from count d₀ d at j w h = one_pasted (drop from s) count at d₀ d j w h (get_or s (from + j) 0) (sym (get_or-drop from s j 0))

-- zeros from `from` up to `to`
pub cleared : (from to : ℕ) (d new : List ℕ) → to ≤ length d → new ≡ replicate (length (take (to - from) (drop from d))) 0
    → put_mid from (to - from) d new ≡ paste d from (replicate (to - from) 0) (to - from)
cleared from to d new h e =
    let l : to - from ≤ length (drop from d) = omega (arith, length-drop from d) in
    let q : length (take (to - from) (drop from d)) ≡ to - from = length-take-le (to - from) (drop from d) l in
    put_mid-paste from (to - from) d new (replicate (to - from) 0) (to - from) (rw q at e) refl (sym (length-replicate {A = ℕ} (to - from) 0))
