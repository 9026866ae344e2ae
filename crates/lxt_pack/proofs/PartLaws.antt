-- Laws of a part of a pool of bytes.
use Rattle.std.specs.List.{list_any}
use Prim.Native.Nat.{ℕ, ◌+◌, ◌-◌, ◌≤◌}
use native.Mathlib.Omega.{arith}
use mathlib.Core.Path.{◌≡◌, refl, sym, ap, ◌∙◌}
use mathlib.Core.Bool.{Bool, true, false, not, ◌&&◌, ◌||◌}
use mathlib.Core.List.{List, [], ◌∷◌}
use lib.ListN.{length, take, drop}
use lib.Seq.{slice, take-add, drop_at, length-take-le}
use lib.Dec.{eqb}
use Rattle.lxt_format.specs.Basics.{all}
use Rattle.lxt_written.specs.Writing.{no_zero}

not_or : (a b : Bool) → not (a || b) ≡ (not a && not b)
not_or true b = refl
not_or false b = refl

-- a part without a 0
pub none_zero : (l : List ℕ) → not (list_any (λ b. eqb b 0) l) ≡ no_zero l
unfolding no_zero all
none_zero [] = refl
none_zero (b ∷ l) = not_or (eqb b 0) (list_any (λ c. eqb c 0) l) ∙ ap (λ r. not (eqb b 0) && r) (none_zero l)

part_from : (s : List ℕ) (start size : ℕ) → start ≤ length s → take size (drop start s) ≡ slice start (start + size) s
part_from s start size h =
    rw (take-add start size s) (sym (drop_at (take start s) (take size (drop start s)) start (length-take-le start s h)))

-- a part that is lent on is the part between two places
pub part_is : (s : List ℕ) (start end : ℕ) → start ≤ end → end ≤ length s → take (end - start) (drop start s) ≡ slice start end s
part_is s start end h k =
    let e : start + (end - start) ≡ end = omega arith in
    part_from s start (end - start) (omega arith) ∙ ap (λ n. slice start n s) e
