-- Laws of names.
use Rattle.std.specs.Prelude.{ℕ, zero, suc, ◌≤◌, Bool, ◌&&◌, List, ◌++◌, length, take, drop, ltb, leb}
use Rattle.std.proofs.Common.{zero-le, leb-true}
use Rattle.std.proofs.Math.Option.{Option, none, some}
use Rattle.lxt_format.specs.Limits.{longest_name}
use Rattle.lxt_format.specs.BasicsLaws.{on_test, and_both}
use Rattle.lxt_format.specs.Bytes.{u16_at, to_zero}
use Rattle.lxt_format.specs.Names.{named, names_in, name_among}

-- a name in front of others that are not too long
front_short : (f : ℕ) (name : List ℕ) (names : Option (List (List ℕ))) → length name ≤ longest_name → ((g : ℕ) → length (name_among g names) ≤ longest_name)
    → length (name_among f (named name names)) ≤ longest_name
front_short f name none h k = zero-le
front_short zero name (some names) h k = h
front_short (suc f) name (some names) h k = k f

-- "name 0 to 1,023 bytes": no name of a table is longer
pub names_short : (n : ℕ) (bs before : List ℕ) (f : ℕ) → length (name_among f (names_in n bs before)) ≤ longest_name
unfolding names_in
names_short zero bs before f = zero-le
names_short (suc n) bs before f =
    let prefix : ℕ = u16_at bs 0 in
    let rest : List ℕ = drop 2 bs in
    let suffix : ℕ = to_zero rest in
    let name : List ℕ = take prefix before ++ take suffix rest in
    let more : (g : ℕ) → length (name_among g (names_in n (drop (suc suffix) rest) name)) ≤ longest_name = λ g. names_short n (drop (suc suffix) rest) name g in
    let long : Bool = leb (length name) longest_name in
    let third : Bool = ltb suffix (length rest) && long in
    let second : Bool = leb prefix (length before) && third in
    on_test (leb 2 (length bs) && second)
    (λ e. let a = and_both (leb 2 (length bs)) second e in
    let b = and_both (leb prefix (length before)) third a.1 in
    let c = and_both (ltb suffix (length rest)) long b.1 in
    rw e (front_short f name (names_in n (drop (suc suffix) rest) name) (leb-true _ _ c.1) more))
    (λ e. rw e zero-le)
