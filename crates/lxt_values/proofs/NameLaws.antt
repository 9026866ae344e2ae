-- The laws of expanding names: the names of an allowed list, one after the other, at offsets of the file.
use Rattle.std.specs.Prelude.{if◌then◌else◌}
use Prim.Native.Nat.{ℕ, zero, suc, ◌+◌, ◌-◌, ◌≤◌, ◌<◌}
use mathlib.Core.Path.{◌≡◌, refl, sym, ◌∙◌, ap}
use mathlib.Core.Bool.{Bool, true, false, ◌&&◌, false≢true}
use mathlib.Core.List.{List, [], ◌++◌, append_assoc}
use mathlib.Core.Option.{Option, none, some}
use lib.ListN.{length, take, drop, replicate, length-append, length-take, length-drop, length-replicate, take-append-drop}
use lib.Seq.{slice, length-slice, length-take-le, drop-drop, get_or-drop, get_or-take, take-take, take-paste, paste, drop-paste, length-paste, drop-append-le, take-append-le, take_all}
use lib.Dec.{ltb, leb}
use native.Mathlib.Omega.{arith}
use native.Mathlib.Nat.{add-zero}
use native.Mathlib.Numerals.{add-one}
use borrow.Author.Tests.{leb-true, ltb-true}
use Rattle.lxt_format.specs.Limits.{longest_name}
use Rattle.lxt_format.specs.Limits.{longest_name}
use Rattle.lxt_format.specs.Bytes.{u16_at, to_zero}
use Rattle.lxt_format.specs.BytesLaws.{u16_bytes}
use Rattle.lxt_format.specs.Names.{named, names_in, within_memory, name_among}
use Rattle.lxt_format.specs.Questions.{holding_name}
use Rattle.lxt_values.specs.Names.{name_at, Named, accepted, coming, Coming, Read}

-- ---- the next name of an allowed list

-- names within the memory break no rule
within_accepted : (M : ℕ) (o : Option (List (List ℕ))) → within_memory M o ≡ true → accepted o ≡ true
unfolding accepted
within_accepted M none h = h
within_accepted M (some names) h = refl

-- nor do those after the first
named_accepted : (name : List ℕ) (o : Option (List (List ℕ))) → accepted (named name o) ≡ true → accepted o ≡ true
unfolding accepted
named_accepted name none h = h
named_accepted name (some names) h = refl

-- an accepted list passed its four tests
four : (a b c d : Bool) (o : Option (List (List ℕ))) → accepted (if a && (b && (c && d)) then o else none) ≡ true
    → (a ≡ true) × (b ≡ true) × (c ≡ true) × (d ≡ true) × (accepted o ≡ true) × ((if a && (b && (c && d)) then o else none) ≡ o)
unfolding accepted
four false b c d o e = absurd (false≢true e)
four true false c d o e = absurd (false≢true e)
four true true false d o e = absurd (false≢true e)
four true true true false o e = absurd (false≢true e)
four true true true true o e = (refl, refl, refl, refl, e, refl)

-- the length of the suffix of the name at p
abbrev pub suffix_at : List ℕ → ℕ → ℕ → ℕ
suffix_at s T p = to_zero (slice (p + 2) T s)

-- the name at p after the name `before`
abbrev pub name_here : List ℕ → ℕ → ℕ → List ℕ → List ℕ
name_here s T p before = take (u16_at s p) before ++ take (suffix_at s T p) (slice (p + 2) T s)

-- what is known of the next of n names, at p
pub record Step (s : List ℕ) (T n p : ℕ) (before : List ℕ) : Type 0 where
  pub two : p + 2 ≤ T
  pub prefix : u16_at s p ≤ length before
  pub ended : p + 2 + suffix_at s T p < T
  pub small : u16_at s p + suffix_at s T p ≤ longest_name
  pub rest : accepted (names_in (n - 1) (slice (p + 2 + suc (suffix_at s T p)) T s) (name_here s T p before)) ≡ true
  pub list : names_in n (slice p T s) before ≡ named (name_here s T p before) (names_in (n - 1) (slice (p + 2 + suc (suffix_at s T p)) T s) (name_here s T p before))

module _ (s : List ℕ) (T : ℕ) (t : T ≤ length s) where
  -- the prefix bytes
  head16 : (p : ℕ) → p + 2 ≤ T → u16_at (slice p T s) 0 ≡ u16_at s p
  head16 p h =
      let a : p < T = omega arith in
      let b : p + 1 < T = omega arith in
      rw (u16_bytes (slice p T s) 0, u16_bytes s p)
      (simp (get_or-drop p (take T s) 0 0, get_or-drop p (take T s) (0 + 1) 0, add-zero, get_or-take T s p 0 a, get_or-take T s (p + 1) 0 b))

  -- the next name of an accepted list is such a one
  step : (n p : ℕ) (before : List ℕ) → 0 < n → p ≤ T → accepted (names_in n (slice p T s) before) ≡ true → Step s T n p before
  unfolding names_in
  step zero p before h l e = absurd (omega arith)
  step (suc n) p before h l e =
      let bs : List ℕ = slice p T s in
      let rest : List ℕ = drop 2 bs in
      let z : ℕ = to_zero rest in
      let name : List ℕ = take (u16_at bs 0) before ++ take z rest in
      let q = four (leb 2 (length bs)) (leb (u16_at bs 0) (length before)) (ltb z (length rest)) (leb (length name) longest_name) (named name (names_in n (drop (suc z) rest) name)) e in
      let two : p + 2 ≤ T = omega (arith, leb-true 2 (length bs) q.0, length-slice p T s t) in
      let hd : u16_at bs 0 ≡ u16_at s p = head16 p two in
      let rs : rest ≡ slice (p + 2) T s = drop-drop 2 p (take T s) in
      let pre : u16_at bs 0 ≤ length before = leb-true _ _ q.1 in
      let zl : z < length rest = ltb-true _ _ q.2 in
      let zm : z ≤ length rest = omega arith in
      let len : length name ≡ u16_at bs 0 + z = simp (length-append, length-take-le (u16_at bs 0) before pre, length-take-le z rest zm) in
      let short : u16_at bs 0 + z ≤ longest_name = omega (arith, leb-true (length name) longest_name q.3) in
      let dd : drop (suc z) rest ≡ slice (p + 2 + suc z) T s = ap (drop (suc z)) rs ∙ drop-drop (suc z) (p + 2) (take T s) in
      let zs : z ≡ to_zero (slice (p + 2) T s) = ap to_zero rs in
      let n1 : suc n - 1 ≡ n = omega arith in
      record {
        two = two;
        prefix = rw hd at pre;
        ended = omega (arith, ap length rs ∙ length-slice (p + 2) T s t);
        small = omega arith;
        rest = rw (n1, ← hd, ← rs, ← dd) (named_accepted name (names_in n (drop (suc z) rest) name) q.4);
        list = rw (n1, ← hd, ← rs, ← dd) q.5;
      }

-- ---- the name that is wanted

-- the one just read, or one of those that follow
abbrev pub chosen : ℕ → List ℕ → Option (List (List ℕ)) → List ℕ
chosen zero name o = name
chosen (suc j) name o = name_among j o

-- the same bytes, whether the file is cut at T or not
uncut : (s : List ℕ) (T a y : ℕ) → T ≤ length s → a + y ≤ T → take y (slice a T s) ≡ take y (drop a s)
uncut s T a y t h =
    let lt : length (take T s) ≡ T = length-take-le T s t in
    let al : a ≤ length (take T s) = omega arith in
    let yl : y ≤ length (drop a (take T s)) = omega (arith, length-drop a (take T s)) in
    sym (ap (λ (l : List ℕ). take y (drop a l)) (sym (take-append-drop T s)) ∙ ap (take y) (drop-append-le a (take T s) (drop T s) al) ∙ take-append-le y (drop a (take T s)) (drop T s) yl)

-- ---- one name after the other

-- the first of accepted names, and the others
among_first : (name : List ℕ) (o : Option (List (List ℕ))) → accepted o ≡ true → name ≡ name_among 0 (named name o)
unfolding accepted
among_first name none e = absurd (false≢true e)
among_first name (some names) e = refl

among_others : (name : List ℕ) (o : Option (List (List ℕ))) (j : ℕ) → accepted o ≡ true → name_among j o ≡ name_among (suc j) (named name o)
unfolding accepted
among_others name none j e = absurd (false≢true e)
among_others name (some names) j e = refl

-- all names of an allowed table are still to come
pub table_coming : (s : List ℕ) (at T n M : ℕ) (d : List ℕ) → at ≤ T → T ≤ length s → within_memory M (names_in n (slice at T s) []) ≡ true → longest_name ≤ length d
    → Coming s T n at 0 d
table_coming s at T n M d start inside allowed room = record {
  inside = inside;
  in_t = start;
  room = room;
  small = omega arith;
  allowed = within_accepted M (names_in n (slice at T s) []) allowed;
}

module _ (s : List ℕ) (T left p before : ℕ) (d : List ℕ) (h : Coming s T left p before d) (more : 0 < left) where
  next_here : Step s T left p (take before d)
  next_here = step s T h.inside left p (take before d) more h.in_t h.allowed

  next_prefix : u16_at s p ≤ before
  next_prefix = omega (arith, next_here.prefix, length-take before d)

  pub next_bounds : (p + 2 ≤ T) × (u16_at s p ≤ before) × (p + 2 + suffix_at s T p < T) × (u16_at s p + suffix_at s T p ≤ longest_name)
  next_bounds = (next_here.two, next_prefix, next_here.ended, next_here.small)

  pub next_read : (k y : ℕ) (d' : List ℕ) → k ≡ u16_at s p → y ≡ suffix_at s T p → d' ≡ paste d k (drop (p + 2) s) y
      → Read s T left p before d (left - 1) (p + 2 + y + 1) (k + y) d'
  next_read k y d' ek ey ed =
      let st = next_here in
      let ended = st.ended in
      let small = st.small in
      let pre = next_prefix in
      let room = h.room in
      let low = h.small in
      let t = h.inside in
      let bytes : List ℕ = drop (p + 2) s in
      let in-d : k + y ≤ length d = omega arith in
      let k-d : k ≤ length d = omega arith in
      let k-len : k ≤ before = omega arith in
      let in-s : y ≤ length bytes = omega (arith, length-drop (p + 2) s) in
      let in-T : p + 2 + y ≤ T = omega arith in
      let held : take (k + y) d' ≡ name_here s T p (take before d) =
      rw ed (take-paste d k bytes y k-d in-s ∙ rw (← take-take k before d k-len, ← uncut s T (p + 2) y t in-T, ek, ey)) in
      let after : p + 2 + y + 1 ≡ p + 2 + suc (suffix_at s T p) = omega arith in
      let long : length d' ≡ length d = rw ed (length-paste d k bytes y in-d in-s) in
      let j : ℕ = longest_name - (k + y) in
      let ej : k + y + j ≡ longest_name = omega arith in
      record {
        rest = record {
          inside = h.inside;
          in_t = omega arith;
          room = omega arith;
          small = omega arith;
          allowed = rw (after, held) st.rest;
        };
        count = omega arith;
        same_length = long;
        tail = ap (λ (x : ℕ). drop x d') (sym ej) ∙ sym (drop-drop j (k + y) d') ∙ ap (drop j) (rw ed (drop-paste d k bytes y k-d in-s)) ∙ drop-drop j (k + y) d ∙ ap (λ (x : ℕ). drop x d) ej;
        name = rw (held, st.list) (among_first (name_here s T p (take before d)) _ st.rest);
        others = λ j. rw (after, held, st.list) (among_others (name_here s T p (take before d)) _ j st.rest);
      }

-- ---- the loop

-- `wanted` of the names that follow are still to be read, the last of them the name of facility f; the buffer d holds the name before
pub record Held (s : List ℕ) (at T n f : ℕ) (d₀ d : List ℕ) (left p before wanted : ℕ) : Type 0 where
  pub rest : Coming s T left p before d
  pub few : wanted ≤ left
  pub long : length d ≡ length d₀
  pub tail : drop longest_name d ≡ drop longest_name d₀
  pub name : chosen wanted (take before d) (coming s T left p before d) ≡ name_at s at T n f

-- no name is read yet
pub none_read : (s : List ℕ) (at T n M f : ℕ) (d : List ℕ) → Named s at T n M f → longest_name ≤ length d → Held s at T n f d d n at 0 (f + 1)
unfolding name_at
none_read s at T n M f d k room =
    let l = k.number in
    record { rest = table_coming s at T n M d k.start k.inside k.allowed room; few = omega arith; long = refl; tail = refl; name = rw add-one }

module _ (s : List ℕ) (at T n f : ℕ) (d₀ d : List ℕ) (left p before wanted : ℕ) (h : Held s at T n f d₀ d left p before wanted) where
  module _ (more : 0 < wanted) where
    pub still_coming : Coming s T left p before d × (0 < left)
    still_coming = (h.rest, omega (arith, h.few))

    -- one name on, the wanted one is one nearer
    nearer : (left' p' size : ℕ) (d' : List ℕ) → Read s T left p before d left' p' size d' → (w : ℕ) → 0 < w
        → chosen (w - 1) (take size d') (coming s T left' p' size d') ≡ chosen w (take before d) (coming s T left p before d)
    nearer left' p' size d' r zero k = absurd (omega arith)
    nearer left' p' size d' r (suc zero) k = r.name
    nearer left' p' size d' r (suc (suc j)) k = let e : suc (suc j) - 1 ≡ suc j = omega arith in rw e (r.others j)

    pub one_read : (left' p' size : ℕ) (d' : List ℕ) → Read s T left p before d left' p' size d' → Held s at T n f d₀ d' left' p' size (wanted - 1)
    one_read left' p' size d' r = record {
      rest = r.rest;
      few = omega (arith, h.few, r.count);
      long = r.same_length ∙ h.long;
      tail = r.tail ∙ h.tail;
      name = nearer left' p' size d' r wanted more ∙ h.name;
    }

  module _ (done : wanted ≤ 0) where
    -- the buffer holds the wanted name
    named_held : take before d ≡ name_at s at T n f
    named_held = let e : wanted ≡ 0 = omega arith in rw e at h.name

    -- the wanted name is read: its length
    pub name_length : before ≡ length (name_at s at T n f)
    name_length =
        let small = h.rest.small in
        let room = h.rest.room in
        let long = h.long in
        let l : before ≤ length d = omega arith in
        sym (length-take-le before d l) ∙ ap length named_held

    -- and the buffer, after the zeros
    pub name_held : (d' : List ℕ) → d' ≡ paste d before (replicate (longest_name - before) 0) (longest_name - before) → d' ≡ holding_name (name_at s at T n f) d₀
    unfolding holding_name
    name_held d' e =
        let k : ℕ = longest_name - before in
        let small = h.rest.small in
        let room = h.rest.room in
        let long = h.long in
        let l : before ≤ length d = omega arith in
        let ek : before + k ≡ longest_name = omega arith in
        let all : take k (replicate {A = ℕ} k 0) ≡ replicate k 0 = take_all k (replicate k 0) (omega (arith, length-replicate {A = ℕ} k 0)) in
        e ∙ append_assoc (take before d) (take k (replicate k 0)) (drop (before + k) d) ∙ rw (← named_held, length-take-le before d l, all, ek, h.tail)

-- ---- the part of the buffer that is the name
