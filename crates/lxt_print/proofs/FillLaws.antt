-- Laws of filling a buffer: what was put and what is left make what was left at the start.
use Prim.Native.Nat.{ℕ, ◌+◌, ◌-◌, ◌≤◌, ◌<◌, min}
use native.Mathlib.Omega.{arith}
use mathlib.Core.Path.{◌≡◌, refl, sym, ap, ◌∙◌}
use mathlib.Core.Bool.{Bool, false}
use Rattle.std.specs.Prelude.{Some, None}
use mathlib.Core.List.{List, ◌++◌}
use lib.ListN.{length, take, drop, length-append, length-take, length-drop, take-append-drop}
use lib.Seq.{slice, length-slice, slice_empty, take-add, take-append-le, drop-append-le, drop-drop, length-take-le}
use lib.Dec.{eqb}
use borrow.Author.Tests.{eq-eqb, ne_eqb, eqb-true, eqb-false}
use Rattle.lxt_format.specs.Basics.{range, joined}
use Rattle.lxt_format.specs.BasicsLaws.{on_test}
use Rattle.lxt_format.specs.Sections.{facility_count}
use Rattle.lxt_print.specs.Lines.{facility_line, change_line, done_line}
use Rattle.lxt_print.specs.Placing.{Put}
use Rattle.lxt_print.specs.Left.{changes_left, lines_left, rest_left, left_text, Going, Roomy, Sound, NextLine}
use Rattle.lxt_print.specs.Calls.{Fills}
use Rattle.lxt_print.specs.declared.printing.Rest.{Rest}
use Rattle.lxt_print.specs.declared.printing.Printing.{Printing}
use Rattle.lxt_format.specs.Buffers.{length_placed, placed_none, placed_start}
use Rattle.lxt_print.proofs.LineLaws.{put_more, put_is}
use Rattle.lxt_print.proofs.NextLaws.{done_some}

-- a part of the line, by its length
pub part_is : {out out' : List ℕ} {from k n r : ℕ} (line : List ℕ) (at : ℕ) → k ≡ n → Put out from (take (at + k - at) (drop at line)) r out' → Put out from (take n (drop at line)) r out'
part_is {k = k} {n = n} line at e p = let z : at + k - at ≡ n = omega arith in rw (← z) p

-- a buffer into which a text was put is as long as it was
put_long : {b b' text : List ℕ} {at q : ℕ} → Put b at text q b' → length b' ≡ length b
put_long {b = b} {text = text} {at = at} p = rw p.holds (length_placed b at text (omega (arith, p.place, p.fits)))

-- the others are left where the line is used up
used_up : (s : List ℕ) (p : Printing) (nodes line : List ℕ) → p.at ≡ p.size → left_text s p nodes line ≡ rest_left s p.rest nodes
unfolding left_text
used_up s p nodes line e = rw (e, slice_empty p.size line)

-- a rest has the last line at least
some_left : (s : List ℕ) (r : Rest) (nodes : List ℕ) → 0 < length (lines_left s r nodes)
unfolding lines_left
some_left s r nodes =
    let d : ℕ = r.count + length (changes_left s r nodes) in
    let lines : List ℕ = joined (facility_line s) (range r.facility (facility_count s - r.facility)) ++ joined (change_line s) (changes_left s r nodes) in
    let l = length-append lines (done_line d) in
    let m = done_some d in
    omega arith

-- the first bytes of a part
cut : (l : List ℕ) (at size k : ℕ) → at + k ≤ size → size ≤ length l → take k (drop at l) ≡ take k (slice at size l)
cut l at size k h b =
    let long = length-take-le size l b in
    let rest = length-slice at size l b in
    ap (λ x. take k (drop at x)) (sym (take-append-drop size l))
    ∙ ap (λ x. take k x) (drop-append-le at (take size l) (drop size l) (omega arith))
    ∙ take-append-le k (slice at size l) (drop size l) (omega arith)

-- ---- the loop

-- `put` bytes of a text are put, which was left at the start, and the rest of it is left
pub record Filling (s text out₀ : List ℕ) (p : Printing) (name nodes line out : List ℕ) (put : ℕ) : Type 0 where
  pub sound : Sound s p name nodes line
  pub puts : Put out₀ 0 (take put text) put out
  pub leaves : left_text s p nodes line ≡ drop put text

pub fill_begun : (s : List ℕ) (p : Printing) (name nodes line out : List ℕ) → Sound s p name nodes line
    → Filling s (left_text s p nodes line) out p name nodes line out 0
fill_begun s p name nodes line out w = record {
  sound = w;
  puts = record { place = refl; holds = sym (placed_none out 0); fits = omega arith };
  leaves = refl;
}

module _ (s text out₀ : List ℕ) (p : Printing) (name nodes line out : List ℕ) (put : ℕ) (w : Filling s text out₀ p name nodes line out put) where
  long : length out ≡ length out₀
  long = put_long w.puts

  -- what putting a part of the line asks
  pub part_asks : (p.at ≤ p.size) × ((p.size ≤ length line) × (put ≤ length out))
  part_asks = let l = long in (w.sound.start, (w.sound.fits, omega (arith, w.puts.fits)))

  -- how much is put
  abbrev taken : ℕ
  taken = min (p.size - p.at) (length out - put)

  module _ (q : ℕ) (out' : List ℕ) (e : Put out put (take taken (drop p.at line)) q out') where
    part_long : length (take taken (drop p.at line)) ≡ taken
    part_long =
        let a = w.sound.start in
        let b = w.sound.fits in
        let d = length-drop p.at line in
        length-take-le taken (drop p.at line) (omega arith)

    place_is : q ≡ put + taken
    place_is = let l = part_long in let k = e.place in omega arith

    pub part_bounds : (put ≤ q) × (p.at + (q - put) ≤ p.size)
    part_bounds = let k = place_is in let a = w.sound.start in (omega arith, omega arith)

    -- the state after it
    abbrev onward : Printing
    onward = record { at = p.at + (q - put); size = p.size; rest = p.rest }

    line_long : length (slice p.at p.size line) ≡ p.size - p.at
    line_long = length-slice p.at p.size line w.sound.fits

    -- what is put is what is left first
    puts_on : take put text ++ take taken (drop p.at line) ≡ take q text
    unfolding left_text
    puts_on =
        let a = w.sound.start in
        let l = line_long in
        let first : take taken (drop put text) ≡ take taken (slice p.at p.size line) =
        ap (λ x. take taken x) (sym w.leaves) ∙ take-append-le taken (slice p.at p.size line) (rest_left s p.rest nodes) (omega arith) in
        rw (place_is, take-add put taken text, first, cut line p.at p.size taken (omega arith) w.sound.fits)

    -- and the others are left
    leaves_on : left_text s onward nodes line ≡ drop q text
    unfolding left_text
    leaves_on =
        let a = w.sound.start in
        let l = line_long in
        let n : p.at + (q - put) ≡ p.at + taken = let k = place_is in omega arith in
        ap (λ x. drop x (take p.size line) ++ rest_left s p.rest nodes) n
        ∙ ap (λ x. x ++ rest_left s p.rest nodes) (sym (drop-drop taken p.at (take p.size line)))
        ∙ sym (drop-append-le taken (slice p.at p.size line) (rest_left s p.rest nodes) (omega arith))
        ∙ ap (λ x. drop taken x) w.leaves
        ∙ drop-drop taken put text
        ∙ ap (λ x. drop x text) (sym place_is)

    part_put : Filling s text out₀ onward name nodes line out' q
    part_put = record {
      sound = record { going = w.sound.going; room = w.sound.room; start = part_bounds.1; fits = w.sound.fits };
      puts = put_is puts_on (put_more w.puts e);
      leaves = leaves_on;
    }

    -- the buffer is full, or the line is used up
    part_settled : (q ≡ length out → ⊥) → onward.at ≡ onward.size
    part_settled n = let l = long in let k = place_is in let a = w.sound.start in let b = w.puts.fits in omega (arith, n)

-- ---- the ways out of a turn

module _ (s text out₀ : List ℕ) (p : Printing) (name nodes line out : List ℕ) (put : ℕ) (w : Filling s text out₀ p name nodes line out put) (settled : (put ≡ length out → ⊥) → p.at ≡ p.size) where
  same_room : length out ≡ length out₀
  same_room = put_long w.puts

  put_upto : put ≤ length text
  put_upto = let k = w.puts.place in let l = length-take put text in omega arith

  left_long : length (left_text s p nodes line) ≡ length text - put
  left_long = rw w.leaves (length-drop put text)

  -- a line that is not used up is left
  line_left : (p.at ≡ p.size → ⊥) → 0 < length (left_text s p nodes line)
  unfolding left_text
  line_left n =
      let a = w.sound.start in
      let k = length-append (slice p.at p.size line) (rest_left s p.rest nodes) in
      let m = length-slice p.at p.size line w.sound.fits in
      omega (arith, n)

  -- where no other line is left
  module _ (over : p.rest ≡ None) where
    settled_none : p.at ≡ p.size → length (left_text s p nodes line) ≡ 0
    settled_none e = rw (used_up s p nodes line e, over)

    -- there is nothing left exactly where this one is used up
    over_done : eqb p.at p.size ≡ eqb put (length text)
    over_done =
        let l = left_long in
        let u = put_upto in
        on_test (eqb p.at p.size)
        (λ a. let z = settled_none (eqb-true _ _ a) in rw a (sym (eq-eqb put (length text) (omega arith))))
        (λ a. let z = line_left (eqb-false _ _ a) in rw a (sym (ne_eqb put (length text) (λ q. omega arith))))

    over_least : put ≡ min (length out₀) (length text)
    over_least =
        let u = put_upto in
        let b = w.puts.fits in
        let m = same_room in
        let l = left_long in
        on_test (eqb put (length out))
        (λ a. let e = eqb-true put (length out) a in omega arith)
        (λ a. let z = settled_none (settled (eqb-false put (length out) a)) in omega arith)

  -- where others are
  module _ (r : Rest) (more : p.rest ≡ Some r) where
    others_left : 0 < length (left_text s p nodes line)
    unfolding left_text
    others_left = let k = length-append (slice p.at p.size line) (lines_left s r nodes) in let o = some_left s r nodes in rw more (omega arith)

    full_done : false ≡ eqb put (length text)
    full_done = let l = left_long in let o = others_left in sym (ne_eqb put (length text) (λ q. omega arith))

    full_least : put ≡ length out → put ≡ min (length out₀) (length text)
    full_least e = let u = put_upto in let m = same_room in omega arith

    -- the next one may be put
    more_asks : Going s r name nodes × Roomy s line
    more_asks = (rw more at w.sound.going, rw more at w.sound.room)

    -- after it what is left is the same
    fill_turn : (put ≡ length out → ⊥) → (p' : Printing) (name' nodes' line' : List ℕ) → NextLine s r nodes p' name' nodes' line' → Filling s text out₀ p' name' nodes' line' out put
    fill_turn k p' name' nodes' line' n =
        record { sound = n.sound; puts = w.puts; leaves = n.same ∙ (let o : left_text s p nodes line ≡ lines_left s r nodes = used_up s p nodes line (settled k) ∙ rw more in sym o) ∙ w.leaves }

-- ---- a turn

module _ {s text out₀ : List ℕ} {p : Printing} {name nodes line out : List ℕ} {put : ℕ} (w : Filling s text out₀ p name nodes line out put) {q : ℕ} {out' : List ℕ} (e : Put out put (take (min (p.size - p.at) (length out - put)) (drop p.at line)) q out') where
  abbrev after : Printing
  after = record { at = p.at + (q - put); size = p.size; rest = p.rest }

  filling : Filling s text out₀ after name nodes line out' q
  filling = part_put s text out₀ p name nodes line out put w q out' e

  settles : (q ≡ length out' → ⊥) → after.at ≡ after.size
  settles n = let l = put_long e in part_settled s text out₀ p name nodes line out put w q out' e (λ k. n (k ∙ sym l))

  pub same_out : length out' ≡ length out₀
  same_out = put_long filling.puts

  -- the buffer has all that there is room for
  filled : (done : Bool) → q ≡ min (length out₀) (length text) → done ≡ eqb q (length text) → (p₀ : Printing) (nodes₀ line₀ : List ℕ) → text ≡ left_text s p₀ nodes₀ line₀
      → Fills s p₀ nodes₀ line₀ out₀ (record { size = q; done = done; left = after }) name nodes line out'
  filled done least ends p₀ nodes₀ line₀ et = record {
    counts = rw (← et) least;
    puts = rw (← et) (filling.puts.holds ∙ placed_start out₀ (take q text));
    ends = rw (← et) ends;
    leaves = rw (← et) filling.leaves;
    sound = filling.sound;
  }

  -- no other line is left
  pub fill_over : p.rest ≡ None → (p₀ : Printing) (nodes₀ line₀ : List ℕ) → text ≡ left_text s p₀ nodes₀ line₀
      → Fills s p₀ nodes₀ line₀ out₀ (record { size = q; done = eqb after.at after.size; left = after }) name nodes line out'
  fill_over o = filled _ (over_least s text out₀ after name nodes line out' q filling settles o) (over_done s text out₀ after name nodes line out' q filling settles o)

  module _ {r : Rest} (more : p.rest ≡ Some r) where
    -- the buffer is full
    pub fill_full : q ≡ length out' → (p₀ : Printing) (nodes₀ line₀ : List ℕ) → text ≡ left_text s p₀ nodes₀ line₀
        → Fills s p₀ nodes₀ line₀ out₀ (record { size = q; done = false; left = after }) name nodes line out'
    fill_full e = filled _ (full_least s text out₀ after name nodes line out' q filling settles r more e) (full_done s text out₀ after name nodes line out' q filling settles r more)

    -- the next line may be put
    pub line_asks : Going s r name nodes × Roomy s line
    line_asks = more_asks s text out₀ after name nodes line out' q filling settles r more

    -- and so on
    pub fill_again : (q ≡ length out' → ⊥) → {p' : Printing} {name' nodes' line' : List ℕ} → NextLine s r nodes p' name' nodes' line' → Filling s text out₀ p' name' nodes' line' out' q
    fill_again k {p'} {name'} {nodes'} {line'} n = fill_turn s text out₀ after name nodes line out' q filling settles r more k p' name' nodes' line' n
