-- Laws of the next line: what is left before it is put is the line, then what is left after it.
use Prim.Native.Nat.{ℕ, suc, ◌+◌, ◌*◌, ◌-◌, ◌≤◌, ◌<◌}
use native.Mathlib.Omega.{arith}
use native.Mathlib.Nat.{add-zero}
use native.Mathlib.Numerals.{add-one}
use mathlib.Core.Path.{◌≡◌, refl, sym, ap, ◌∙◌}
use Rattle.std.specs.Prelude.{Option, Some, None, IfSome, OnSome}
use mathlib.Core.List.{List, [], ◌++◌, append_assoc, append-nil}
use lib.ListN.{length, take, drop, length-append, length-take, length-drop}
use lib.Seq.{take_at, take-append_seam}
use Rattle.lxt_format.specs.Basics.{range, joined}
use Rattle.lxt_format.specs.BasicsLaws.{range_upto, range_done}
use Rattle.lxt_format.specs.Columns.{onto}
use Rattle.lxt_format.specs.Sections.{facility_count}
use Rattle.lxt_format.specs.Names.{name_of}
use Rattle.lxt_format.specs.Walk.{sort, high, step, offsets_after}
use Rattle.lxt_format.specs.declared.Pair.{Pair}
use Rattle.lxt_chains.specs.Pending.{pending_changes}
use Rattle.lxt_chains.proofs.Step.{sorted_quiet, sorted_step, length_left}
use Rattle.lxt_values.specs.declared.entries.Entry.{Entry}
use Rattle.lxt_values.specs.declared.names.NamesLeft.{NamesLeft}
use Rattle.lxt_print.specs.Lines.{decimal, space, newline, done_word, facility_line, done_line}
use Rattle.lxt_print.specs.Placing.{NamesAt, facility_head, facility_end}
use Rattle.lxt_print.specs.Stepping.{Waiting, Timed, next_line}
use Rattle.lxt_print.specs.Left.{tree_of, changes_left, lines_left, rest_left, left_text, Going, Roomy, NextLine}
use Rattle.lxt_print.specs.declared.printing.Rest.{Rest}
use Rattle.lxt_print.proofs.LineLaws.{opened_known, facility_line_lem}
use Rattle.lxt_print.proofs.StepLaws.{next_line_lem, next_some, next_after, line_fits}

-- a line that ends in a line feed is not empty
pub ended_some : (l : List ℕ) → 0 < length (l ++ newline)
ended_some l = let e = length-append l newline in omega arith

facility_some : (s : List ℕ) (f : ℕ) → 0 < length (facility_line s f)
facility_some s f = rw (← facility_line_lem s f (name_of s f) refl) (ended_some (facility_head f (name_of s f) ++ facility_end s f))

pub done_some : (k : ℕ) → 0 < length (done_line k)
unfolding done_line
done_some k = ended_some (done_word ++ space ++ decimal k)

-- a line was put with which what was left begins
put_line : (s : List ℕ) (r : Rest) (nodes : List ℕ) (o : Option Rest) (name' nodes' line line' l : List ℕ) (size : ℕ) → size ≡ length l → line' ≡ onto l line → 0 < length l
    → lines_left s r nodes ≡ l ++ rest_left s o nodes' → IfSome o (λ r'. Going s r' name' nodes') → (length line ≤ length line' → OnSome o (Roomy s line'))
    → NextLine s r nodes (record { at = 0; size = size; rest = o }) name' nodes' line'
put_line s r nodes o name' nodes' line line' l size es el some e going room =
    let long : length line' ≡ length l + (length line - length l) = rw (el, length-append, length-drop) in
    let sum : length (lines_left s r nodes) ≡ length l + length (rest_left s o nodes') = rw e (length-append l (rest_left s o nodes')) in
    record {
      sound = record { going = going; room = room (omega arith); start = omega arith; fits = line_fits l line line' size es el };
      same = unfold left_text in rw (e, es, el) (ap (λ x. x ++ rest_left s o nodes') (take-append_seam l (drop (length l) line)));
      less = omega arith;
    }

-- the nodes of the tree are a part of those lent
pub tree_fits : (s : List ℕ) (r : Rest) (name nodes : List ℕ) → Going s r name nodes → 2 * r.leaves ≤ length nodes
tree_fits s r name nodes g = let l = g.waiting.tree.room.long in let m = length-take (2 * r.leaves) nodes in omega arith

module _ (s : List ℕ) (r : Rest) (name nodes line : List ℕ) (g : Going s r name nodes) (room : Roomy s line) where
  count_is : r.tables.facilities ≡ facility_count s
  count_is = (opened_known s r.tables g.opened).facilities

  -- ---- a facility

  -- its line is the first
  facility_first : r.facility < r.tables.facilities → (c : NamesLeft) → lines_left s r nodes
      ≡ facility_line s r.facility
      ++ lines_left s (record { tables = r.tables; facility = r.facility + 1; names = c; leaves = r.leaves; entry = r.entry; count = r.count }) nodes
  unfolding lines_left joined
  facility_first h c =
      let below : r.facility < facility_count s = omega (arith, count_is) in
      rw (range_upto r.facility (facility_count s) below, add-one) (simp append_assoc)

  pub facility_next : r.facility < r.tables.facilities → (c : NamesLeft) (name' line' : List ℕ) (size : ℕ)
      → size ≡ length (facility_line s r.facility) → line' ≡ onto (facility_line s r.facility) line → NamesAt s r.tables (r.facility + 1) c name'
      → NextLine s r nodes
      (record { at = 0; size = size; rest = Some (record { tables = r.tables; facility = r.facility + 1; names = c; leaves = r.leaves; entry = r.entry; count = r.count }) })
      name' nodes line'
  facility_next h c name' line' size es el n =
      put_line s r nodes _ name' nodes line line' (facility_line s r.facility) size es el (facility_some s r.facility) (facility_first h c)
      (record { opened = g.opened; names = n; waiting = g.waiting; timed = g.timed; few = g.few })
      (λ k. omega (arith, room))

  -- ---- a change

  module _ (h : r.tables.facilities ≤ r.facility) where
    no_facility_lem : range r.facility (facility_count s - r.facility) ≡ []
    no_facility_lem = range_done r.facility (facility_count s) (omega (arith, count_is))

    -- only the last line is left
    last_first : changes_left s r nodes ≡ [] → lines_left s r nodes ≡ done_line r.count ++ []
    unfolding lines_left joined
    last_first none = rw (no_facility_lem, none, add-zero) (sym (append-nil (done_line r.count)))

    -- where no change is left, the last line is put
    pub last_next : high (drop r.leaves (tree_of r nodes)) ≡ 0 → (nodes' line₁ line' : List ℕ) (size : ℕ) → size ≡ length (done_line r.count) → line' ≡ onto (done_line r.count) line₁
        → NextLine s r nodes (record { at = 0; size = size; rest = None }) name nodes' line'
    last_next quiet nodes' line₁ line' size es el =
        let none : changes_left s r nodes ≡ [] = sorted_quiet s (drop r.leaves (tree_of r nodes)) quiet in
        put_line s r nodes None name nodes' line₁ line' (done_line r.count) size es el (done_some r.count) (last_first none) tt (λ k. tt)

    module _ (positive : 0 < high (drop r.leaves (tree_of r nodes))) where
      pub count_small : r.count + 1 < 4294967296
      count_small = let l = length_left s (drop r.leaves (tree_of r nodes)) positive in omega (arith, g.few)

      -- the line of the highest is the first
      change_first : (tree' rest : List ℕ) (entry : Entry) → take (2 * r.leaves) (tree' ++ rest) ≡ tree' → drop r.leaves tree' ≡ step s (drop r.leaves (tree_of r nodes)) → lines_left s r nodes
          ≡ next_line s (drop r.leaves (tree_of r nodes))
          ++ lines_left s (record { tables = r.tables; facility = r.facility; names = r.names; leaves = r.leaves; entry = entry; count = r.count + 1 }) (tree' ++ rest)
      unfolding lines_left joined
      change_first tree' rest entry here after =
          let more = sorted_step s (drop r.leaves (tree_of r nodes)) positive in
          let others : List Pair = sort (pending_changes s 0 (step s (drop r.leaves (tree_of r nodes)))) in
          let sum : r.count + suc (length others) ≡ r.count + 1 + length others = omega arith in
          rw (no_facility_lem, here, more, next_line_lem s (drop r.leaves (tree_of r nodes)) positive, after, sum) (simp append_assoc)

      pub change_next : (tree' rest : List ℕ) → Waiting s r.tables r.leaves tree' → drop r.leaves tree' ≡ offsets_after s 1 (drop r.leaves (tree_of r nodes)) → (entry : Entry)
          → Timed s (drop r.leaves tree') entry → (size : ℕ) (line' : List ℕ) → size ≡ length (next_line s (drop r.leaves (tree_of r nodes))) → line' ≡ onto (next_line s (drop r.leaves (tree_of r nodes))) line
          → NextLine s r nodes
          (record { at = 0; size = size; rest = Some (record { tables = r.tables; facility = r.facility; names = r.names; leaves = r.leaves; entry = entry; count = r.count + 1 }) })
          name (tree' ++ rest) line'
      change_next tree' rest w e entry v size line' es el =
          let os : List ℕ = drop r.leaves (tree_of r nodes) in
          let here : take (2 * r.leaves) (tree' ++ rest) ≡ tree' = take_at tree' rest (2 * r.leaves) w.tree.room.long in
          let after : drop r.leaves tree' ≡ step s os = e ∙ next_after s os positive in
          let less = length_left s os positive in
          put_line s r nodes _ name (tree' ++ rest) line line' (next_line s os) size es el (next_some s os positive) (change_first tree' rest entry here after)
          (record { opened = g.opened; names = g.names; waiting = rw here w; timed = rw here v; few = rw (here, after) (omega (arith, g.few)) })
          (λ k. omega (arith, room))
