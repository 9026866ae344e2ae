-- Laws of the start: the refusal of a file, the tree from which all changes are left, and that all lines are left.
use Prim.Native.Nat.{ℕ, ◌+◌, ◌*◌, ◌-◌, ◌≤◌, ◌<◌}
use native.Mathlib.Nat.{zero-add}
use native.Mathlib.Omega.{arith}
use native.Mathlib.Decide.{dec_le}
use mathlib.Core.Path.{◌≡◌, refl, ◌∙◌}
use Rattle.std.specs.Prelude.{Some, None}
use mathlib.Core.List.{List, ◌++◌, append-nil}
use lib.ListN.{length, take, drop, replicate, length-replicate, get_or-replicate, get_or-eq_default}
use lib.Seq.{length-take-le, take_at, take-append_seam}
use lib.Dec.{leb, lit<}
use borrow.Author.Tests.{leb-true, le-leb, lt-leb, ne_eqb}
use Rattle.lxt_format.specs.Basics.{◌unless◌, given, refused, answer}
use Rattle.lxt_format.specs.BasicsLaws.{neither, kept, this_check, was_given, was_refused, same_refusal, goes_on, refuses}
use Rattle.lxt_format.specs.Columns.{onto}
use Rattle.lxt_format.specs.Limits.{longest_printed, most_facilities}
use Rattle.lxt_format.specs.Sections.{facility_count}
use Rattle.lxt_format.proofs.WalkLaws.{all_asked_lem}
use Rattle.lxt_format.specs.Judge.{file_refusal}
use Rattle.lxt_tables.specs.Stage.{tables_of}
use Rattle.lxt_tables.specs.declared.Tables.{Tables}
use Rattle.lxt_chains.specs.Reading.{examined_of, examined}
use Rattle.lxt_chains.specs.declared.whole.Examined.{Examined}
use Rattle.lxt_chains.proofs.JudgedLaws.{accepted}
use Rattle.lxt_chains.specs.Tree.{Leaves, Room, Blank}
use Rattle.lxt_values.specs.declared.entries.Entry.{Entry}
use Rattle.lxt_print.specs.Lines.{refused_line, accepted_text, print_refusal, printed}
use Rattle.lxt_print.specs.Placing.{Opened}
use Rattle.lxt_print.specs.Stepping.{left, all_left, Waiting, Last}
use Rattle.lxt_print.specs.Left.{lines_left, left_text, AllLines}
use Rattle.lxt_print.specs.Calls.{Lent, Begins}
use Rattle.lxt_print.specs.declared.printing.Rest.{Rest}
use Rattle.lxt_print.proofs.LineLaws.{opened_known}
use Rattle.lxt_print.proofs.NamingLaws.{names_begun}
use Rattle.lxt_print.proofs.StepLaws.{timed_begun, few_changes, line_fits}

-- ---- the refusal

module _ (s : List ℕ) where
  -- a file that is too long to print
  pub too_long : longest_printed < length s → refused 1 ≡ answer (print_refusal s) (tables_of s)
  unfolding print_refusal
  too_long h = refuses _ 1 (tables_of s) (this_check 1 (file_refusal s) _ (λ z. omega arith) (lt-leb _ _ h)) (λ z. omega arith)

  -- any other
  module _ (short : length s ≤ longest_printed) where
    pub judged_refused : (n : ℕ) → refused n ≡ examined s → refused n ≡ answer (print_refusal s) (tables_of s)
    unfolding print_refusal
    judged_refused n h =
        goes_on (1 unless leb (length s) longest_printed) (file_refusal s) (refused n) (tables_of s) (rw (le-leb _ _ short))
        (same_refusal (file_refusal s) (file_refusal s) n (examined_of s) (tables_of s) refl h)

    pub judged_given : (x : Examined) → given x ≡ examined s → given x.tables ≡ answer (print_refusal s) (tables_of s)
    unfolding print_refusal
    judged_given x h =
        let a = accepted s x h in
        goes_on (1 unless leb (length s) longest_printed) (file_refusal s) (given x.tables) (tables_of s) (rw (le-leb _ _ short)) (rw (a.refusal, a.tables))

-- ---- the tree

-- room in which all is 0
pub blank : (m : ℕ) (nodes nodes' : List ℕ) → Room m nodes → nodes' ≡ replicate (length nodes) 0 → Blank m nodes'
blank m nodes nodes' r e = record {
  room = record { long = rw e (length-replicate {A = ℕ} (length nodes) 0 ∙ r.long); level = r.level };
  none = λ i. elim (dec_le (length nodes) i) [
    | yes q ↦ rw e (get_or-eq_default (replicate {A = ℕ} (length nodes) 0) 0 {n = i} (rw (length-replicate {A = ℕ} (length nodes) 0) q))
    | no q ↦ rw e (get_or-replicate (length nodes) i 0 0 (omega arith))
  ];
}

-- ---- all lines

module _ (s : List ℕ) (t : Tables) (w : Opened s t) where
  -- no more facilities than the most
  pub leaves_ask : t.facilities ≤ most_facilities
  leaves_ask = (opened_known s t w).few

  module _ (nodes : List ℕ) (room : 8192 ≤ length nodes) (m : ℕ) (l : Leaves t.facilities m) where
    -- the nodes of the tree are a part of those lent
    pub nodes_long : length (take (2 * m) nodes) ≡ 2 * m
    nodes_long = length-take-le (2 * m) nodes (omega (arith, l.most))

    -- which is room for it
    pub plant_asks : Opened s t × ((t.facilities ≤ m) × Room m (take (2 * m) nodes))
    plant_asks = (w, (l.enough, record { long = nodes_long; level = l.level }))

  -- nothing is printed yet
  abbrev nothing_yet : ℕ → Entry → Rest
  nothing_yet m entry =
      record { tables = t; facility = 0; names = record { left = t.facilities; at = t.names + 8; before = 0 }; leaves = m; entry = entry; count = 0 }

  all_text : (name : List ℕ) (m : ℕ) (tree nodes : List ℕ) → take (2 * m) nodes ≡ tree → left s m tree ≡ all_left s → (entry : Entry)
      → lines_left s (nothing_yet m entry) nodes ≡ accepted_text s
  unfolding lines_left accepted_text
  all_text name m tree nodes here all entry =
      let from : facility_count s - 0 ≡ facility_count s = omega arith in
      rw (here, all, zero-add, from, all_asked_lem s)

  -- where the tree has all changes left, all lines are
  pub lines_begun : (name : List ℕ) → 1023 ≤ length name → (m : ℕ) (tree rest : List ℕ) → Waiting s t m tree → left s m tree ≡ all_left s → (entry : Entry) → Last s entry
      → AllLines s (nothing_yet m entry) name (tree ++ rest)
  lines_begun name room m tree rest v all entry last =
      let here : take (2 * m) (tree ++ rest) ≡ tree = take_at tree rest (2 * m) v.tree.room.long in
      record {
        going = record {
          opened = w;
          names = names_begun s t w name room;
          waiting = rw here v;
          timed = rw here (timed_begun s t w (drop m tree) entry last all);
          few = rw (here, all) (let f = few_changes s t w in omega arith);
        };
        whole = all_text name m tree (tree ++ rest) here all entry;
      }

-- ---- the whole

module _ (s name nodes line : List ℕ) (lent : Lent name nodes line) where
  -- a refused file: its line is put, and no other is left
  pub refusal_left : (k : ℕ) → refused k ≡ answer (print_refusal s) (tables_of s) → (size : ℕ) (line' : List ℕ) → size ≡ length (refused_line k) → line' ≡ onto (refused_line k) line
      → Begins s (record { at = 0; size = size; rest = None }) name nodes line'
  refusal_left k h size line' es el =
      let w = was_refused (print_refusal s) k (tables_of s) h in
      record {
        sound = record { going = tt; room = tt; start = omega arith; fits = line_fits (refused_line k) line line' size es el };
        all_left_lem =
            unfold left_text printed in
            rw (append-nil, ne_eqb (print_refusal s) 0 w.1, ← w.0, es, el) (take-append_seam (refused_line k) (drop (length (refused_line k)) line));
      }

  module _ (t : Tables) (h : given t ≡ answer (print_refusal s) (tables_of s)) where
    accepts : (print_refusal s ≡ 0) × (t ≡ tables_of s)
    accepts = was_given (print_refusal s) (tables_of s) t h

    -- a file that is not refused is short enough, and accepted
    not_refused : ((1 unless leb (length s) longest_printed) ≡ 0) × (file_refusal s ≡ 0)
    unfolding print_refusal
    not_refused = neither _ (file_refusal s) accepts.0

    short_enough : length s ≤ longest_printed
    short_enough = leb-true _ _ (kept 1 (leb (length s) longest_printed) (lit< tt) not_refused.0)

    pub lines_ask : Opened s t × ((1023 ≤ length name) × (8192 ≤ length nodes))
    lines_ask = (record { tables = accepts.1; accepted = not_refused.1 }, (lent.name_room, lent.tree_room))

    -- and all its lines are left
    pub lines_left_lem : (r : Rest) (nodes' : List ℕ) → AllLines s r name nodes' → Begins s (record { at = 0; size = 0; rest = Some r }) name nodes' line
    lines_left_lem r nodes' a = record {
      sound = record {
        going = a.going;
        room = let l = short_enough in omega (arith, lent.line_room);
        start = omega arith;
        fits = omega arith;
      };
      all_left_lem = unfold left_text printed in rw accepts.0 a.whole;
    }
