-- Laws of the changes one after the other.
use Rattle.std.specs.Prelude.{if◌then◌else◌}
use Prim.Native.Nat.{ℕ, ◌+◌, ◌≤◌, ◌<◌}
use native.Mathlib.Omega.{arith}
use native.Mathlib.Decide.{dec_le, ℕ_discrete}
use mathlib.Core.Path.{◌≡◌, refl, sym, ap, ◌∙◌}
use mathlib.Core.Bool.{true, false, not}
use mathlib.Core.List.{List, [], ◌∷◌, ◌++◌, append-nil}
use lib.ListN.{length, get_or, drop, length-append}
use lib.Seq.{get_or-set_same, get_or-set_other}
use lib.Dec.{leb, eqb}
use borrow.Author.Tests.{leb-true, eqb-true, eq-eqb, ne_eqb, not-true, not-false}
use Rattle.lxt_format.specs.Basics.{given, any, joined}
use Rattle.lxt_format.specs.BasicsLaws.{and_both, or_none, on_zero, answer_given}
use Rattle.lxt_format.specs.Columns.{onto}
use Rattle.lxt_format.specs.Sections.{time_count, end_of}
use Rattle.lxt_format.specs.Geometry.{roots_of, sync_of}
use Rattle.lxt_format.specs.Times.{table_allowed, times_allowed, time_of}
use Rattle.lxt_format.specs.Changes.{previous_of}
use Rattle.lxt_format.proofs.ChangesLaws.{previous_lt, chain_none}
use Rattle.lxt_format.specs.Judge.{tables_refusal, changes_of, all_changes, end_at}
use Rattle.lxt_format.proofs.JudgeLaws.{accepted}
use Rattle.lxt_format.specs.Values.{content_of}
use Rattle.lxt_format.specs.Walk.{sort, top, high, step, handed_out, offsets_after}
use Rattle.lxt_tables.specs.declared.Tables.{Tables}
use Rattle.lxt_tables.specs.Stage.{tables_of, tables_read}
use Rattle.lxt_chains.specs.declared.chains.Chains.{Chains}
use Rattle.lxt_chains.specs.Pending.{pair_of, pending_changes, root_offsets, Allowed, stacked, Each}
use Rattle.lxt_chains.proofs.Lists.{each_map}
use Rattle.lxt_chains.proofs.Sorted.{each_sort}
use Rattle.lxt_chains.proofs.Step.{high_ge, top_lt, length_left}
use Rattle.lxt_chains.proofs.Bridge.{all_roots}
use Rattle.lxt_chains.proofs.Check17.{each_step}
use Rattle.lxt_chains.proofs.Accepted.{all_allowed, allowed_fits, apart_stacked}
use Rattle.lxt_chains.specs.Reading.{Ready, Readable}
use Rattle.lxt_chains.specs.Tree.{Tree, Blank, Holding}
use Rattle.lxt_format.specs.declared.Pair.{Pair}
use Rattle.lxt_chains.proofs.RootLaws.{pending_roots, root_changes}
use Rattle.lxt_values.specs.Entries.{EntryAt, Latest}
use Rattle.lxt_values.specs.declared.entries.Entry.{Entry}
use Rattle.lxt_print.specs.Lines.{decimal, signed_decimal, space, newline, change_word, value_text, change_line}
use Rattle.lxt_print.specs.Placing.{Opened}
use Rattle.lxt_print.specs.Stepping.{left, all_left, Waiting, Last, Timed, next_line}
use Rattle.lxt_print.proofs.LineLaws.{opened_known}

-- ---- the next line

module _ (s os : List ℕ) where
  -- nothing is left
  pub quiet_line : high os ≡ 0 → next_line s os ≡ []
  unfolding next_line joined handed_out
  quiet_line h = rw (eq-eqb (high os) 0 h)

  pub quiet_after : high os ≡ 0 → offsets_after s 1 os ≡ os
  unfolding offsets_after
  quiet_after h = rw (eq-eqb (high os) 0 h)

  -- else the highest change
  pub next_line_lem : 0 < high os → next_line s os ≡ change_line s (pair_of (top os) (high os))
  unfolding next_line joined handed_out
  next_line_lem h = let n : high os ≡ 0 → ⊥ = λ e. omega arith in rw (ne_eqb (high os) 0 n) (append-nil (change_line s (pair_of (top os) (high os))))

  pub next_after : 0 < high os → offsets_after s 1 os ≡ step s os
  unfolding offsets_after
  next_after h = let n : high os ≡ 0 → ⊥ = λ e. omega arith in rw (ne_eqb (high os) 0 n)

-- a line is not empty
line_some : (s : List ℕ) (p : Pair) → 0 < length (change_line s p)
unfolding change_line
line_some s p =
    let l : List ℕ = change_word ++ space ++ decimal p.number ++ space ++ decimal p.offset ++ space ++ signed_decimal (time_of s p.offset) ++ space in
    let e = length-append (l ++ value_text s (content_of s p.number p.offset)) newline in
    omega arith

pub next_some : (s os : List ℕ) → 0 < high os → 0 < length (next_line s os)
next_some s os h = rw (next_line_lem s os h) (line_some s (pair_of (top os) (high os)))

-- ---- all changes are left

module _ (s : List ℕ) (t : Tables) (w : Opened s t) where
  pub chains_ask : given t ≡ tables_read s
  chains_ask = ap given w.tables ∙ sym (answer_given (tables_refusal s) (tables_of s) (accepted s w.accepted).tables)

  module _ (c : Chains) (r : Ready s c) where
    facilities_are : c.facilities ≡ t.facilities
    facilities_are = let k = opened_known s t w in r.geometry.count ∙ sym k.facilities

    pub offsets_ask : (m : ℕ) (nodes : List ℕ) → t.facilities ≤ m → Blank m nodes → Ready s c × ((c.facilities ≤ m) × Blank m nodes)
    offsets_ask m nodes h b = let e = facilities_are in (r, (omega arith, b))

    pub started : (m : ℕ) → t.facilities ≤ m → (nodes₁ nodes₂ : List ℕ) → Holding (root_offsets s) m nodes₁ → Tree m nodes₂ → drop m nodes₂ ≡ drop m nodes₁
        → Waiting s t m nodes₂ × (left s m nodes₂ ≡ all_left s)
    started m h nodes₁ nodes₂ held tree e =
        let p = pending_roots s m nodes₁ held (drop m nodes₂) e c r (accepted s w.accepted).chains in
        let f = facilities_are in (
          record { tree = tree; room = h; past = λ i q. p.past i (omega arith); each = p.each },
          ap sort (root_changes s m nodes₁ held (drop m nodes₂) e ∙ sym (all_roots s)),
        )

-- ---- the time table, gone down as the offsets fall

-- a file without entries has no change
no_changes : (s : List ℕ) (fs : List ℕ) → any (λ f. not (eqb (sync_of s f) 0)) fs ≡ false → joined (changes_of s) fs ≡ []
unfolding any joined changes_of
no_changes s [] h = refl
no_changes s (f ∷ fs) h =
    let b = or_none (not (eqb (sync_of s f) 0)) (any (λ g. not (eqb (sync_of s g) 0)) fs) h in
    let z : sync_of s f ≡ 0 = eqb-true (sync_of s f) 0 (not-false _ b.0) in
    rw (z, chain_none s, no_changes s fs b.1)

module _ (s : List ℕ) (t : Tables) (w : Opened s t) where
  pub no_entries : t.time_count ≡ 0 → (e : Entry) → Last s e
  no_entries z e = let k = opened_known s t w in record { latest = λ h. absurd (omega (arith, k.time_count_lem)) }

  pub last_is : (e : Entry) → EntryAt s e.number e.position e.time → e.number + 1 ≡ t.time_count → Last s e
  last_is e a q = let k = opened_known s t w in record { latest = λ h o. record { here = a; later = λ j b c. absurd (omega (arith, k.time_count_lem)) } }

  empty_table : time_count s ≡ 0 → all_changes s ≡ []
  unfolding all_changes times_allowed
  empty_table z =
      let k = opened_known s t w in
      let r : (if eqb (time_count s) 0 then not (any (λ f. not (eqb (sync_of s f) 0)) (roots_of s)) else table_allowed s) ≡ true = k.passed.times in
      no_changes s (roots_of s) (not-true _ (rw (eq-eqb (time_count s) 0 z) at r))

  -- at the start all entries are still to be gone down
  pub timed_begun : (os : List ℕ) (e : Entry) → Last s e → sort (pending_changes s 0 os) ≡ all_left s → Timed s os e
  unfolding sort
  timed_begun os e l q = record { latest = λ h. l.latest (some h) (high os) }
    where
      some : 0 < high os → 0 < time_count s
      some h =
          on_zero (time_count s)
          (λ z.
          let none : length (sort (pending_changes s 0 os)) ≡ 0 = rw (q, empty_table z) in
          let one = length_left s os h in
          absurd (omega arith))
          (λ k. k)

-- a step does not raise the highest pending offset
step_low : (s os : List ℕ) (i : ℕ) → 0 < high os → get_or (step s os) i 0 ≤ high os
unfolding step
step_low s os i h =
    elim (ℕ_discrete i (top os)) [
      | yes e ↦ (
          let l = top_lt os h in
          let p = previous_lt s (high os) h in
          rw (e, get_or-set_same os (top os) (previous_of s (high os)) 0 l) (omega arith))
      | no n ↦ rw (get_or-set_other os (top os) i (previous_of s (high os)) 0 n) (high_ge os i)
    ]

pub timed_next : (s os : List ℕ) (e : Entry) → 0 < high os → Latest s (high os) e.number e.position e.time → Timed s (step s os) e
timed_next s os e h l =
    let low = step_low s os (top (step s os)) h in
    record { latest = λ k. record { here = l.here; later = λ j a b. omega (arith, l.later j a b) } }

-- a step leaves the other pending offsets
step_other : (s os : List ℕ) (i : ℕ) → (i ≡ top os → ⊥) → get_or (step s os) i 0 ≡ get_or os i 0
unfolding step
step_other s os i n = get_or-set_other os (top os) i (previous_of s (high os)) 0 n

-- ---- one step

module _ (s : List ℕ) (t : Tables) (w : Opened s t) (m : ℕ) (nodes : List ℕ) (p : Waiting s t m nodes) where
  -- T lies in the file
  ending : end_of s ≤ length s
  ending = let k = opened_known s t w in omega (arith, k.end, k.end_high)

  -- every change that is left can be read
  pub take_asks : Tree m nodes × Readable s (drop m nodes)
  take_asks = (p.tree, record { short = (opened_known s t w).long; inside = ending; each = p.each })

  module _ (f o : ℕ) (ef : f ≡ top (drop m nodes)) (eo : o ≡ high (drop m nodes)) where
    -- no change is left, and none is taken
    pub none_left : o ≡ 0 → (nodes' : List ℕ) → Tree m nodes' → drop m nodes' ≡ offsets_after s 1 (drop m nodes) → (out : List ℕ) (e : Entry) → Timed s (drop m nodes) e
        → ((high (drop m nodes) ≡ 0) × (out ≡ onto (next_line s (drop m nodes)) out))
        × ((Waiting s t m nodes' × (drop m nodes' ≡ offsets_after s 1 (drop m nodes))) × Timed s (drop m nodes') e)
    none_left z nodes' tree en out e v =
        let h : high (drop m nodes) ≡ 0 = sym eo ∙ z in
        let same : drop m nodes' ≡ drop m nodes = en ∙ quiet_after s (drop m nodes) h in
        let still : Waiting s t m nodes' = record { tree = tree; room = p.room; past = λ i k. rw same (p.past i k); each = rw same p.each } in
        ((h, rw (quiet_line s (drop m nodes) h)), ((still, en), rw same v))

    module _ (some : o ≡ 0 → ⊥) where
      positive : 0 < high (drop m nodes)
      positive = omega arith

      -- the change that was taken is one of the file's
      pub here : Allowed s (pair_of f o)
      here = rw (ef, eo) (each_step s (drop m nodes) positive p.each).0

      pub number_below : f < t.facilities
      number_below = elim (dec_le t.facilities f) [
        | yes q ↦ let z = p.past (top (drop m nodes)) (rw ef at q) in absurd (omega arith)
        | no q ↦ omega arith
      ]

      pub number_small : f < 4294967296
      number_small = let b = number_below in let k = (opened_known s t w).few in omega arith

      pub down_asks : (e : Entry) → Timed s (drop m nodes) e → Latest s o e.number e.position e.time
      down_asks e v = rw eo (v.latest positive)

      -- its line is put, and the others are left
      pub stepped : (nodes' : List ℕ) → Tree m nodes' → drop m nodes' ≡ offsets_after s 1 (drop m nodes) → (e : Entry) → Latest s o e.number e.position e.time
          → (r : ℕ) (out out' : List ℕ) → r ≡ length (change_line s (pair_of f o)) → out' ≡ onto (change_line s (pair_of f o)) out
          → (((0 < high (drop m nodes)) × (r ≡ length (next_line s (drop m nodes)))) × (out' ≡ onto (next_line s (drop m nodes)) out))
          × ((Waiting s t m nodes' × (drop m nodes' ≡ offsets_after s 1 (drop m nodes))) × Timed s (drop m nodes') e)
      stepped nodes' tree en entry latest r out out' er eb =
          let e : drop m nodes' ≡ step s (drop m nodes) = en ∙ next_after s (drop m nodes) positive in
          let line : next_line s (drop m nodes) ≡ change_line s (pair_of f o) = rw (ef, eo) (next_line_lem s (drop m nodes) positive) in
          let b : top (drop m nodes) < t.facilities = rw ef at number_below in (
            ((positive, rw line er), rw line eb),
            (
              (
                record {
                  tree = tree;
                  room = p.room;
                  past = λ i k. rw e (step_other s (drop m nodes) i (λ z. omega arith) ∙ p.past i k);
                  each = rw e (each_step s (drop m nodes) positive p.each).1;
                },
                en,
              ),
              rw e (timed_next s (drop m nodes) entry positive (rw eo at latest)),
            ),
          )

-- ---- a line fits the buffer that holds it

pub line_fits : (line out out' : List ℕ) (r : ℕ) → r ≡ length line → out' ≡ onto line out → r ≤ length out'
line_fits line out out' r er eo =
    let e : length out' ≡ length line + length (drop (length line) out) = rw eo (length-append line (drop (length line) out)) in
    omega arith

-- ---- how many changes there are

-- changes that end each at or below the start of the one above it are no more than bytes
stacked_few : (end : Pair → ℕ) (bound : ℕ) (l : List Pair) → Each (λ p. p.offset < end p) l → stacked end bound l ≡ true → length l ≤ bound
unfolding stacked
stacked_few end bound [] Each.none h = omega arith
stacked_few end bound (p ∷ l) (Each.both k a) h =
    let q = and_both (leb (end p) bound) (stacked end p.offset l) h in
    let ih = stacked_few end p.offset l a q.1 in
    let e = leb-true (end p) bound q.0 in
    omega arith

pub few_changes : (s : List ℕ) (t : Tables) → Opened s t → length (all_left s) < 4294967295
few_changes s t w =
    let k = opened_known s t w in
    let y = accepted s w.accepted in
    let same : all_left s ≡ sort (pending_changes s 0 (root_offsets s)) = ap sort (all_roots s) in
    let each : Each (λ p. p.offset < end_at s p) (all_left s) = each_map (λ p a. (allowed_fits s a).starts) (each_sort (all_allowed s y.chains)) in
    let stack : stacked (end_at s) (end_of s) (all_left s) ≡ true = rw same (sym (apart_stacked s y.chains) ∙ y.apart) in
    let few = stacked_few (end_at s) (end_of s) (all_left s) each stack in
    omega (arith, k.end, k.end_high, k.long)
