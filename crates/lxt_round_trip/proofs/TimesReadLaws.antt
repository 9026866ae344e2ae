-- Numbers that never fall, written as deltas, and the entries of the changes with a new time.
use Prim.Native.Nat.{ℕ, suc, ◌+◌, ◌-◌, ◌≤◌, ◌<◌}
use mathlib.Core.Path.{◌≡◌, refl, sym, ap, ◌∙◌}
use mathlib.Core.Bool.{true, false}
use mathlib.Core.List.{List, [], ◌∷◌, map}
use lib.ListN.{length, get_or}
use lib.IntN.{ℤ, pos, ◌+ℤ◌, pos-+ℤ-pos}
use lib.Dec.{leb, eqb}
use native.Mathlib.Omega.{arith}
use borrow.Author.Tests.{lt-ltb, lt-leb, le-leb, eqb-true}
use Rattle.lxt_format.specs.BasicsLaws.{on_test}
use Rattle.lxt_format.specs.Bytes.{signed}
use Rattle.lxt_format.specs.Times.{time_of_bytes, sums_by, time_from}
use Rattle.lxt_chains.specs.Pending.{Each}
use Rattle.lxt_chains.proofs.Lists.{each_map, each_both}
use Rattle.lxt_written.specs.WrittenChanges.{Laid}
use Rattle.lxt_written.specs.WrittenFile.{new_times_after, entries_of, deltas_from}
use Rattle.lxt_round_trip.proofs.ListLaws.{each_at}
use Rattle.lxt_round_trip.proofs.LaidLaws.{InOrder, none, both, order_within}

-- ---- numbers that never fall

-- the first is not below `before`
pub data NeverFall : ℕ → List ℕ → Type 0 where
  end : {before : ℕ} → NeverFall before []
  next : {before x : ℕ} {xs : List ℕ} → before ≤ x → NeverFall x xs → NeverFall before (x ∷ xs)

-- none is below what they start from
above_start : {before : ℕ} {xs : List ℕ} → NeverFall before xs → Each (λ x. before ≤ x) xs
above_start end = Each.none
above_start (next {x = x} h rest) = Each.both {x = x} h (each_map (λ y k. omega arith) (above_start rest))

-- none is below the first
pub above_first : {before : ℕ} {xs : List ℕ} → NeverFall before xs → Each (λ x. get_or xs 0 0 ≤ x) xs
above_first end = Each.none
above_first (next {x = x} h rest) = Each.both {x = x} (omega arith) (above_start rest)

-- nor above the last
last_most : {x : ℕ} {xs : List ℕ} → NeverFall x xs → Each (λ y. y ≤ get_or (x ∷ xs) (length xs) 0) (x ∷ xs)
last_most (end {before = x}) = Each.both {x = x} (omega arith) Each.none
last_most (next {before = x} {x = y} {xs = ys} h rest) =
    let ih = last_most rest in
    let first : y ≤ get_or (y ∷ ys) (length ys) 0 = each_at 0 ih 0 (omega arith) in
    Each.both {x = x} (omega arith) ih

-- the last is the one at the end of the list
pub below_last : {before : ℕ} {xs : List ℕ} → NeverFall before xs → Each (λ x. x ≤ get_or xs (length xs - 1) 0) xs
below_last end = Each.none
below_last (next {xs = xs} h rest) = let e : suc (length xs) - 1 ≡ length xs = omega arith in rw e (last_most rest)

-- ---- deltas

-- the sums of their deltas are the numbers
pub sums_back : {before : ℕ} {xs : List ℕ} → NeverFall before xs → sums_by ◌+◌ before (deltas_from before xs) ≡ xs
unfolding sums_by deltas_from
sums_back end = refl
sums_back (next {before = a} {x = x} h rest) = let e : a + (x - a) ≡ x = omega arith in rw (e, sums_back rest)

-- a number of 32 bits is a time that is not negative
pub small_time : (x : ℕ) → x < 4294967296 → time_of_bytes x ≡ pos x
unfolding signed
small_time x h = let l : x < 9223372036854775808 = omega arith in rw (lt-ltb x 9223372036854775808 l)

-- deltas are as small as the numbers
pub deltas_small : (before : ℕ) {xs : List ℕ} → Each (λ x. x < 4294967296) xs → Each (λ x. x < 4294967296) (deltas_from before xs)
unfolding deltas_from
deltas_small before Each.none = Each.none
deltas_small before (Each.both {x = x} h rest) = Each.both {x = x - before} (omega arith) (deltas_small x rest)

-- as times they are what they are as numbers
pub small_times : {xs : List ℕ} → Each (λ x. x < 4294967296) xs → map time_of_bytes xs ≡ map pos xs
small_times Each.none = refl
small_times (Each.both {x = x} h rest) = rw (small_time x h, small_times rest)

-- and so are their sums
pub times_back : {before : ℕ} {xs : List ℕ} → NeverFall before xs → sums_by ◌+ℤ◌ (pos before) (map pos (deltas_from before xs)) ≡ map pos xs
unfolding sums_by deltas_from
times_back end = refl
times_back (next {before = a} {x = x} h rest) =
    let e : pos a +ℤ pos (x - a) ≡ pos x = pos-+ℤ-pos a (x - a) ∙ ap pos (omega arith) in
    rw (e, times_back rest)

-- ---- the entries of changes

-- what holds of each change holds of each that has an entry
each_new : {P : Laid → Type 0} (time : ℕ) {ls : List Laid} → Each P ls → Each P (new_times_after time ls)
unfolding new_times_after
each_new time Each.none = Each.none
each_new time (Each.both {x = l} h rest) =
    let same = each_new time rest in
    let new = each_new l.time rest in
    on_test (eqb l.time time) (λ e. rw e same) (λ e. rw e (Each.both h new))

-- of the first change too
pub each_entry : {P : Laid → Type 0} {ls : List Laid} → Each P ls → Each P (entries_of ls)
unfolding entries_of
each_entry Each.none = Each.none
each_entry (Each.both {x = l} h rest) = Each.both h (each_new l.time rest)

-- where there is no entry there is no change
pub no_entry : (ls : List Laid) → length (entries_of ls) ≡ 0 → ls ≡ []
unfolding entries_of
no_entry [] h = refl
no_entry (l ∷ ls) h = absurd (omega arith)

-- offsets of entries never fall
new_offsets : {e o : ℕ} {ls : List Laid} (time before : ℕ) → InOrder e o ls → before ≤ o → NeverFall before (map (λ l. l.offset) (new_times_after time ls))
unfolding new_times_after
new_offsets time before none h = end
new_offsets time before (both {l = l} p long rest) h =
    let same = new_offsets time before rest (omega arith) in
    let new = new_offsets l.time l.offset rest (omega arith) in
    on_test (eqb l.time time) (λ e. rw e same) (λ e. rw e (next {before = before} {x = l.offset} (omega arith) new))

-- with the first change, from 0 on
pub entry_offsets : {e o : ℕ} {ls : List Laid} → InOrder e o ls → NeverFall 0 (map (λ l. l.offset) (entries_of ls))
unfolding entries_of
entry_offsets none = end
entry_offsets (both {l = l} p long rest) = next {before = 0} {x = l.offset} (omega arith) (new_offsets l.time l.offset rest (omega arith))

-- times never fall where those of the changes do not
new_times : (time : ℕ) (ls : List Laid) → NeverFall time (map (λ l. l.time) ls) → NeverFall time (map (λ l. l.time) (new_times_after time ls))
unfolding new_times_after
new_times time [] h = end
new_times time (l ∷ ls) (next h rest) =
    let new = new_times l.time ls rest in
    on_test (eqb l.time time) (λ e. rw e (rw (eqb-true l.time time e) at new)) (λ e. rw e (next h new))

-- with the first change too
pub entry_times : (before : ℕ) (ls : List Laid) → NeverFall before (map (λ l. l.time) ls) → NeverFall before (map (λ l. l.time) (entries_of ls))
unfolding entries_of
entry_times before [] h = end
entry_times before (l ∷ ls) (next h rest) = next h (new_times l.time ls rest)

-- ---- the time of a change

-- the time that the entries `ls` give at o, where the time before them is `time`
abbrev time_by : ℕ → List Laid → ℕ → ℤ
time_by time ls o = time_from (pos time) (map (λ l. l.offset) ls) (map pos (map (λ l. l.time) ls)) o

-- entries that lie above o do not count
later_times : {e o : ℕ} {ls : List Laid} (time before p : ℕ) → InOrder e o ls → p < o → time_by time (new_times_after before ls) p ≡ pos time
unfolding new_times_after time_from
later_times time before p none h = refl
later_times time before p (both {l = l} q long rest) h =
    let same = later_times time before p rest (omega arith) in
    let new = later_times time l.time p rest (omega arith) in
    let above : leb l.offset p ≡ false = lt-leb l.offset p (omega arith) in
    on_test (eqb l.time before) (λ e. rw e same) (λ e. rw (e, above) new)

-- each change has the time of the last entry at or below it
new_told : {e o : ℕ} {ls : List Laid} (time : ℕ) → InOrder e o ls → Each (λ l. time_by time (new_times_after time ls) l.offset ≡ pos l.time) ls
unfolding new_times_after time_from
new_told time none = Each.none
new_told time (both {o = o} {l = l} {ls = ls} q long rest) =
    let within = order_within rest in
    let same = new_told time rest in
    let new = new_told l.time rest in
    let still = later_times time time l.offset rest (omega arith) in
    let here = later_times l.time l.time l.offset rest (omega arith) in
    let reached : leb l.offset l.offset ≡ true = le-leb l.offset l.offset (omega arith) in
    on_test (eqb l.time time)
    (λ e. rw e (Each.both (still ∙ ap pos (sym (eqb-true l.time time e))) same))
    (λ e. rw e (Each.both {x = l} (rw reached here) (each_map (λ x h. rw (le-leb l.offset x.offset (omega arith)) h.1) (each_both within new))))

-- an entry with the time before it changes nothing
same_time : (x : ℤ) (p : ℕ) (ps : List ℕ) (ts : List ℤ) (o : ℕ) → time_from x (p ∷ ps) (x ∷ ts) o ≡ time_from x ps ts o
unfolding time_from
same_time x p ps ts o = on_test (leb p o) (λ e. rw e) (λ e. rw e)

-- so the entries of all changes give each its time; before the first the time is that of entry 0
pub entry_told : {e o : ℕ} {ls : List Laid} → InOrder e o ls
    → Each (λ l.
    time_from (get_or (map pos (map (λ x. x.time) (entries_of ls))) 0 (pos 0)) (map (λ x. x.offset) (entries_of ls)) (map pos (map (λ x. x.time) (entries_of ls))) l.offset
    ≡ pos l.time) ls
unfolding entries_of
entry_told none = Each.none
entry_told (both {l = l} {ls = ls} q long rest) =
    let new = new_told l.time rest in
    let here = later_times l.time l.time l.offset rest (omega arith) in
    Each.both {x = l} (same_time _ _ _ _ _ ∙ here) (each_map (λ x h. same_time _ _ _ _ _ ∙ h) new)
