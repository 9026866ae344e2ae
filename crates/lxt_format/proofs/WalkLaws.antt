-- Laws of what a walk asks for: it is a root, and with all asked for it is every root.
use Rattle.std.specs.Prelude.{ℕ, zero, suc, ◌+◌, ◌≤◌, ◌<◌, ◌≡◌, refl, Bool, true, false, ◌&&◌, List, get_or}
use Rattle.std.proofs.Common.{arith, sym, ◌∙◌, eqb-true, eq-eqb}
use Rattle.std.proofs.Math.Bool.{not}
use Rattle.std.proofs.lemmas.Bool.{false≢true}
use Rattle.std.proofs.lemmas.List.{get_or-replicate}
use Rattle.std.proofs.Math.Dec.{eqb}
use Rattle.lxt_format.specs.Basics.{range, select}
use Rattle.lxt_format.specs.BasicsLaws.{on_test, and_both, both_and, any_range, range_any}
use Rattle.lxt_format.specs.Sections.{facility_count}
use Rattle.lxt_format.specs.Geometry.{is_alias, root_of, aliases_allowed, roots_of}
use Rattle.lxt_format.proofs.GeometryLaws.{root_no_alias, root_self, root_below}
use Rattle.lxt_format.specs.Judge.{all_changes}
use Rattle.lxt_format.specs.Walk.{asks, sort, full_list, all_asked}

-- two tests that agree on a range select the same of it
select_same : (p q : ℕ → Bool) (i k : ℕ) → ((j : ℕ) → i ≤ j → j < i + k → p j ≡ q j) → select p (range i k) ≡ select q (range i k)
unfolding select range
select_same p q i zero h = refl
select_same p q i (suc k) h =
    let rest = select_same p q (suc i) k (λ j a b. h j (omega arith) (omega arith)) in
    rw (h i (omega arith) (omega arith), rest)

module _ (s : List ℕ) where
  -- what is asked for is the root of a facility whose asked byte is not 0
  pub asked_by : {P : Type 0} (asked : List ℕ) (f : ℕ) → asks s asked f ≡ true
      → ((g : ℕ) → g < facility_count s → not (eqb (get_or asked g 0) 0) ≡ true → root_of s g ≡ f → P) → P
  unfolding asks
  asked_by asked f a found =
      any_range (λ g. not (eqb (get_or asked g 0) 0) && eqb (root_of s g) f) 0 (facility_count s) a
      (λ g b c e. let both = and_both (not (eqb (get_or asked g 0) 0)) (eqb (root_of s g) f) e in found g (omega arith) both.0 (eqb-true _ _ both.1))

  -- it is no alias
  pub asked_root : (asked : List ℕ) (f : ℕ) → f < facility_count s → asks s asked f ≡ true → is_alias s f ≡ false
  asked_root asked f h a = asked_by asked f a (λ g b c e. rw e at (root_no_alias s g (rw e h)))

  -- and where every alias has a root, it is a facility
  pub asked_below : aliases_allowed s ≡ true → (asked : List ℕ) (f : ℕ) → asks s asked f ≡ true → f < facility_count s
  asked_below ok asked f a = asked_by asked f a (λ g b c e. rw e at (root_below s ok g b))

  -- a root whose asked byte is not 0 is asked for
  asked_self : (asked : List ℕ) (f : ℕ) → f < facility_count s → is_alias s f ≡ false → not (eqb (get_or asked f 0) 0) ≡ true → asks s asked f ≡ true
  unfolding asks
  asked_self asked f h e b =
      range_any (λ g. not (eqb (get_or asked g 0) 0) && eqb (root_of s g) f) 0 (facility_count s) f (omega arith) (omega arith)
      (both_and _ _ b (eq-eqb _ _ (root_self s f h e)))

  -- where every byte asks, the roots are asked for
  asks_roots : (asked : List ℕ) → ((g : ℕ) → g < facility_count s → not (eqb (get_or asked g 0) 0) ≡ true)
      → (f : ℕ) → f < facility_count s → asks s asked f ≡ not (is_alias s f)
  asks_roots asked every f h =
      on_test (is_alias s f)
      (λ e. on_test (asks s asked f) (λ a. absurd (false≢true (sym (asked_root asked f h a) ∙ e))) (λ a. rw (a, e)))
      (λ e. rw (asked_self asked f h e (every f h), e))

  -- and the full list is all changes of the file, by falling offset
  pub every_asked : (asked : List ℕ) → ((g : ℕ) → g < facility_count s → not (eqb (get_or asked g 0) 0) ≡ true) → full_list s asked ≡ sort (all_changes s)
  unfolding full_list all_changes roots_of
  every_asked asked every =
      rw (select_same (asks s asked) (λ f. not (is_alias s f)) 0 (facility_count s) (λ f a b. asks_roots asked every f (omega arith)))

  -- "with all asked for"
  pub all_asked_lem : full_list s (all_asked s) ≡ sort (all_changes s)
  unfolding all_asked
  all_asked_lem = every_asked (all_asked s) (λ g h. rw (get_or-replicate))
