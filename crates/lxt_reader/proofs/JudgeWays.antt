-- A law for each way out of judging.
use Prim.Native.Nat.{ℕ, ◌+◌, ◌<◌}
use mathlib.Core.Path.{◌≡◌, refl, sym}
use mathlib.Core.Bool.{true, ◌&&◌}
use mathlib.Core.List.{List}
use lib.IntN.{ℤ, pos, negsuc}
use lib.Dec.{lit<}
use native.Mathlib.Omega.{arith}
use mir.Syntax.{w8}
use mir.Val.{SFits, to_z, of_z}
use mir.ValLaws.{to_z-of_z}
use borrow.Author.Tests.{leb-true}
use Rattle.lxt_format.specs.Basics.{given, refused}
use Rattle.lxt_format.specs.Bytes.{byte_at, signed}
use Rattle.lxt_format.specs.BasicsLaws.{on_test, and_both, answer_given, same_refusal}
use Rattle.lxt_format.specs.Sections.{section_of, present, timescale_allowed, timescale_of}
use Rattle.lxt_format.specs.Judge.{file_refusal, summary_of, judge}
use Rattle.lxt_tables.proofs.TablesLaws.{Known, tables_known}
use Rattle.lxt_chains.specs.Reading.{examined_of, examined}
use Rattle.lxt_chains.specs.declared.whole.Examined.{Examined}
use Rattle.lxt_chains.proofs.JudgedLaws.{accepted}

-- a timescale from -21 to 2 fits 8 bits
allowed_fits : (z : ℤ) → timescale_allowed z ≡ true → SFits w8 z
unfolding timescale_allowed
allowed_fits (pos k) h = let l = leb-true k 2 h in record { sfits = omega arith }
allowed_fits (negsuc k) h = let l = leb-true (k + 1) 21 h in record { sfits = omega arith }

pub timescale_fits : (s : List ℕ) → SFits w8 (timescale_of s)
unfolding timescale_of
timescale_fits s =
    let scale : ℤ = signed 8 (byte_at s (section_of s 0x05)) in
    on_test (present s 0x05 && timescale_allowed scale) (λ h. rw h (allowed_fits scale (and_both (present s 0x05) (timescale_allowed scale) h).1))
    (λ h. rw h record { sfits = lit< tt })

-- the refusal of the file
pub judged_refused : (s : List ℕ) (n : ℕ) → refused n ≡ examined s → refused n ≡ judge s
unfolding judge
judged_refused s n h = same_refusal (file_refusal s) (file_refusal s) n (examined_of s) (summary_of s) refl h

module _ (s : List ℕ) (x : Examined) (h : given x ≡ examined s) where
  known : Known s x.tables
  known = tables_known s x.tables (accepted s x h).tables (accepted s x h).refusal

  pub end_small : x.tables.end < 4294967296
  end_small = let k = known in omega (arith, k.long, k.end_high)

  pub judged_given : given (record { facilities = x.tables.facilities; changes = x.tables.changes; end = x.tables.end; timescale = to_z w8 (of_z w8 x.tables.timescale); initial = x.tables.initial; clean = x.clean }) ≡ judge s
  unfolding judge summary_of
  judged_given =
      let k = known in
      let fits : SFits w8 x.tables.timescale = rw k.timescale (timescale_fits s) in
      rw (to_z-of_z w8 x.tables.timescale fits, k.facilities, k.changes, k.end, k.timescale, k.initial, (accepted s x h).clean)
      (sym (answer_given (file_refusal s) _ (accepted s x h).refusal))
