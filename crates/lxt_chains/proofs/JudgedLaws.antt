-- What is known of a file that judging accepts, for the crates above.
use Rattle.std.specs.Prelude.{ℕ, ◌≡◌, List, Some, Result}
use Rattle.std.specs.Result.{IsErrAnd}
use Rattle.std.proofs.Math.Path.{refl}
use Rattle.std.proofs.lemmas.Result.{err_from_is_err_and}
use Rattle.lxt_format.specs.Basics.{Answer, given, refused}
use Rattle.lxt_format.specs.BasicsLaws.{was_given}
use Rattle.lxt_format.specs.Judge.{tables_refusal, file_refusal, all_clean}
use Rattle.lxt_format.specs.Answers.{refusal_number}
use Rattle.lxt_tables.specs.Stage.{tables_of}
use Rattle.lxt_tables.specs.declared.Tables.{Tables}
use Rattle.lxt_chains.specs.Reading.{examined_of, examined, tables_passed, Tells}
use Rattle.lxt_chains.specs.declared.whole.Examined.{Examined}
use Rattle.lxt_chains.specs.declared.whole.Rejected.{Rejected}

pub record Accepted (s : List ℕ) (x : Examined) : Type 0 where
  pub refusal : file_refusal s ≡ 0
  pub clean : x.clean ≡ all_clean s
  pub tables : x.tables ≡ tables_of s

pub accepted : (s : List ℕ) (x : Examined) → given x ≡ examined s → Accepted s x
unfolding examined_of
accepted s x h =
    let w = was_given (file_refusal s) (examined_of s) x h in
    rw w.1 (record { refusal = w.0; clean = refl; tables = refl })

-- ---- the tables that go with a refusal

pub with_tables : (s : List ℕ) (t : Tables) → tables_refusal s ≡ 0 → t ≡ tables_of s → Some t ≡ tables_passed s
unfolding tables_passed
with_tables s t z e = rw (z, e)

-- a `?` passes both on
pub tells_passed : {B : Type 0} (s : List ℕ) (b : Answer B) (r : Result B Rejected) (e : Rejected)
    → IsErrAnd r (λ x. x ≡ e) → (refused (refusal_number e.refusal) ≡ b) × (e.tables ≡ tables_passed s) → Tells s b r
tells_passed s b r e h g = let p = err_from_is_err_and r h in rw (p.1, p.2) g
