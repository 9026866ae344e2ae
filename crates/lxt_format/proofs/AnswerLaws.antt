-- The refusal that a `?` passes on.
use Rattle.std.specs.Prelude.{ℕ, ◌≡◌, Result, Ok, Err}
use Rattle.std.specs.Result.{IsErrAnd}
use Rattle.std.proofs.Common.{sym, ◌∙◌}
use Rattle.std.proofs.lemmas.Result.{err_from_is_err_and}
use Rattle.lxt_format.specs.Basics.{◌or_else◌, Answer, given, refused, answer}
use Rattle.lxt_format.specs.BasicsLaws.{passed_on}
use Rattle.lxt_format.specs.Answers.{refusal_number, says}
use Rattle.lxt_format.specs.declared.refusal.Refusal.{Refusal}

-- it is the callee's
pub says_passed : {B : Type 0} (r : Result B Refusal) (e : Refusal) → IsErrAnd r (λ x. x ≡ e) → says r ≡ refused (refusal_number e)
says_passed r e h = let p = err_from_is_err_and r h in rw (p.1, p.2)

-- so that checks that begin with the callee's give it
pub first_passed : {A B : Type 0} (k rest : ℕ) (a : A) (b : B) (r : Result B Refusal) (e : Refusal)
    → IsErrAnd r (λ x. x ≡ e) → refused (refusal_number e) ≡ answer k a → says r ≡ answer (k or_else rest) b
first_passed k rest a b r e h g = says_passed r e h ∙ passed_on k rest (refusal_number e) a b g
