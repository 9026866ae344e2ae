-- Laws of what a call of the writer answers, and of the buffer after it.
use Prim.Native.Nat.{ℕ, ◌≤◌, ◌<◌}
use native.Mathlib.Omega.{arith}
use mathlib.Core.Path.{◌≡◌, ap, ◌∙◌}
use mathlib.Core.Bool.{false}
use mathlib.Core.List.{List}
use lib.ListN.{length}
use lib.IntN.{ℤ}
use borrow.Author.Tests.{le-leb, lt-leb}
use Rattle.std.specs.Prelude.{Option, Some, None, Result, Err, ok_or}
use Rattle.std.specs.Result.{IsErrAnd}
use Rattle.lxt_format.specs.Basics.{given, refused}
use Rattle.lxt_format.specs.Answers.{says}
use Rattle.lxt_format.specs.declared.refusal.Refusal.{Refusal}
use Rattle.lxt_format.specs.declared.refusal.Refusal.TheVariants.{Input}
use Rattle.lxt_format.proofs.AnswerLaws.{says_passed}
use Rattle.lxt_format.specs.Columns.{onto}
use Rattle.lxt_written.specs.Input.{trace_of}
use Rattle.lxt_written.specs.WrittenFile.{file_of}
use Rattle.lxt_written.specs.Writing.{input_allowed, write_refusal, write_asked, write_buffer}
use Rattle.lxt_layout.specs.declared.Places.{Places}
use Rattle.lxt_layout.specs.Layout.{PlacesFor}
use Rattle.lxt_layout.proofs.WholeLaws.{file_long}
use Rattle.lxt_writer.specs.declared.plan.Plan.{Plan}
use Rattle.lxt_writer.specs.Plan.{PlanFound, Planned}

module _ (facilities : List (List ℕ)) (names : List ℕ) (changes : List (List ℕ)) (values : List ℕ) (initial : ℕ) (timescale : ℤ) (out : List ℕ) where
  -- 24: there is no plan, since the input is not allowed
  pub answers_24 : (o : Option Plan) → Planned facilities names changes values initial timescale o → o ≡ None
      → (r : Result ℕ Refusal) (e : Refusal) → IsErrAnd r (λ x. x ≡ e) → ◌≡◌ {A = Result Plan Refusal} (Err e) (ok_or o Input)
      → (says r ≡ write_asked facilities names changes values initial timescale (length out))
      × (out ≡ write_buffer facilities names changes values initial timescale out)
  unfolding write_asked write_buffer write_refusal
  answers_24 o plan n r e h v =
      let no : input_allowed facilities names changes values initial timescale ≡ false = rw n at plan in
      let w : ◌≡◌ {A = Result Plan Refusal} (Err e) (Err Input) = rw n at v in
      let is : e ≡ Input = cc in
      (says_passed r e h ∙ rw (is, no), rw no)

  -- a plan that is there
  pub plan_there : (o : Option Plan) → Planned facilities names changes values initial timescale o → (r : Plan) → o ≡ Some r
      → PlanFound facilities names changes values initial timescale r
  plan_there o plan r e = rw e at plan

  module _ (r : Plan) (plan : PlanFound facilities names changes values initial timescale r) where
    -- the places say how long the file is
    long : (p : Places) → PlacesFor r.sizes p → p.length ≡ length (file_of (trace_of facilities names changes values initial timescale))
    long p pf = file_long (trace_of facilities names changes values initial timescale) r.sizes p plan.sizes pf

    module _ (p : Places) (pf : PlacesFor r.sizes p) where
      -- 25: there is no room
      pub answers_25 : length out < p.length
          → (refused 25 ≡ write_asked facilities names changes values initial timescale (length out))
          × (out ≡ write_buffer facilities names changes values initial timescale out)
      unfolding write_asked write_buffer write_refusal
      answers_25 h =
          let l = long p pf in
          let no = lt-leb (length (file_of (trace_of facilities names changes values initial timescale))) (length out) (omega arith) in
          (rw (plan.allowed, no), rw (plan.allowed, no))

      module _ (room : p.length ≤ length out) where
        -- it is written
        pub answers_written : (out' : List ℕ) → out' ≡ onto (file_of (trace_of facilities names changes values initial timescale)) out
            → (given p.length ≡ write_asked facilities names changes values initial timescale (length out))
            × (out' ≡ write_buffer facilities names changes values initial timescale out)
        unfolding write_asked write_buffer write_refusal
        answers_written out' e =
            let l = long p pf in
            let fits = le-leb (length (file_of (trace_of facilities names changes values initial timescale))) (length out) (omega arith) in
            (rw (plan.allowed, fits) (ap given l), rw (plan.allowed, fits) e)
