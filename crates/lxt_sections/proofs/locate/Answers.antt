use mathlib.Core.Path.{◌∙◌}
use Rattle.lxt_format.specs.BasicsLaws.{was_given}
use Rattle.lxt_format.proofs.AnswerLaws.{first_passed}
use Rattle.lxt_sections.specs.Stage.{frame_refusal, sections_refusal, sections_of}
use Rattle.lxt_sections.proofs.PlaceLaws.{framed, not_listed, placed_is, four, five, six, seven, rest, ready}
use Rattle.lxt_sections.proofs.locate.Goals as goal

pub returns-in_err-frame : goal.returns-in_err-frame
unfolding sections_refusal
returns-in_err-frame c =
    first_passed (frame_refusal c.args.file.now) _ (tt {0}) (sections_of c.args.file.now) c.from_residual.result _ c.from_residual.ensures.1 c.in_err-frame.ensures

pub returns-in_default : goal.returns-in_default
returns-in_default c = four _ (framed _ c.in_ok-frame.ensures) (not_listed _ c.in_default.ensures)

pub returns-then-p : goal.returns-then-p
returns-then-p c =
    let hb = framed _ c.in_ok-frame.ensures in
    let l = placed_is _ _ c.in-Some.ensures in
    five _ hb _ (c.placed-p.ensures ∙ l.1) l.0 c.if-p.true

pub returns-then-p-2 : goal.returns-then-p-2
returns-then-p-2 c =
    let hb = framed _ c.in_ok-frame.ensures in
    let l = placed_is _ _ c.in-Some.ensures in
    six _ hb _ (c.placed-p.ensures ∙ l.1) l.0 c.if-p.false c.if-p-2.true

pub returns-then-not-all_present : goal.returns-then-not-all_present
returns-then-not-all_present c =
    let hb = framed _ c.in_ok-frame.ensures in
    let l = placed_is _ _ c.in-Some.ensures in
    seven _ hb _ (c.placed-p.ensures ∙ l.1) l.0 c.if-p.false c.if-p-2.false _ c.all_present.ensures c.if-not-all_present.true

pub counted-requires : goal.counted-requires
counted-requires c =
    let hb = framed _ c.in_ok-frame.ensures in
    let l = placed_is _ _ c.in-Some.ensures in
    ready _ hb _ (c.placed-p.ensures ∙ l.1) l.0 c.if-p.false c.if-p-2.false _ c.all_present.ensures c.if-not-all_present.false

pub returns : goal.returns
returns c =
    let hb = framed _ c.in_ok-frame.ensures in
    let l = placed_is _ _ c.in-Some.ensures in
    rest _ hb _ (c.placed-p.ensures ∙ l.1) l.0 c.if-p.false c.if-p-2.false _ c.all_present.ensures c.if-not-all_present.false _ c.counted.ensures
