use mathlib.Core.Path.{◌∙◌}
use Rattle.lxt_format.proofs.AnswerLaws.{says_passed}
use Rattle.lxt_format.specs.Geometry.{facts_of}
use Rattle.lxt_format.specs.Questions.{facts_asked}
use Rattle.lxt_reader.proofs.AskWays.{asked_refused, all_known, root_asks, facts_given}
use Rattle.lxt_reader.proofs.facilities.facts_of.Goals as goal

pub returns-in_err-a : goal.returns-in_err-a
unfolding facts_asked
returns-in_err-a c = says_passed c.from_residual.result _ c.from_residual.ensures.1 ∙ asked_refused _ _ (facts_of c.args.file.now c.args.facility) _ c.in_err-a.ensures.0

pub geometry-requires : goal.geometry-requires
geometry-requires c = (all_known _ _ _ c.in_ok-a.ensures).geometry_at

pub own_facts-requires : goal.own_facts-requires
own_facts-requires c =
    let all = root_asks _ _ _ c.in_ok-a.ensures in
    let g = c.geometry.ensures in
    record { inside = rw g.place.1 all.0; f_value = rw g.same_file all.1.0; f_value_2 = rw g.same_file all.1.1 }

pub returns : goal.returns
returns c = facts_given _ _ _ c.in_ok-a.ensures _ (rw c.geometry.ensures.same_file at c.own_facts.ensures)
