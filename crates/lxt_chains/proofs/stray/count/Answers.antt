use mathlib.Core.Path.{◌∙◌}
use Rattle.lxt_format.specs.Stray.{stray_asked, stray_bytes}
use Rattle.lxt_format.proofs.AnswerLaws.{says_passed}
use Rattle.lxt_tables.proofs.WholeLaws.{located_bad}
use Rattle.lxt_chains.proofs.SortingLaws.{bodies_sorted}
use Rattle.lxt_chains.proofs.WholeWays.{tables_refused, chains_refused, count_asks, count_fits, count_told}
use Rattle.lxt_chains.proofs.stray.count.Goals as goal

pub returns-in_err-p : goal.returns-in_err-p
unfolding stray_asked
returns-in_err-p c =
    says_passed c.from_residual.result _ c.from_residual.ensures.1
    ∙ tables_refused _ (stray_bytes c.args.file.now) _ (located_bad _ _ c.in_err-p.ensures)

pub tables_from-requires : goal.tables_from-requires
tables_from-requires c = c.in_ok-p.ensures

pub returns-in_err-t : goal.returns-in_err-t
unfolding stray_asked
returns-in_err-t c =
    says_passed c.from_residual-in_err-t.result _ c.from_residual-in_err-t.ensures.1
    ∙ tables_refused _ (stray_bytes c.args.file.now) _ c.in_err-t.ensures

pub bodies-parts-requires : goal.bodies-parts-requires
bodies-parts-requires c = count_asks _ _ _ c.in_ok-p.ensures c.in_ok-t.ensures

pub returns-in_err-found : goal.returns-in_err-found
unfolding stray_asked
returns-in_err-found c =
    says_passed c.from_residual-in_err-found.result _ c.from_residual-in_err-found.ensures.1
    ∙ chains_refused _ _ c.in_ok-t.ensures (stray_bytes c.args.file.now) _ _ c.in_err-found.ensures

pub overflow_cast-result : goal.overflow_cast-result
overflow_cast-result c =
    record { fits = count_fits _ _ c.in_ok-t.ensures _ _ c.in_ok-found.ensures (bodies_sorted _ _ _ c.bodies-parts.ensures c.put_in_order.ensures) }

pub returns : goal.returns
returns c = count_told _ _ c.in_ok-t.ensures _ _ c.in_ok-found.ensures (bodies_sorted _ _ _ c.bodies-parts.ensures c.put_in_order.ensures)
