use mathlib.Core.Path.{◌∙◌}
use Rattle.lxt_format.proofs.AnswerLaws.{says_passed}
use Rattle.lxt_tables.proofs.WholeLaws.{located_passed, placed_given, not_named, all_named, middle_passed, names_bad, middle_bad, last_bad, all_right}
use Rattle.lxt_tables.proofs.whole.tables_by.Goals as goal

pub name_table_end-requires : goal.name_table_end-requires
name_table_end-requires c = placed_given _ _ c.requires

pub returns-in_default : goal.returns-in_default
returns-in_default c = names_bad _ (located_passed _ _ c.requires) (not_named _ c.in_default.ensures)

pub middle-requires : goal.middle-requires
middle-requires c = placed_given _ _ c.requires

pub returns-in_err-middle : goal.returns-in_err-middle
returns-in_err-middle c =
    says_passed c.from_residual.result _ c.from_residual.ensures.1
    ∙ middle_bad _ (located_passed _ _ c.requires) (all_named _ _ c.in-Some.ensures).0 _ c.in_err-middle.ensures

pub real_order-requires : goal.real_order-requires
real_order-requires c = placed_given _ _ c.requires

pub returns-in_err-order : goal.returns-in_err-order
returns-in_err-order c =
    says_passed c.from_residual-in_err-order.result _ c.from_residual-in_err-order.ensures.1
    ∙ last_bad _ (located_passed _ _ c.requires) (all_named _ _ c.in-Some.ensures).0 (middle_passed _ c.in_ok-middle.ensures) _ c.in_err-order.ensures

pub passed-requires : goal.passed-requires
passed-requires c = (placed_given _ _ c.requires, (all_named _ _ c.in-Some.ensures).1)

pub returns : goal.returns
returns c =
    rw c.passed.ensures
    (all_right _ (located_passed _ _ c.requires) (all_named _ _ c.in-Some.ensures).0 (middle_passed _ c.in_ok-middle.ensures) _ c.in_ok-order.ensures)
