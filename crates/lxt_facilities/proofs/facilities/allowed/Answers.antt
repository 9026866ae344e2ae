use lib.ListN.{get_or}
use mir.Syntax.{w32}
use mir.Val.{Fits}
use native.Mathlib.Omega.{arith}
use Rattle.lxt_facilities.proofs.FacilityLaws.{name_outside, kind_above, name_too_long, name_has_zero, width_decides}
use borrow.Author.Rules.{rules}
use Rattle.lxt_facilities.proofs.facilities.allowed.Goals as goal

pub overflow_add-start : goal.overflow_add-start
overflow_add-start c =
    let a : Fits w32 (get_or c.args.row 0 0) = search rules in
    let b : Fits w32 (get_or c.args.row 1 0) = search rules in
    omega arith

pub returns-then-names-start : goal.returns-then-names-start
returns-then-names-start c = search name_outside

pub returns-then-row-gt3 : goal.returns-then-row-gt3
returns-then-row-gt3 c = search kind_above

pub returns-then-not-length_is_allowed : goal.returns-then-not-length_is_allowed
returns-then-not-length_is_allowed c = search name_too_long

pub returns-then-not-no_zero : goal.returns-then-not-no_zero
returns-then-not-no_zero c = search name_has_zero

pub returns : goal.returns
returns c = search width_decides
