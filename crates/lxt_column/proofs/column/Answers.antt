use lib.ListN.{length}
use mir.Syntax.{w64}
use mir.ValLaws.{to_z-of_z}
use Rattle.std.proofs.lemmas.Result.{err_from_is_err_and}
use Rattle.lxt_column.proofs.ColumnWays.{file_fine, tables_are, file_refused, too_long, wrong_number, list_known, roots_ask, roots_known}
use Rattle.lxt_column.proofs.column.Goals as goal

pub returns-in_err-t : goal.returns-in_err-t
returns-in_err-t c =
    let p = err_from_is_err_and c.from_residual.result c.from_residual.ensures.1 in
    let all = file_refused c.args.file.now c.args.time c.args.facilities.now (length c.args.text.now) c.args.bits.now c.args.records.now _ c.in_err-t.ensures.0 in
    rw (p.1, p.2) (record { result_value = all.0; bits_after = all.1.0; records_after = all.1.1 })

pub returns-then-not-length_is_allowed : goal.returns-then-not-length_is_allowed
returns-then-not-length_is_allowed c =
    let all = too_long _ _ _ _ _ _ (file_fine _ _ c.in_ok-t.ensures) _ c.length_is_allowed.ensures c.if-not-length_is_allowed.true in
    record { result_value = all.0; bits_after = all.1.0; records_after = all.1.1 }

pub returns-then-not-all_below : goal.returns-then-not-all_below
returns-then-not-all_below c =
    let all = wrong_number _ _ _ _ _ _ (file_fine _ _ c.in_ok-t.ensures) _ c.length_is_allowed.ensures c.if-not-length_is_allowed.false _ (tables_are _ _ c.in_ok-t.ensures) _ c.all_below.ensures c.if-not-all_below.true in
    record { result_value = all.0; bits_after = all.1.0; records_after = all.1.1 }

pub geometry-requires : goal.geometry-requires
geometry-requires c = (roots_ask _ _ (file_fine _ _ c.in_ok-t.ensures) (tables_are _ _ c.in_ok-t.ensures)).0

pub put_roots-requires : goal.put_roots-requires
put_roots-requires c =
    rw (c.geometry.ensures.same_file, c.geometry.ensures.place.1)
    (roots_ask _ _ (file_fine _ _ c.in_ok-t.ensures) (tables_are _ _ c.in_ok-t.ensures)).1

pub by_roots-requires : goal.by_roots-requires
by_roots-requires c =
    let fine = file_fine _ _ c.in_ok-t.ensures in (
      list_known _ _ fine _ (tables_are _ _ c.in_ok-t.ensures) _ c.length_is_allowed.ensures c.if-not-length_is_allowed.false _ c.all_below.ensures c.if-not-all_below.false,
      roots_known _ _ fine (tables_are _ _ c.in_ok-t.ensures) _ _ (rw (c.geometry.ensures.same_file, c.geometry.ensures.place.1) at c.put_roots.ensures),
    )

pub returns : goal.returns
returns c =
    let time = to_z-of_z w64 c.args.time c.ranges.time in
    let put = c.by_roots.ensures in
    record { result_value = rw time at put.result_value; bits_after = rw time at put.bits_after; records_after = rw time at put.records_after }
