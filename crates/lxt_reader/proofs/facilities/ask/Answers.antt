use Rattle.lxt_chains.proofs.JudgedLaws.{tells_passed}
use Rattle.lxt_reader.specs.Asking.{asked_of, asked}
use Rattle.lxt_reader.proofs.AskWays.{file_refused, not_below, tables_go, geometry_there, asked_fine}
use Rattle.lxt_reader.proofs.facilities.ask.Goals as goal

pub returns-in_err-tables : goal.returns-in_err-tables
returns-in_err-tables c =
    let refused = file_refused _ c.args.facility (asked_of c.args.file.now c.args.facility) _ c.in_err-tables.ensures.0 in
    tells_passed _ (asked c.args.file.now c.args.facility) c.from_residual.result _ c.from_residual.ensures.1 (refused, c.in_err-tables.ensures.1)

pub returns-then-tables-facility : goal.returns-then-tables-facility
returns-then-tables-facility c = (not_below _ _ _ c.in_ok-tables.ensures c.if-tables-facility.true, tables_go _ c.args.facility _ c.in_ok-tables.ensures)

pub geometry-requires : goal.geometry-requires
geometry-requires c = geometry_there _ c.args.facility _ c.in_ok-tables.ensures

pub returns : goal.returns
returns c = asked_fine _ _ _ c.in_ok-tables.ensures c.if-tables-facility.false _ (rw c.geometry.ensures.same_file at c.root-root.ensures)
