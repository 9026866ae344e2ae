use native.Mathlib.Omega.{arith}
use Rattle.std.proofs.lemmas.Result.{err_from_is_err_and}
use Rattle.lxt_reader.proofs.NameWays.{length_refused, expand_asks, length_given, length_small}
use Rattle.lxt_reader.proofs.names.length_of.Goals as goal

pub returns-in_err-p : goal.returns-in_err-p
returns-in_err-p c =
    let p = err_from_is_err_and c.from_residual.result c.from_residual.ensures.1 in
    rw (p.1, p.2) (length_refused _ _ c.args.names.now _ c.in_err-p.ensures)

pub expand-length-requires : goal.expand-length-requires
expand-length-requires c = expand_asks _ _ c.args.names.now _ c.in_ok-p.ensures

pub overflow_cast-result : goal.overflow_cast-result
overflow_cast-result c = omega (arith, length_small _ _ c.args.names.now _ c.in_ok-p.ensures _ c.expand-length.ensures.0)

pub returns : goal.returns
returns c = length_given _ _ _ _ c.in_ok-p.ensures _ _ c.expand-length.ensures.0 c.expand-length.ensures.1
