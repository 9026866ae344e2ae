use native.Mathlib.Omega.{arith}
use Rattle.std.proofs.lemmas.Result.{err_from_is_err_and}
use Rattle.lxt_changes.proofs.FaultLaws.{started, starts_before, bad_start, bad_body, body_inside_lem, bad_previous, no_fault}
use Rattle.lxt_changes.proofs.fault.change_fault.Goals as goal

pub returns-in_err-start_fault : goal.returns-in_err-start_fault
returns-in_err-start_fault c =
    let p = err_from_is_err_and c.from_residual.result c.from_residual.ensures.1 in
    rw (p.1, p.2) (record { told = bad_start _ _ _ _ _ _ _ c.in_err-start_fault.ensures; known = tt })

pub body_fault-requires : goal.body_fault-requires
body_fault-requires c =
    let z = started _ _ _ _ 0 _ c.in_ok-start_fault.ensures in
    (c.requires.0, (c.requires.1, starts_before _ _ _ _ 0 _ z))

pub returns-in_err-body : goal.returns-in_err-body
returns-in_err-body c =
    let z = started _ _ _ _ 0 _ c.in_ok-start_fault.ensures in
    let p = err_from_is_err_and c.from_residual-in_err-body.result c.from_residual-in_err-body.ensures.1 in
    rw (p.1, p.2) (record { told = bad_body _ _ _ _ _ _ z _ c.in_err-body.ensures.told; known = tt })

pub previous_allowed-requires : goal.previous_allowed-requires
previous_allowed-requires c =
    let z = started _ _ _ _ 0 _ c.in_ok-start_fault.ensures in
    let before = starts_before _ _ _ _ 0 _ z in
    (omega (arith, c.requires.0.within), body_inside_lem _ _ _ _ _ _ z _ c.in_ok-body.ensures.told c.requires.0.within)

pub returns-then-not-previous_allowed : goal.returns-then-not-previous_allowed
returns-then-not-previous_allowed c =
    let z = started _ _ _ _ 0 _ c.in_ok-start_fault.ensures in
    record {
      told = bad_previous _ _ _ _ _ _ z _ c.in_ok-body.ensures.told _ c.previous_allowed.ensures c.if-not-previous_allowed.true;
      known = tt;
    }

pub returns : goal.returns
returns c =
    let z = started _ _ _ _ 0 _ c.in_ok-start_fault.ensures in
    record {
      told = no_fault _ _ _ _ _ _ z _ c.in_ok-body.ensures.told _ c.previous_allowed.ensures c.if-not-previous_allowed.false;
      known = c.in_ok-body.ensures.known;
    }
