use Rattle.std.proofs.lemmas.Result.{err_from_is_err_and}
use Rattle.lxt_values.proofs.BiasLaws.{latest_at_lem}
use Rattle.lxt_reader.proofs.ChangeWays.{chained}
use Rattle.lxt_reader.proofs.ValueWays.{times_there, chain_there}
use Rattle.lxt_reader.proofs.TextWays.{text_refused, text_another, text_lent, text_there, text_found}
use Rattle.lxt_reader.proofs.texts.place_at.Goals as goal

pub returns-in_err-chain : goal.returns-in_err-chain
returns-in_err-chain c =
    let p = err_from_is_err_and c.from_residual.result c.from_residual.ensures.1 in
    rw (p.1, p.2) (text_refused _ _ c.args.time _ _ c.in_err-chain.ensures.0)

pub returns-in_default : goal.returns-in_default
returns-in_default c = text_another _ _ c.args.time _ _ (chained _ _ _ c.in_ok-chain.ensures) c.in_default.not-Text

pub new-times-requires : goal.new-times-requires
new-times-requires c = times_there _ _ _ (chained _ _ _ c.in_ok-chain.ensures)

pub latest-requires : goal.latest-requires
latest-requires c = rw c.new-times.ensures.same_file (chain_there _ _ _ (chained _ _ _ c.in_ok-chain.ensures))

pub text_of-requires : goal.text_of-requires
text_of-requires c =
    let latest = latest_at_lem _ _ c.ranges.time _ _ _ (rw c.new-times.ensures.same_file at c.latest.ensures) in
    text_there _ _ _ 0 _ (chained _ _ _ c.in_ok-chain.ensures) c.in-Text.is _ _ latest _ c.in-Some.is

pub returns-in-Some : goal.returns-in-Some
returns-in-Some c =
    let latest = latest_at_lem _ _ c.ranges.time _ _ _ (rw c.new-times.ensures.same_file at c.latest.ensures) in
    text_found _ _ _ _ _ (chained _ _ _ c.in_ok-chain.ensures) c.in-Text.is _ _ latest _ c.in-Some.is _ c.text_of.ensures

pub returns-in-None : goal.returns-in-None
returns-in-None c =
    let latest = latest_at_lem _ _ c.ranges.time _ _ _ (rw c.new-times.ensures.same_file at c.latest.ensures) in
    text_lent _ _ _ _ _ (chained _ _ _ c.in_ok-chain.ensures) c.in-Text.is _ _ latest c.in-None.is
