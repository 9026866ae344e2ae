use Rattle.std.proofs.lemmas.Result.{err_from_is_err_and}
use Rattle.lxt_values.proofs.BiasLaws.{latest_at_lem}
use Rattle.lxt_reader.proofs.ChangeWays.{chained}
use Rattle.lxt_reader.proofs.ValueWays.{value_refused, value_short, times_there, chain_there, visited_fits, value_shows, value_given}
use Rattle.lxt_reader.proofs.values.at_time.Goals as goal

pub returns-in_err-chain : goal.returns-in_err-chain
returns-in_err-chain c =
    let p = err_from_is_err_and c.from_residual.result c.from_residual.ensures.1 in
    rw (p.1, p.2) (value_refused _ _ _ c.args.bits.now _ c.in_err-chain.ensures.0)

pub returns-then-bits-facts : goal.returns-then-bits-facts
returns-then-bits-facts c = value_short _ _ _ c.args.bits.now _ (chained _ _ _ c.in_ok-chain.ensures) c.if-bits-facts.true

pub new-times-requires : goal.new-times-requires
new-times-requires c = times_there _ _ _ (chained _ _ _ c.in_ok-chain.ensures)

pub latest-found-requires : goal.latest-found-requires
latest-found-requires c = rw c.new-times.ensures.same_file (chain_there _ _ _ (chained _ _ _ c.in_ok-chain.ensures))

pub overflow_cast-result : goal.overflow_cast-result
overflow_cast-result c =
    let latest = latest_at_lem _ _ c.ranges.time _ _ _ (rw c.new-times.ensures.same_file at c.latest-found.ensures) in
    record { fits = visited_fits _ _ _ _ (chained _ _ _ c.in_ok-chain.ensures) _ _ latest }

pub at-value-requires : goal.at-value-requires
at-value-requires c =
    let latest = latest_at_lem _ _ c.ranges.time _ _ _ (rw c.new-times.ensures.same_file at c.latest-found.ensures) in
    value_shows _ _ c.args.time c.args.bits.now _ (chained _ _ _ c.in_ok-chain.ensures) c.if-bits-facts.false _ _ latest

pub returns : goal.returns
returns c =
    let latest = latest_at_lem _ _ c.ranges.time _ _ _ (rw c.new-times.ensures.same_file at c.latest-found.ensures) in
    value_given _ _ _ c.args.bits.now _ (chained _ _ _ c.in_ok-chain.ensures) c.if-bits-facts.false _ _ latest _ _
    c.at-value.ensures.0 c.at-value.ensures.1
