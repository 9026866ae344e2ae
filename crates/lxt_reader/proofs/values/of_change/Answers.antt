use Rattle.std.proofs.lemmas.Result.{err_from_is_err_and}
use Rattle.lxt_reader.proofs.ChangeWays.{looked}
use Rattle.lxt_reader.proofs.ValueWays.{change_refused, change_short, times_there, padding_asks, readies, change_given}
use Rattle.lxt_reader.proofs.values.of_change.Goals as goal

pub returns-in_err-c : goal.returns-in_err-c
returns-in_err-c c =
    let p = err_from_is_err_and c.from_residual.result c.from_residual.ensures.1 in
    rw (p.1, p.2) (change_refused _ _ _ c.args.bits.now _ c.in_err-c.ensures.0)

pub returns-then-bits-facts : goal.returns-then-bits-facts
returns-then-bits-facts c = change_short _ _ _ c.args.bits.now _ (looked _ _ _ _ c.in_ok-c.ensures) c.if-bits-facts.true

pub new-times-requires : goal.new-times-requires
new-times-requires c = times_there _ _ _ (looked _ _ _ _ c.in_ok-c.ensures).chain

pub is_clean-clean-requires : goal.is_clean-clean-requires
is_clean-clean-requires c =
    let w = looked _ _ _ _ c.in_ok-c.ensures in
    padding_asks _ _ _ w.chain _ w.sound

pub read-value-requires : goal.read-value-requires
read-value-requires c =
    let w = looked _ _ _ _ c.in_ok-c.ensures in
    readies _ _ _ w.chain _ _ w.sound c.if-bits-facts.false

pub returns : goal.returns
returns c =
    change_given _ _ _ c.args.bits.now _ (looked _ _ _ _ c.in_ok-c.ensures) c.if-bits-facts.false _ c.time_of-time.type_inv (rw c.new-times.ensures.same_file at c.time_of-time.ensures) _ _
    c.read-value.ensures.0 c.read-value.ensures.1 _ c.is_clean-clean.ensures
