use Rattle.lxt_format.specs.Basics.{answer}
use Rattle.lxt_format.specs.Questions.{change_refusal}
use Rattle.lxt_chains.proofs.JudgedLaws.{tells_passed}
use Rattle.lxt_reader.specs.Changing.{chain_at}
use Rattle.lxt_reader.proofs.ChangeWays.{looked_refused, chain_reads, chain_tables, not_on_chain, looked_found}
use Rattle.lxt_reader.proofs.changes.find_change.Goals as goal

pub returns-in_err-c : goal.returns-in_err-c
returns-in_err-c c =
    let chain = chain_at c.args.file.now c.args.facility in
    let refused = looked_refused _ _ c.args.offset chain _ c.in_err-c.ensures.0 in
    tells_passed _ (answer (change_refusal c.args.file.now c.args.facility c.args.offset) chain) c.from_residual.result _ c.from_residual.ensures.1 (refused, c.in_err-c.ensures.1)

pub on_chain-requires : goal.on_chain-requires
on_chain-requires c = chain_reads _ _ c.args.offset _ c.in_ok-c.ensures

pub returns-then-not-on_chain : goal.returns-then-not-on_chain
returns-then-not-on_chain c = (not_on_chain _ _ _ _ c.in_ok-c.ensures _ c.on_chain.ensures c.if-not-on_chain.true, chain_tables _ _ c.args.offset _ c.in_ok-c.ensures)

pub returns : goal.returns
returns c = looked_found _ _ _ _ c.in_ok-c.ensures _ c.on_chain.ensures c.if-not-on_chain.false
