use Rattle.lxt_format.specs.Basics.{answer}
use Rattle.lxt_format.specs.Questions.{facility_refusal}
use Rattle.lxt_chains.proofs.JudgedLaws.{tells_passed}
use Rattle.lxt_reader.specs.Changing.{chain_at}
use Rattle.lxt_reader.proofs.ChangeWays.{sync_asks, chain_found}
use Rattle.lxt_reader.proofs.AskWays.{asked_refused, all_known, root_asks}
use Rattle.lxt_reader.proofs.changes.find_chain.Goals as goal

pub returns-in_err-a : goal.returns-in_err-a
returns-in_err-a c =
    let chain = chain_at c.args.file.now c.args.facility in
    let refused = asked_refused _ _ chain _ c.in_err-a.ensures.0 in
    tells_passed _ (answer (facility_refusal c.args.file.now c.args.facility) chain) c.from_residual.result _ c.from_residual.ensures.1 (refused, c.in_err-a.ensures.1)

pub geometry-requires : goal.geometry-requires
geometry-requires c = (all_known _ _ _ c.in_ok-a.ensures).geometry_at

pub own_facts-facts-requires : goal.own_facts-facts-requires
own_facts-facts-requires c =
    let all = root_asks _ _ _ c.in_ok-a.ensures in
    let g = c.geometry.ensures in
    record { inside = rw g.place.1 all.0; f_value = rw g.same_file all.1.0; f_value_2 = rw g.same_file all.1.1 }

pub sync_of-start-requires : goal.sync_of-start-requires
sync_of-start-requires c = sync_asks _ _ _ c.in_ok-a.ensures

pub returns : goal.returns
returns c = chain_found _ _ _ c.in_ok-a.ensures _ (rw c.geometry.ensures.same_file at c.own_facts-facts.ensures) _ c.sync_of-start.ensures
