use mathlib.Core.Path.{◌∙◌}
use Rattle.lxt_chains.proofs.ChainLaws.{facility_allowed_lem, setting, fault_is}
use Rattle.lxt_chains.proofs.chains.fault_from.Goals as goal

pub own_facts-facts-requires : goal.own_facts-facts-requires
own_facts-facts-requires c =
    let pre = c.requires in
    let g = c.geometry.ensures in
    record {
      inside = rw g.place.1 pre.1.0;
      f_value = rw g.same_file (facility_allowed_lem _ _ pre.0 _ pre.1.0);
      f_value_2 = rw g.same_file pre.1.1;
    }

pub first_fault-requires : goal.first_fault-requires
first_fault-requires c = setting _ _ c.requires.0 _ c.requires.1.0 c.requires.1.1 _ (rw c.geometry.ensures.same_file at c.own_facts-facts.ensures)

pub returns : goal.returns
returns c =
    c.first_fault.ensures ∙ fault_is _ _ c.requires.0 _ c.requires.1.0 c.requires.1.1 _ (rw c.geometry.ensures.same_file at c.own_facts-facts.ensures) _
